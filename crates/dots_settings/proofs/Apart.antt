-- What the lines of faultless rows keep: no domain stands twice, no more than 16 do, and no prefix of one meets one of another.
use Rattle.std.proofs.Common.{◌≡◌, ◌≢◌, ℕ, ◌+◌, ◌<◌, ◌≤◌, zero, suc, Bool, true, false, cond, not, ◌&&◌, ◌||◌, nat_le, ◌⊎◌, inl, inr, List, [], ◌∷◌, ◌++◌, length, map, filter, find, slice_get, bytes_eq, Contains, Option, Some, None, option_map, refl, sym, ap, subst, ◌∙◌, append-nil, length-append, true≢false, arith, if◌then◌else◌}
use Rattle.std.proofs.lemmas.Bool.Decides.{nat_tests}
use Rattle.std.proofs.lemmas.List.Elements.{Contains-append_cases, Contains-append_left, Contains-append_right, Contains-push, filter_map-append}
use Rattle.std.proofs.lemmas.Option.{slice_get-map}
use Rattle.std.proofs.lemmas.Slice.Eq.{bytes_eq-Decides}
use Rattle.std.specs.List.{list_any, filter_map, cons_option}
use Rattle.ip_scope.specs.Prefix.{PrefixValue, inside, meets}
use Rattle.dots_settings.specs.declared.draft.Scope.{Scope}
use Rattle.dots_settings.specs.declared.fault.SettingsFault.TheVariants as fault
use Rattle.dots_settings.specs.Form.{FormValue, domain_line, prefix_line}
use Rattle.dots_settings.specs.Row.{Row}
use Rattle.dots_settings.specs.Draft.{DraftValue, draft_of, domain_in, scope_in, forms_by}
use Rattle.dots_settings.specs.Faults.{fault_of, is_twice, is_unknown, is_overlap, overlap_of, overlap_or_limit, is_too_much}
use Rattle.dots_settings.specs.File.{AreFaultless}
use Rattle.dots_settings.specs.declared.domains.DomainRow.{DomainRow}
use Rattle.dots_settings.specs.Settings.{AreApart, domain_of, draft_prefixes}
use Rattle.dots_settings.specs.Admitting.{AreDistinct}
use Rattle.dots_settings.proofs.Drafts.{both_false, not_twice}

-- ---- tests

pub equal_then : (one other : List ℕ) → bytes_eq one other ≡ true → one ≡ other
equal_then one other is = (bytes_eq-Decides one other).0 is

differ_turned : (one other : List ℕ) → bytes_eq one other ≡ false → bytes_eq other one ≡ false
differ_turned one other is = by (bytes_eq other one) refl
  where
    by : (b : Bool) → bytes_eq other one ≡ b → b ≡ false
    by false e = refl
    by true e = absurd (true≢false (sym ((bytes_eq-Decides one other).1 (sym (equal_then other one e))) ∙ is))

meets_turned : (a b : PrefixValue) → meets a b ≡ false → meets b a ≡ false
meets_turned a b apart = by (inside a b) (inside b a) apart
  where
    by : (x y : Bool) → (x || y) ≡ false → (y || x) ≡ false
    by false false e = refl
    by false true e = absurd (true≢false e)
    by true y e = absurd (true≢false e)

-- ---- one row

not_overlap : (draft : DraftValue) (number : ℕ) (form : FormValue) → fault_of draft number form ≡ None → overlap_of draft form ≡ None
not_overlap draft number form none = by (is_twice draft form) (is_unknown draft form) (overlap_of draft form) (is_too_much draft form) none
  where
    by : (a b : Bool) (o : Option ℕ) (d : Bool) → (if a then Some (fault.Twice number) else if b then Some (fault.Unknown number) else overlap_or_limit number o d) ≡ None → o ≡ None
    by true b o d e = absurd (cc)
    by false true o d e = absurd (cc)
    by false false (Some first) d e = absurd (cc)
    by false false None d e = refl

pub not_too_much : (draft : DraftValue) (number : ℕ) (form : FormValue) → fault_of draft number form ≡ None → is_too_much draft form ≡ false
not_too_much draft number form none = by (is_twice draft form) (is_unknown draft form) (overlap_of draft form) (is_too_much draft form) none
  where
    by : (a b : Bool) (o : Option ℕ) (d : Bool) → (if a then Some (fault.Twice number) else if b then Some (fault.Unknown number) else overlap_or_limit number o d) ≡ None → d ≡ false
    by true b o d e = absurd (cc)
    by false true o d e = absurd (cc)
    by false false (Some first) d e = absurd (cc)
    by false false None true e = absurd (cc)
    by false false None false e = refl

-- ---- domains

new_domain : (draft : DraftValue) (number : ℕ) (form : FormValue) (name : List ℕ) → fault_of draft number form ≡ None → domain_in form ≡ Some name
    → (list_any (bytes_eq name) draft.domains ≡ false) × (length draft.domains < 16)
new_domain draft number (domain_line given) name none is =
    let same : given ≡ name = cc in
    let once = not_twice draft number (domain_line given) none in
    let few : nat_le 16 (length draft.domains) ≡ false = not_too_much draft number (domain_line given) none in
    (subst (λ (x : List ℕ). list_any (bytes_eq x) draft.domains ≡ false) same once, below (length draft.domains) few)
  where
    below : (n : ℕ) → nat_le 16 n ≡ false → n < 16
    below n e = grind (arith, nat_tests)
new_domain draft number _ name none is = absurd (cc)

one_more : {A : Type 0} (part : Row → Option A) (before : List Row) (row : Row) (o : Option A) → part row ≡ o → filter_map part (before ++ row ∷ []) ≡ filter_map part before ++ cons_option o []
one_more part before row o is = filter_map-append part before (row ∷ []) ∙ ap (λ p. filter_map part before ++ cons_option p []) is

-- no domain of the rows is one of those before it
pub distinct_rows : (before rows : List Row) → AreFaultless before rows → AreDistinct (forms_by domain_in before) (forms_by domain_in rows)
distinct_rows before [] are = tt
distinct_rows before (row ∷ rows) are = by (distinct_rows (before ++ row ∷ []) rows are.1) (domain_in row.form) refl
  where
    by : AreDistinct (forms_by domain_in (before ++ row ∷ [])) (forms_by domain_in rows) → (o : Option (List ℕ)) → domain_in row.form ≡ o
        → AreDistinct (forms_by domain_in before) (cons_option o (forms_by domain_in rows))
    by rest None is = subst (λ (xs : List (List ℕ)). AreDistinct xs (forms_by domain_in rows)) (one_more (λ row. domain_in row.form) before row None is ∙ append-nil (forms_by domain_in before)) rest
    by rest (Some name) is =
        ((new_domain (draft_of before) row.number row.form name are.0 is).0, subst (λ (xs : List (List ℕ)). AreDistinct xs (forms_by domain_in rows)) (one_more (λ row. domain_in row.form) before row (Some name) is) rest)

-- at most 16 are declared
pub few_rows : (before rows : List Row) → AreFaultless before rows → length (forms_by domain_in before) ≤ 16 → length (forms_by domain_in before) + length (forms_by domain_in rows) ≤ 16
few_rows before [] are few = omega arith
few_rows before (row ∷ rows) are few = by (few_rows (before ++ row ∷ []) rows are.1) (domain_in row.form) refl
  where
    by : (length (forms_by domain_in (before ++ row ∷ [])) ≤ 16 → length (forms_by domain_in (before ++ row ∷ [])) + length (forms_by domain_in rows) ≤ 16) → (o : Option (List ℕ)) → domain_in row.form ≡ o
        → length (forms_by domain_in before) + length (cons_option o (forms_by domain_in rows)) ≤ 16
    by rest None is =
        let same : length (forms_by domain_in (before ++ row ∷ [])) ≡ length (forms_by domain_in before) =
        ap length (one_more (λ row. domain_in row.form) before row None is ∙ append-nil (forms_by domain_in before)) in
        omega (arith, rest (omega arith))
    by rest (Some name) is =
        let more : length (forms_by domain_in (before ++ row ∷ [])) ≡ length (forms_by domain_in before) + 1 =
        ap length (one_more (λ row. domain_in row.form) before row (Some name) is) ∙ length-append (forms_by domain_in before) (name ∷ []) in
        let room = (new_domain (draft_of before) row.number row.form name are.0 is).1 in
        omega (arith, rest (omega arith))

-- ---- prefixes

-- no prefix meets one before it that is of another domain
abbrev pub AreScopesApart : List Scope → List Scope → Type 0
AreScopesApart before [] = Unit {0}
AreScopesApart before (scope ∷ scopes) =
    ((other : Scope) → Contains before other → bytes_eq other.domain scope.domain ≡ false → meets other.prefix scope.prefix ≡ false) × AreScopesApart (before ++ scope ∷ []) scopes

only_one : {A : Type 0} (first x : A) → Contains (first ∷ []) x → first ≡ x
only_one first x (zero, below, is) = is
only_one first x (suc k, below, is) = absurd (omega (arith, below))

first_or_later : {A : Type 0} (first x : A) (xs : List A) → Contains (first ∷ xs) x → (first ≡ x) ⊎ Contains xs x
first_or_later first x xs within = elim (Contains-append_cases (first ∷ []) xs x within) [ inl here ↦ inl (only_one first x here) | inr there ↦ inr there ]

found_none : {A : Type 0} (test : A → Bool) (xs : List A) (x : A) → find test xs ≡ None → Contains xs x → test x ≡ false
found_none test [] x none within = absurd (omega (arith, within.1))
found_none test (first ∷ xs) x none within = by (found_none test xs x) (first_or_later first x xs within) (test first) refl none
  where
    by : (find test xs ≡ None → Contains xs x → test x ≡ false) → (first ≡ x) ⊎ Contains xs x → (b : Bool) → test first ≡ b → cond b (Some first) (find test xs) ≡ None → test x ≡ false
    by rest which true e n = absurd (cc)
    by rest (inl here) false e n = sym (ap test here) ∙ e
    by rest (inr there) false e n = rest n there

none_mapped : {A B : Type 0} (f : A → B) (o : Option A) → option_map f o ≡ None → o ≡ None
none_mapped f None e = refl
none_mapped f (Some x) e = absurd (cc)

new_scope : (draft : DraftValue) (number : ℕ) (form : FormValue) (scope : Scope) → fault_of draft number form ≡ None → scope_in number form ≡ Some scope
    → (other : Scope) → Contains draft.scopes other → bytes_eq other.domain scope.domain ≡ false → meets other.prefix scope.prefix ≡ false
new_scope draft number (prefix_line name value) scope none is other within differ =
    let same : record { domain = name; prefix = value; line = number } ≡ scope = injected _ scope is in
    let domain : name ≡ scope.domain = ap (λ (x : Scope). x.domain) same in
    let prefix : value ≡ scope.prefix = ap (λ (x : Scope). x.prefix) same in
    let apart = found_none (is_overlap name value) draft.scopes other (none_mapped (λ (x : Scope). x.line) _ (not_overlap draft number (prefix_line name value) none)) within in
    let differ' : bytes_eq other.domain name ≡ false = subst (λ (x : List ℕ). bytes_eq other.domain x ≡ false) (sym domain) differ in
    subst (λ (x : PrefixValue). meets other.prefix x ≡ false) prefix (part (bytes_eq other.domain name) (meets other.prefix value) differ' apart)
  where
    injected : (x y : Scope) → Some x ≡ Some y → x ≡ y
    injected x y e = cc

    part : (b c : Bool) → b ≡ false → (not b && c) ≡ false → c ≡ false
    part false c differ apart = apart
    part true c differ apart = absurd (true≢false differ)
new_scope draft number _ scope none is other within differ = absurd (cc)

pub apart_rows : (before rows : List Row) → AreFaultless before rows
    → AreScopesApart (filter_map (λ row. scope_in row.number row.form) before) (filter_map (λ row. scope_in row.number row.form) rows)
apart_rows before [] are = tt
apart_rows before (row ∷ rows) are = by (apart_rows (before ++ row ∷ []) rows are.1) (scope_in row.number row.form) refl
  where
    by : AreScopesApart (filter_map (λ row. scope_in row.number row.form) (before ++ row ∷ [])) (filter_map (λ row. scope_in row.number row.form) rows) → (o : Option Scope) → scope_in row.number row.form ≡ o
        → AreScopesApart (filter_map (λ row. scope_in row.number row.form) before) (cons_option o (filter_map (λ row. scope_in row.number row.form) rows))
    by rest None is = subst (λ (xs : List Scope). AreScopesApart xs (filter_map (λ row. scope_in row.number row.form) rows))
        (one_more (λ row. scope_in row.number row.form) before row None is ∙ append-nil (filter_map (λ row. scope_in row.number row.form) before)) rest
    by rest (Some scope) is = (
      new_scope (draft_of before) row.number row.form scope are.0 is,
      subst (λ (xs : List Scope). AreScopesApart xs (filter_map (λ row. scope_in row.number row.form) rows)) (one_more (λ row. scope_in row.number row.form) before row (Some scope) is) rest,
    )

-- any two of different domains are apart
apart_pair : (before scopes : List Scope) → AreScopesApart before scopes → (a b : Scope) → Contains before a ⊎ Contains scopes a → Contains scopes b → bytes_eq a.domain b.domain ≡ false
    → meets a.prefix b.prefix ≡ false
apart_pair before [] are a b where_a in_b differ = absurd (omega (arith, in_b.1))
apart_pair before (scope ∷ scopes) are a b where_a in_b differ =
    by (λ a b where_a in_b differ. apart_pair (before ++ scope ∷ []) scopes are.1 a b where_a in_b differ) (place where_a) (first_or_later scope b scopes in_b)
  where
    place : Contains before a ⊎ Contains (scope ∷ scopes) a → Contains before a ⊎ ((scope ≡ a) ⊎ Contains scopes a)
    place (inl earlier) = inl earlier
    place (inr within) = inr (first_or_later scope a scopes within)

    by : ((a b : Scope) → Contains (before ++ scope ∷ []) a ⊎ Contains scopes a → Contains scopes b → bytes_eq a.domain b.domain ≡ false → meets a.prefix b.prefix ≡ false)
        → Contains before a ⊎ ((scope ≡ a) ⊎ Contains scopes a) → (scope ≡ b) ⊎ Contains scopes b → meets a.prefix b.prefix ≡ false
    by rest (inl earlier) (inl here) =
        subst (λ (x : Scope). meets a.prefix x.prefix ≡ false) here (are.0 a earlier (subst (λ (x : Scope). bytes_eq a.domain x.domain ≡ false) (sym here) differ))
    by rest (inl earlier) (inr later) = rest a b (inl (Contains-append_left before (scope ∷ []) a earlier)) later differ
    by rest (inr (inl same)) (inl here) =
        absurd (true≢false (sym ((bytes_eq-Decides a.domain b.domain).1 (ap (λ (x : Scope). x.domain) (sym same ∙ here))) ∙ differ))
    by rest (inr (inl same)) (inr later) = rest a b (inl (subst (Contains (before ++ scope ∷ [])) same (Contains-push before scope))) later differ
    by rest (inr (inr within)) (inl here) =
        meets_turned b.prefix a.prefix (rest b a (inl (subst (Contains (before ++ scope ∷ [])) here (Contains-push before scope))) within (differ_turned a.domain b.domain differ))
    by rest (inr (inr within)) (inr later) = rest a b (inr within) later differ

-- ---- domains with their prefixes

some_same : {A : Type 0} (x y : A) → Some x ≡ Some y → x ≡ y
some_same x y e = cc

not_among : (new : List ℕ) (names : List (List ℕ)) (old : List ℕ) (i : ℕ) → list_any (bytes_eq new) names ≡ false → slice_get names i ≡ Some old → bytes_eq new old ≡ false
not_among new [] old i none at = absurd (cc)
not_among new (first ∷ names) old zero none at =
    subst (λ (x : List ℕ). bytes_eq new x ≡ false) (some_same first old at) (both_false (bytes_eq new first) (list_any (bytes_eq new) names) none).0
not_among new (first ∷ names) old (suc i) none at = not_among new names old i (both_false (bytes_eq new first) (list_any (bytes_eq new) names) none).1 at

got_before : (before : List (List ℕ)) (more : List (List ℕ)) (k : ℕ) (x : List ℕ) → slice_get before k ≡ Some x → slice_get (before ++ more) k ≡ Some x
got_before [] more k x at = absurd (cc)
got_before (first ∷ before) more zero x at = at
got_before (first ∷ before) more (suc k) x at = got_before before more k x at

got_last : (before : List (List ℕ)) (name : List ℕ) → slice_get (before ++ name ∷ []) (length before) ≡ Some name
got_last [] name = refl
got_last (first ∷ before) name = got_last before name

-- a name behind others differs from each of them
later_differs : (before names : List (List ℕ)) → AreDistinct before names → (x y : List ℕ) (i k : ℕ) → slice_get before k ≡ Some x → slice_get names i ≡ Some y → bytes_eq y x ≡ false
later_differs before [] are x y i k at_x at_y = absurd (cc)
later_differs before (name ∷ names) are x y zero k at_x at_y =
    subst (λ (n : List ℕ). bytes_eq n x ≡ false) (some_same name y at_y) (not_among name before x k are.0 at_x)
later_differs before (name ∷ names) are x y (suc i) k at_x at_y = later_differs (before ++ name ∷ []) names are.1 x y i k (got_before before (name ∷ []) k x at_x) at_y

names_differ : (before names : List (List ℕ)) → AreDistinct before names → (x y : List ℕ) (i j : ℕ) → i ≢ j → slice_get names i ≡ Some x → slice_get names j ≡ Some y → bytes_eq x y ≡ false
names_differ before [] are x y i j other at_x at_y = absurd (cc)
names_differ before (name ∷ names) are x y zero zero other at_x at_y = absurd (other refl)
names_differ before (name ∷ names) are x y zero (suc j) other at_x at_y =
    differ_turned y x (later_differs (before ++ name ∷ []) names are.1 x y j (length before) (got_last before name ∙ at_x) at_y)
names_differ before (name ∷ names) are x y (suc i) zero other at_x at_y =
    later_differs (before ++ name ∷ []) names are.1 y x i (length before) (got_last before name ∙ at_y) at_x
names_differ before (name ∷ names) are x y (suc i) (suc j) other at_x at_y =
    names_differ (before ++ name ∷ []) names are.1 x y i j (λ e. other (ap suc e)) at_x at_y

-- a prefix of a domain is that of a scope
scope_of : (scopes : List Scope) (name : List ℕ) (a : PrefixValue) → Contains (map (λ scope. scope.prefix) (filter (λ scope. bytes_eq scope.domain name) scopes)) a
    → (scope : Scope) × Contains scopes scope × (scope.domain ≡ name) × (scope.prefix ≡ a)
scope_of [] name a within = absurd (omega (arith, within.1))
scope_of (first ∷ scopes) name a within = by (scope_of scopes name a) (bytes_eq first.domain name) refl within
  where
    later : (scope : Scope) × Contains scopes scope × (scope.domain ≡ name) × (scope.prefix ≡ a) → (scope : Scope) × Contains (first ∷ scopes) scope × (scope.domain ≡ name) × (scope.prefix ≡ a)
    later (scope, there, domain, prefix) = (scope, Contains-append_right (first ∷ []) scopes scope there, domain, prefix)

    by : (Contains (map (λ (scope : Scope). scope.prefix) (filter (λ (scope : Scope). bytes_eq scope.domain name) scopes)) a → (scope : Scope) × Contains scopes scope × (scope.domain ≡ name) × (scope.prefix ≡ a))
        → (b : Bool) → bytes_eq first.domain name ≡ b
        → Contains (map (λ (scope : Scope). scope.prefix) (cond b (first ∷ filter (λ (scope : Scope). bytes_eq scope.domain name) scopes) (filter (λ (scope : Scope). bytes_eq scope.domain name) scopes))) a
        → (scope : Scope) × Contains (first ∷ scopes) scope × (scope.domain ≡ name) × (scope.prefix ≡ a)
    by rest false e within = later (rest within)
    by rest true e within = elim (first_or_later first.prefix a _ within) [
      | inl here ↦ (first, Contains-append_left (first ∷ []) scopes first (Contains-push [] first), equal_then first.domain name e, here)
      | inr there ↦ later (rest there)
    ]

some_mapped : {A B : Type 0} (f : A → B) (o : Option A) (y : B) → option_map f o ≡ Some y → (x : A) × (o ≡ Some x) × (f x ≡ y)
some_mapped f None y e = absurd (cc)
some_mapped f (Some x) y e = (x, refl, some_same (f x) y e)

pub apart_domains : (draft : DraftValue) → AreDistinct [] draft.domains → AreScopesApart [] draft.scopes → AreApart (map (domain_of draft) draft.domains)
apart_domains draft distinct apart one other first second a b differ at_first at_second in_a in_b =
    let named_a = some_mapped (domain_of draft) (slice_get draft.domains one) first (sym (slice_get-map (domain_of draft) draft.domains one) ∙ at_first) in
    let named_b = some_mapped (domain_of draft) (slice_get draft.domains other) second (sym (slice_get-map (domain_of draft) draft.domains other) ∙ at_second) in
    let names : bytes_eq named_a.0 named_b.0 ≡ false = names_differ [] draft.domains distinct named_a.0 named_b.0 one other differ named_a.1 named_b.1 in
    let within_a : Contains (draft_prefixes draft named_a.0) a = subst (λ (d : DomainRow). Contains d.prefixes a) (sym named_a.2) in_a in
    let within_b : Contains (draft_prefixes draft named_b.0) b = subst (λ (d : DomainRow). Contains d.prefixes b) (sym named_b.2) in_b in
    let scope_a = scope_of draft.scopes named_a.0 a within_a in
    let scope_b = scope_of draft.scopes named_b.0 b within_b in
    let domains : bytes_eq scope_a.0.domain scope_b.0.domain ≡ false = (λ i. bytes_eq (scope_a.2 i) (scope_b.2 i)) ∙ names in
    (λ i. meets (sym scope_a.3 i) (sym scope_b.3 i)) ∙ apart_pair [] draft.scopes apart scope_a.0 scope_b.0 (inr scope_a.1) scope_b.1 domains
