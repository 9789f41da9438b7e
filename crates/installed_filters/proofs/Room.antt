-- How many rows there are at most, and that the limits are kept.
use Rattle.std.proofs.Common.{◌≡◌, ℕ, zero, suc, ◌+◌, ◌*◌, ◌<◌, ◌≤◌, Bool, true, false, cond, not, ◌&&◌, ◌||◌, List, [], ◌∷◌, ◌++◌, map, filter, length, Option, Some, None, inl, inr, refl, sym, ap, ◌∙◌, subst, mul-le-mul_right, arith}
use Rattle.std.specs.Prelude.{◌==◌, nat_lt, option_to_list, option_map}
use Rattle.std.specs.List.{list_any, list_all, flat_map}
use Rattle.std.proofs.lemmas.Bool.{false≢true, both_ways, cond_both, cond-false, cases_eq, and_parts, and_from, or_cases, or_left, or_right, not_from_true, eq-eqb, ltb-true, leb-true}
use Rattle.std.proofs.lemmas.List.{map-append, length-append}
use Rattle.ip_scope.specs.Prefix.{PrefixValue}
use Rattle.acl_lists.specs.declared.acl.Acl.{Acl}
use Rattle.dots_settings.specs.declared.limits.Limits.{Limits}
use Rattle.dots_history.specs.declared.entry.Entry.{Entry}
use Rattle.dots_history.specs.declared.put.Target.{Target}
use Rattle.dots_history.specs.declared.change.Change.{Change}
use Rattle.dots_history.specs.declared.change.Change.TheVariants as change
use Rattle.dots_history.specs.Bounds.{prefix_count}
use Rattle.dots_history.specs.Entries.{same_client, is_configuration}
use Rattle.dots_history.specs.Histories.{Mitigation, tally, mitigations, held}
use Rattle.dots_history.specs.Rows.{targets_of, works, plain_rows, acl_rows, acl_of}
use Rattle.dots_history.specs.Capacities.{is_registration, is_alias, is_list, has_client}
use Rattle.dots_history.proofs.Keyed.{by_keys, tally_filter, length_filter}
use Rattle.held_resources.specs.Tables.{Sizes, is_placed, is_known}
use Rattle.installed_filters.specs.Filters.{scrub_row_with, rows_with, acl_row_by}
use Rattle.installed_filters.specs.HistoryRows.{KeepsLimits, has_few_prefixes, scrub_room_of, acl_room_of}
use Rattle.installed_filters.proofs.Keys.{scrubs_by, rows_are}
use Rattle.installed_filters.proofs.Waking.{acls_by_client, lists_are, mitigates}
use Rattle.acl_lists.specs.declared.limits.TheConstants.{MAX_RESOLVED}

-- ---- numbers below one

abbrev below : ℕ → List ℕ
below zero = []
below (suc n) = n ∷ below n

length_below : (n : ℕ) → length (below n) ≡ n
length_below zero = refl
length_below (suc n) = ap suc (length_below n)

is_below : (n x : ℕ) → x < n → list_any (λ k. x == k) (below n) ≡ true
is_below zero x less = absurd (omega (arith, less))
is_below (suc n) x less =
    elim (cases_eq x n) [
      | inl here ↦ or_left (x == n) (list_any (λ k. x == k) (below n)) (eq-eqb x n here)
      | inr other ↦ or_right (x == n) (list_any (λ k. x == k) (below n)) (is_below n x (omega (arith, less, other)))
    ]

-- ---- rows of mitigations

prefixes_number : (active : Bool) (e : Entry) (target : Target) (prefixes : List PrefixValue)
    → length (map (scrub_row_with active) (map (λ (p : PrefixValue). record { put = e; target = target; prefix = p }) prefixes)) ≡ length prefixes
prefixes_number active e target [] = refl
prefixes_number active e target (p ∷ prefixes) = ap suc (prefixes_number active e target prefixes)

targets_number : (active : Bool) (e : Entry) (targets : List Target)
    → length (map (scrub_row_with active) (flat_map (λ (target : Target). map (λ (p : PrefixValue). record { put = e; target = target; prefix = p }) target.prefixes) targets))
    ≡ prefix_count targets
targets_number active e [] = refl
targets_number active e (target ∷ targets) =
    let here = map (λ (p : PrefixValue). record { put = e; target = target; prefix = p }) target.prefixes in
    let rest = flat_map (λ (t : Target). map (λ (p : PrefixValue). record { put = e; target = t; prefix = p }) t.prefixes) targets in
    ap length (map-append (scrub_row_with active) here rest)
    ∙ length-append (map (scrub_row_with active) here) (map (scrub_row_with active) rest)
    ∙ ap (λ n. n + length (map (scrub_row_with active) rest)) (prefixes_number active e target target.prefixes)
    ∙ ap (λ n. length target.prefixes + n) (targets_number active e targets)

pub rows_number : (active : Bool) (e : Entry) → length (rows_with active e) ≡ prefix_count (targets_of e.change)
rows_number active e = targets_number active e (targets_of e.change)

few_scrubs : (working : Entry → Bool) (ms : List Mitigation) → list_all has_few_prefixes ms ≡ true → length (scrubs_by working ms) ≤ length ms * MAX_RESOLVED
few_scrubs working [] all = omega arith
few_scrubs working (m ∷ ms) all =
    let parts = and_parts (has_few_prefixes m) (list_all has_few_prefixes ms) all in
    let few = leb-true (prefix_count (targets_of m.put.change)) MAX_RESOLVED parts.0 in
    let own = rows_number (working m.put) m.put in
    let rest = few_scrubs working ms parts.1 in
    let all_rows = length-append (rows_with (working m.put) m.put) (scrubs_by working ms) in
    omega (arith, few, own, rest, all_rows)

few_live : (domains : ℕ) (limits : Limits) (t : ℕ) (entries : List Entry)
    → list_all (λ (m : Mitigation). nat_lt m.put.domain domains) (mitigations t entries) ≡ true → KeepsLimits limits t entries
    → length (mitigations t entries) ≤ domains * limits.domain_mitigations
few_live domains limits t entries inside keeps =
    subst
    (λ n. length (mitigations t entries) ≤ n * limits.domain_mitigations)
    (length_below domains)
    (by_keys
    (λ domain (m : Mitigation). m.put.domain == domain)
    limits.domain_mitigations
    (below domains)
    (mitigations t entries)
    (each (mitigations t entries) inside)
    keeps.live)
  where
    each : (ms : List Mitigation) → list_all (λ (m : Mitigation). nat_lt m.put.domain domains) ms ≡ true
        → list_all (λ (m : Mitigation). list_any (λ k. m.put.domain == k) (below domains)) ms ≡ true
    each [] all = refl
    each (m ∷ ms) all =
        let parts = and_parts (nat_lt m.put.domain domains) (list_all (λ (x : Mitigation). nat_lt x.put.domain domains) ms) all in
        and_from
        (list_any (λ k. m.put.domain == k) (below domains))
        (list_all (λ (x : Mitigation). list_any (λ k. x.put.domain == k) (below domains)) ms)
        (is_below domains m.put.domain (ltb-true m.put.domain domains parts.0))
        (each ms parts.1)

pub scrubs_fit : (domains : ℕ) (limits : Limits) (t : ℕ) (entries : List Entry)
    → list_all (λ (m : Mitigation). nat_lt m.put.domain domains) (mitigations t entries) ≡ true → KeepsLimits limits t entries
    → length (plain_rows t entries) ≤ scrub_room_of domains limits
scrubs_fit domains limits t entries inside keeps =
    let rows = few_scrubs (works (held entries)) (mitigations t entries) keeps.prefixes in
    let live = mul-le-mul_right MAX_RESOLVED (few_live domains limits t entries inside keeps) in
    let are = ap length (rows_are t entries) in
    omega (arith, rows, live, are)

-- ---- rows of lists

list_kind : (c : Change) → length (option_to_list (acl_of c)) ≡ cond (is_list c) 1 0
unfolding is_list
list_kind (change.SetAcl acl) = refl
list_kind _ = refl

pub lists_number : (f : Entry → Bool) (es : List Entry) → length (acls_by_client f es) ≡ tally (λ (e : Entry). is_list e.change) es
lists_number f [] = refl
lists_number f (e ∷ es) =
    by_list (acl_of e.change) (list_kind e.change) (lists_number f es)
  where
    by_list : (o : Option Acl) → length (option_to_list o) ≡ cond (is_list e.change) 1 0
        → length (acls_by_client f es) ≡ tally (λ (x : Entry). is_list x.change) es
        → length (option_to_list (option_map (acl_row_by (f e) e) o) ++ acls_by_client f es) ≡ cond (is_list e.change) 1 0 + tally (λ (x : Entry). is_list x.change) es
    by_list None is rest = omega (arith, is, rest)
    by_list (Some acl) is rest = omega (arith, is, rest)

abbrev registration : Entry → Bool
registration e = is_registration e.change

abbrev list : Entry → Bool
list e = is_list e.change

filter_all_by : (keep test want : Entry → Bool) → ((x : Entry) → keep x ≡ true → test x ≡ true → want x ≡ true) → (xs : List Entry)
    → list_all test xs ≡ true → list_all want (filter keep xs) ≡ true
filter_all_by keep test want leads [] all = refl
filter_all_by keep test want leads (x ∷ xs) all =
    let parts = and_parts (test x) (list_all test xs) all in
    let go = filter_all_by keep test want leads xs parts.1 in
    cond_both
    (keep x)
    (x ∷ filter keep xs)
    (filter keep xs)
    (λ ys. list_all want ys ≡ true)
    (λ is. and_from (want x) (list_all want (filter keep xs)) (leads x is parts.0) go)
    (λ out. go)

any_registered : (standing : List Entry) (e : Entry) → list_any (λ r. is_registration r.change && same_client r e) standing ≡ true
    → list_any (λ r. same_client r e) (filter registration standing) ≡ true
any_registered [] e is = is
any_registered (r ∷ standing) e is = by_kind (is_registration r.change) is (any_registered standing e)
  where
    by_kind : (b : Bool) → ((b && same_client r e) || list_any (λ x. is_registration x.change && same_client x e) standing) ≡ true
        → (list_any (λ x. is_registration x.change && same_client x e) standing ≡ true → list_any (λ x. same_client x e) (filter registration standing) ≡ true)
        → list_any (λ x. same_client x e) (cond b (r ∷ filter registration standing) (filter registration standing)) ≡ true
    by_kind true is_one rest =
        elim (or_cases (same_client r e) (list_any (λ x. is_registration x.change && same_client x e) standing) is_one) [
          | inl here ↦ or_left (same_client r e) (list_any (λ x. same_client x e) (filter registration standing)) here
          | inr beyond ↦ or_right (same_client r e) (list_any (λ x. same_client x e) (filter registration standing)) (rest beyond)
        ]
    by_kind false is_one rest = rest is_one

owned_by : (standing : List Entry) (e : Entry) → is_list e.change ≡ true → has_client standing e ≡ true
    → list_any (λ r. same_client r e) (filter registration standing) ≡ true
owned_by standing e is has =
    let own = or_right (is_alias e.change) (is_list e.change) is in
    elim (or_cases (not (is_alias e.change || is_list e.change)) (list_any (λ r. is_registration r.change && same_client r e) standing) has) [
      | inl out ↦ absurd (both_ways (not (is_alias e.change || is_list e.change)) (not_from_true (is_alias e.change || is_list e.change) own) out)
      | inr there ↦ any_registered standing e there
    ]

registration_kind : (c : Change) → is_registration c ≡ true → is_configuration c ≡ false
unfolding is_registration is_configuration
registration_kind change.Register is = refl
registration_kind _ is = absurd (false≢true is)

registered_below : (sizes : Sizes) (e : Entry) → is_registration e.change ≡ true → is_known sizes e ≡ true
    → list_any (λ k. e.domain == k) (below sizes.domains) ≡ true
registered_below sizes e is known =
    is_below
    sizes.domains
    e.domain
    (ltb-true
    e.domain
    sizes.domains
    (sym (cond-false
    (is_configuration e.change)
    (list_any (λ peer. e.peer == peer) sizes.peers)
    (nat_lt e.domain sizes.domains)
    (registration_kind e.change is))
    ∙ (and_parts (is_placed sizes e) _ known).0))

few_registered : (sizes : Sizes) (limits : Limits) (t : ℕ) (entries : List Entry) → list_all (is_known sizes) (held entries) ≡ true → KeepsLimits limits t entries
    → length (filter registration (held entries)) ≤ sizes.domains * limits.clients
few_registered sizes limits t entries known keeps =
    subst
    (λ n. length (filter registration (held entries)) ≤ n * limits.clients)
    (length_below sizes.domains)
    (by_keys
    (λ domain (e : Entry). e.domain == domain)
    limits.clients
    (below sizes.domains)
    (filter registration (held entries))
    (filter_all_by registration (is_known sizes) (λ e. list_any (λ k. e.domain == k) (below sizes.domains)) (registered_below sizes) (held entries) known)
    (λ domain. subst (λ k. k ≤ limits.clients) (sym (tally_filter registration (λ (e : Entry). e.domain == domain) (held entries))) (keeps.registered domain)))

few_lists : (limits : Limits) (t : ℕ) (entries : List Entry) → list_all (has_client (held entries)) (held entries) ≡ true → KeepsLimits limits t entries
    → length (filter list (held entries)) ≤ length (filter registration (held entries)) * limits.acls
few_lists limits t entries owned keeps =
    by_keys
    (λ (client : Entry) e. same_client client e)
    limits.acls
    (filter registration (held entries))
    (filter list (held entries))
    (filter_all_by list (has_client (held entries)) (λ e. list_any (λ r. same_client r e) (filter registration (held entries))) (owned_by (held entries)) (held entries) owned)
    (λ client. subst (λ k. k ≤ limits.acls) (sym (tally_filter list (same_client client) (held entries))) (keeps.listed client))

pub lists_fit : (sizes : Sizes) (limits : Limits) (t : ℕ) (entries : List Entry) → list_all (is_known sizes) (held entries) ≡ true
    → list_all (has_client (held entries)) (held entries) ≡ true → KeepsLimits limits t entries → length (acl_rows t entries) ≤ acl_room_of sizes.domains limits
lists_fit sizes limits t entries known owned keeps =
    let registered = few_registered sizes limits t entries known keeps in
    let lists = few_lists limits t entries owned keeps in
    let more = mul-le-mul_right limits.acls registered in
    let number = length_filter list (held entries) in
    let rows = ap length (lists_are t entries) ∙ lists_number (mitigates (works (held entries)) (mitigations t entries)) (held entries) in
    omega (arith, lists, more, number, rows)
