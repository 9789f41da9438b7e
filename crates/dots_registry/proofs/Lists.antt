-- What is said of each element of a list, and of the live mitigations and the held things of a history.
use Rattle.std.proofs.Common.{◌≡◌, ℕ, Bool, true, false, cond, List, [], ◌∷◌, ◌++◌, map, Option, Some, None, inl, inr, refl, sym, ap, ◌∙◌}
use Rattle.std.specs.Prelude.{option_to_list, ◌==◌}
use Rattle.std.specs.List.{list_any, list_all, find}
use Rattle.std.proofs.lemmas.Bool.{cond_both, cond-true, cond-false, cases_Bool, and_parts, and_from, or_left, or_right}
use Rattle.std.proofs.lemmas.Option.{none-some, same_Some}
use Rattle.dots_history.specs.declared.entry.Entry.{Entry}
use Rattle.dots_history.specs.declared.change.Change.{Change}
use Rattle.dots_history.specs.declared.status.Status.TheVariants.{Open}
use Rattle.dots_history.specs.Histories.{Mitigation, live, status, stays, mitigations, held}
use Rattle.dots_history.specs.Tables.{Client, is_of}
use Rattle.dots_history.specs.Views.{mitigations_of}
use Rattle.conflict_rules.specs.declared.live.Live.{Live}
use Rattle.conflict_rules.specs.Lives.{live_of, lives_of}
use Rattle.dots_history.specs.Held.{written}
use Rattle.dots_history.proofs.Written.{some_of_both}

-- ---- what is found
pub found_passes : {A : Type 0} (test p : A → Bool) (xs : List A) (x : A) → find test xs ≡ Some x → list_all p xs ≡ true → p x ≡ true
found_passes test p [] x is all = absurd (none-some x is)
found_passes test p (y ∷ ys) x is all =
    let parts = and_parts (p y) (list_all p ys) all in
    elim (cases_Bool (test y)) [
      | inl here ↦ ap p (sym (same_Some y x (sym (cond-true (test y) (Some y) (find test ys) here) ∙ is))) ∙ parts.0
      | inr out ↦ found_passes test p ys x (sym (cond-false (test y) (Some y) (find test ys) out) ∙ is) parts.1
    ]

pub found_any : {A : Type 0} (test : A → Bool) (xs : List A) (x : A) → find test xs ≡ Some x → list_any test xs ≡ true
found_any test [] x is = absurd (none-some x is)
found_any test (y ∷ ys) x is =
    elim (cases_Bool (test y)) [
      | inl here ↦ or_left (test y) (list_any test ys) here
      | inr out ↦ or_right (test y) (list_any test ys) (found_any test ys x (sym (cond-false (test y) (Some y) (find test ys) out) ∙ is))
    ]

-- ---- what a sieve leaves
some_or_none : {A : Type 0} (b : Bool) (test : A → Bool) (x : A) (rest : List A) → test x ≡ true → list_all test rest ≡ true
    → list_all test (option_to_list (cond b (Some x) None) ++ rest) ≡ true
some_or_none true test x rest passes all = and_from (test x) (list_all test rest) passes all
some_or_none false test x rest passes all = all

pub held_pass : (test : Entry → Bool) (entries : List Entry) → list_all test entries ≡ true → list_all test (held entries) ≡ true
held_pass test [] all = refl
held_pass test (e ∷ later) all =
    let parts = and_parts (test e) (list_all test later) all in
    some_or_none (stays e later) test e (held later) parts.0 (held_pass test later parts.1)

pub mitigations_pass : (test : Entry → Bool) (t : ℕ) (entries : List Entry) → list_all test entries ≡ true
    → list_all (λ (m : Mitigation). test m.put) (mitigations t entries) ≡ true
mitigations_pass test t [] all = refl
mitigations_pass test t (e ∷ later) all =
    let parts = and_parts (test e) (list_all test later) all in
    some_or_none
    (live t e (status e Open later))
    (λ (m : Mitigation). test m.put)
    (record { put = e; status = status e Open later })
    (mitigations t later)
    parts.0
    (mitigations_pass test t later parts.1)

lives_in : (test : Live → Bool) (own : Entry → Bool) (domain : ℕ) (ms : List Mitigation)
    → ((m : Mitigation) → own m.put ≡ true → (m.put.domain == domain) ≡ true → test (live_of m) ≡ true)
    → list_all (λ (m : Mitigation). own m.put) ms ≡ true → list_all test (map live_of (mitigations_of domain ms)) ≡ true
lives_in test own domain [] leads all = refl
lives_in test own domain (m ∷ ms) leads all =
    let parts = and_parts (own m.put) (list_all (λ (x : Mitigation). own x.put) ms) all in
    let go = lives_in test own domain ms leads parts.1 in
    cond_both
    (m.put.domain == domain)
    (m ∷ mitigations_of domain ms)
    (mitigations_of domain ms)
    (λ xs. list_all test (map live_of xs) ≡ true)
    (λ here. and_from (test (live_of m)) (list_all test (map live_of (mitigations_of domain ms))) (leads m parts.0 here) go)
    (λ out. go)

-- the live mitigations of a domain
pub lives_pass : (test : Live → Bool) (own : Entry → Bool) (domain t : ℕ) (entries : List Entry)
    → ((m : Mitigation) → own m.put ≡ true → (m.put.domain == domain) ≡ true → test (live_of m) ≡ true)
    → list_all own entries ≡ true → list_all test (lives_of domain t entries) ≡ true
lives_pass test own domain t entries leads all = lives_in test own domain (mitigations t entries) leads (mitigations_pass own t entries all)

-- ---- what a client wrote
if_there : {A : Type 0} (test : A → Bool) (o : Option A) (rest : List A) → ((a : A) → o ≡ Some a → test a ≡ true) → list_all test rest ≡ true
    → list_all test (option_to_list o ++ rest) ≡ true
if_there test None rest leads all = all
if_there test (Some a) rest leads all = and_from (test a) (list_all test rest) (leads a refl) all

pub written_pass : {A : Type 0} (pick : Change → Option A) (test : A → Bool) (own : Entry → Bool) (client : Client) (es : List Entry)
    → ((e : Entry) (a : A) → own e ≡ true → is_of client e ≡ true → pick e.change ≡ Some a → test a ≡ true)
    → list_all own es ≡ true → list_all test (written pick client es) ≡ true
written_pass pick test own client [] leads all = refl
written_pass pick test own client (e ∷ es) leads all =
    let parts = and_parts (own e) (list_all own es) all in
    if_there
    test
    (cond (is_of client e) (pick e.change) None)
    (written pick client es)
    (λ a is. let both = some_of_both (is_of client e) (pick e.change) a is in leads e a parts.0 both.0 both.1)
    (written_pass pick test own client es leads parts.1)
