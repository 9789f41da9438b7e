-- Whether there is an observer among some.
use Rattle.std.proofs.Common.{◌≡◌, ℕ, suc, ◌<◌, Bool, true, false, cond, List, [], ◌∷◌, length, drop, get_or, drop-cons, Some, refl, sym, ap, ◌∙◌, inl, inr, arith}
use Rattle.std.specs.Prelude.{◌||◌, ◌==◌, is_some, option_map}
use Rattle.std.specs.List.{find, list_any}
use Rattle.std.proofs.lemmas.Bool.{cases_Bool, and_parts, and_from, and_right, or_parts, or_from, or_left, or_right, eqb-true, eq-eqb, false≢true}
use Rattle.std.proofs.lemmas.Map.Keys.{any_passes_from_place}
use Rattle.coap_exchange.specs.declared.pair.Pair.{Pair}
use Rattle.coap_observe.specs.declared.due_among.DueAmong.{DueAmong}
use Rattle.coap_observe.specs.declared.due_among.DueAmong.TheVariants.{Nobody, Domain, Anybody}
use Rattle.coap_observe.specs.DueAmong.{includes_one}
use Rattle.coap_observe.specs.Observed.{ObservedValue, is_of}
use Rattle.coap_observe.specs.Observing.{NoneIsDue, has_one, AreOf}
use Rattle.coap_observe.specs.Rolls.{Member, key_of, one_of, observed_of, first_key}
use Rattle.coap_observe.specs.Seen.{Lists}
use Rattle.coap_observe.proofs.Firsts.{eq_turned}

-- where none is among them none of them is due
pub none_among : (lists : Lists) (among : DueAmong) (from to : ℕ) (xs : List ObservedValue) → list_any (includes_one among) xs ≡ false → NoneIsDue lists among from to xs
none_among lists among from to xs none place o later less there within =
    absurd (false≢true (sym none ∙ any_passes_from_place (includes_one among) xs place o there within))

pub none_at_all : (test : ObservedValue → Bool) (xs : List ObservedValue) → length xs ≡ 0 → list_any test xs ≡ false
none_at_all test [] is = refl
none_at_all test (o ∷ os) is = absurd (omega (arith, is))

pub none_of_nobody : (xs : List ObservedValue) → list_any (includes_one Nobody) xs ≡ false
none_of_nobody [] = refl
none_of_nobody (o ∷ os) = none_of_nobody os

pub some_of_anybody : (xs : List ObservedValue) → 0 < length xs → list_any (includes_one Anybody) xs ≡ true
some_of_anybody [] some = absurd (omega (arith, some))
some_of_anybody (o ∷ os) some = refl

-- one passes exactly where there is a first that does
pub some_first : (test : ObservedValue → Bool) (members : List Member) → is_some (first_key test members) ≡ list_any test (observed_of members)
some_first test [] = refl
some_first test (r ∷ members) = by_test (test (one_of r)) (some_first test members)
  where
    by_test : (b : Bool) → is_some (first_key test members) ≡ list_any test (observed_of members)
        → is_some (option_map key_of (cond b (Some r) (find (λ member. test (one_of member)) members))) ≡ b || list_any test (observed_of members)
    by_test true rest = refl
    by_test false rest = rest

-- ---- those of a domain

-- one of the domain is of a pair, which so has one
own_pair : (domain : ℕ) (all : List ObservedValue) (o : ObservedValue) (pairs : List Pair) → (domain == o.observer.domain) ≡ true
    → ((peer : ℕ) → is_of peer domain o ≡ true → list_any (is_of peer domain) all ≡ true)
    → list_any (λ (pair : Pair). is_of pair.peer pair.domain o) pairs ≡ true → list_any (has_one domain all) pairs ≡ true
own_pair domain all o [] of there own = absurd (false≢true own)
own_pair domain all o (pair ∷ pairs) of there own = by_pair (is_of pair.peer pair.domain o) refl own (own_pair domain all o pairs of there)
  where
    by_pair : (b : Bool) → is_of pair.peer pair.domain o ≡ b → b || list_any (λ (p : Pair). is_of p.peer p.domain o) pairs ≡ true
        → (list_any (λ (p : Pair). is_of p.peer p.domain o) pairs ≡ true → list_any (has_one domain all) pairs ≡ true)
        → list_any (has_one domain all) (pair ∷ pairs) ≡ true
    by_pair true is own rest =
        let both = and_parts (o.observer.peer == pair.peer) (o.observer.domain == pair.domain) is in
        let here : domain ≡ o.observer.domain = eqb-true domain o.observer.domain of in
        let same : pair.domain ≡ domain = sym (here ∙ eqb-true o.observer.domain pair.domain both.1) in
        let observed = there pair.peer (and_from (o.observer.peer == pair.peer) (o.observer.domain == domain) both.0 (eq-eqb o.observer.domain domain (sym here))) in
        or_left (has_one domain all pair) (list_any (has_one domain all) pairs)
        (and_from (pair.domain == domain) (list_any (is_of pair.peer domain) all) (eq-eqb pair.domain domain same) observed)
    by_pair false is own rest = or_right (has_one domain all pair) (list_any (has_one domain all) pairs) (rest own)

some_given : (pairs : List Pair) (domain : ℕ) (all xs : List ObservedValue)
    → ((peer : ℕ) → list_any (is_of peer domain) xs ≡ true → list_any (is_of peer domain) all ≡ true)
    → AreOf pairs xs → list_any (includes_one (Domain domain)) xs ≡ true → list_any (has_one domain all) pairs ≡ true
some_given pairs domain all [] there known some = absurd (false≢true some)
some_given pairs domain all (o ∷ os) there known some =
    by_test (domain == o.observer.domain) refl some
    (some_given pairs domain all os (λ peer is. there peer (or_right (is_of peer domain o) (list_any (is_of peer domain) os) is)) known.1)
  where
    by_test : (b : Bool) → (domain == o.observer.domain) ≡ b → b || list_any (includes_one (Domain domain)) os ≡ true
        → (list_any (includes_one (Domain domain)) os ≡ true → list_any (has_one domain all) pairs ≡ true) → list_any (has_one domain all) pairs ≡ true
    by_test true of some rest = own_pair domain all o pairs of (λ peer is. there peer (or_left (is_of peer domain o) (list_any (is_of peer domain) os) is)) known.0
    by_test false of some rest = rest some

-- where none is of the domain no pair has one of it
none_of_peer : (peer domain : ℕ) (xs : List ObservedValue) → list_any (includes_one (Domain domain)) xs ≡ false → list_any (is_of peer domain) xs ≡ false
none_of_peer peer domain [] none = refl
none_of_peer peer domain (o ∷ os) none =
    let both = or_parts (domain == o.observer.domain) (list_any (includes_one (Domain domain)) os) none in
    or_from (is_of peer domain o) (list_any (is_of peer domain) os)
    (and_right (o.observer.peer == peer) (o.observer.domain == domain) (eq_turned o.observer.domain domain ∙ both.0))
    (none_of_peer peer domain os both.1)

none_given : (domain : ℕ) (all : List ObservedValue) (pairs : List Pair) → ((peer : ℕ) → list_any (is_of peer domain) all ≡ false) → list_any (has_one domain all) pairs ≡ false
none_given domain all [] none = refl
none_given domain all (pair ∷ pairs) none =
    or_from (has_one domain all pair) (list_any (has_one domain all) pairs)
    (and_right (pair.domain == domain) (list_any (is_of pair.peer domain) all) (none pair.peer))
    (none_given domain all pairs none)

pub any_of_pairs : (pairs : List Pair) (domain : ℕ) (xs : List ObservedValue) → AreOf pairs xs → list_any (has_one domain xs) pairs ≡ list_any (includes_one (Domain domain)) xs
any_of_pairs pairs domain xs known =
    elim (cases_Bool (list_any (includes_one (Domain domain)) xs)) [
      | inl some ↦ some_given pairs domain xs xs (λ peer is. is) known some ∙ sym some
      | inr none ↦ none_given domain xs pairs (λ peer. none_of_peer peer domain xs none) ∙ sym none
    ]

-- ---- pairs that are passed one after the other

pub any_here : (domain : ℕ) (xs : List ObservedValue) (pairs : List Pair) (place : ℕ) (d : Pair) → place < length pairs → has_one domain xs (get_or pairs place d) ≡ true
    → true ≡ list_any (has_one domain xs) (drop place pairs)
any_here domain xs pairs place d less passes =
    sym
    (ap (list_any (has_one domain xs)) (drop-cons pairs place d less)
    ∙ ap (λ b. b || list_any (has_one domain xs) (drop (suc place) pairs)) passes)

pub any_nowhere : (domain : ℕ) (xs : List ObservedValue) (pairs : List Pair) (place : ℕ) → place ≡ length pairs → false ≡ list_any (has_one domain xs) (drop place pairs)
any_nowhere domain xs pairs place is = sym (ap (λ k. list_any (has_one domain xs) (drop k pairs)) is ∙ dropped pairs)
  where
    dropped : (ps : List Pair) → list_any (has_one domain xs) (drop (length ps) ps) ≡ false
    dropped [] = refl
    dropped (p ∷ ps) = dropped ps
