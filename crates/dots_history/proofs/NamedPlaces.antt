-- An entry that the view names, by its place and those of the others.
use Rattle.std.proofs.Common.{◌≡◌, ℕ, ◌+◌, ◌-◌, ◌<◌, zero, suc, true, false, cond, ◌&&◌, ◌||◌, List, [], ◌∷◌, ◌++◌, length, drop, Some, inl, inr, refl, sym, ap, ◌∙◌, subst, arith}
use Rattle.std.specs.Prelude.{slice_get, nat_lt}
use Rattle.std.specs.List.{list_any}
use Rattle.std.proofs.lemmas.Bool.{false≢true, both_ways, and_parts, and_from, or_cases, or_left, or_right, ltb-true, lt-ltb, cases_order}
use Rattle.std.proofs.lemmas.Option.{none-some, same_Some}
use Rattle.dots_history.specs.declared.entry.Entry.{Entry}
use Rattle.dots_history.specs.declared.status.Status.{Status}
use Rattle.dots_history.specs.declared.status.Status.TheVariants.{Ended, Open, Withdrawn}
use Rattle.dots_history.specs.Entries.{ends, withdraws, is_signal, signals}
use Rattle.dots_history.specs.Histories.{live, status, step, tally, is_recent, is_nil, stays}
use Rattle.dots_history.specs.Keeping.{is_open, is_first, names, tracks}
use Rattle.dots_history.specs.Places.{Terminating, NamedAt, mitigates, withdrawn, recent, last, holds}
use Rattle.dots_history.proofs.Fates.{Fate, fate_of}
use Rattle.dots_history.proofs.PlaceLaws.{live_at_place, place_is_live, after_place, to_after}
use Rattle.dots_history.proofs.HeldPlaces.{held_at_place, place_is_held}

-- ---- where a list is cut
get_cut : (i : ℕ) (front : List Entry) (e : Entry) (rest : List Entry) → i ≡ length front → slice_get (front ++ e ∷ rest) i ≡ Some e
get_cut zero [] e rest same = refl
get_cut (suc i) [] e rest same = absurd (omega (arith, same))
get_cut zero (x ∷ front) e rest same = absurd (omega (arith, same))
get_cut (suc i) (x ∷ front) e rest same = get_cut i front e rest (omega (arith, same))

drop_cut : (i : ℕ) (front : List Entry) (e : Entry) (rest : List Entry) → i ≡ length front → drop (suc i) (front ++ e ∷ rest) ≡ rest
drop_cut zero [] e rest same = refl
drop_cut (suc i) [] e rest same = absurd (omega (arith, same))
drop_cut zero (x ∷ front) e rest same = absurd (omega (arith, same))
drop_cut (suc i) (x ∷ front) e rest same = drop_cut i front e rest (omega (arith, same))

get_front : (i : ℕ) (front rest : List Entry) (e : Entry) → i < length front → slice_get (front ++ rest) i ≡ Some e → slice_get front i ≡ Some e
get_front i [] rest e less found = absurd (omega (arith, less))
get_front zero (x ∷ front) rest e less found = found
get_front (suc i) (x ∷ front) rest e less found = get_front i front rest e (omega (arith, less)) found

length_cut : (front : List Entry) (e : Entry) (rest : List Entry) → length (front ++ e ∷ rest) ≡ length front + (1 + length rest)
length_cut [] e rest = omega arith
length_cut (x ∷ front) e rest = let go = length_cut front e rest in omega (arith, go)

assoc_cut : (front : List Entry) (put : Entry) (middle : List Entry) (e : Entry) (later : List Entry)
    → (front ++ put ∷ middle) ++ e ∷ later ≡ front ++ put ∷ (middle ++ e ∷ later)
assoc_cut [] put middle e later = refl
assoc_cut (x ∷ front) put middle e later = ap (λ es. x ∷ es) (assoc_cut front put middle e later)

status_more : (put : Entry) (s : Status) (middle more : List Entry) → status put s (middle ++ more) ≡ status put (status put s middle) more
status_more put s [] more = refl
status_more put s (e ∷ middle) more = status_more put (step put s e) middle more

-- ---- the mitigation of which an entry is the first withdrawal
record Cut (t : ℕ) (before : List Entry) (e : Entry) (later : List Entry) : Type 0 where
  front : List Entry
  put : Entry
  middle : List Entry
  same : before ≡ front ++ put ∷ middle
  first : is_first t e later (record { put = put; status = status put Open middle }) ≡ true

cut_of : (t : ℕ) (before : List Entry) (e : Entry) (later : List Entry) → list_any (is_first t e later) (tracks before) ≡ true → Cut t before e later
cut_of t [] e later is = absurd (false≢true is)
cut_of t (x ∷ before) e later is =
    elim (or_cases
    (is_first t e later (record { put = x; status = status x Open before }))
    (list_any (is_first t e later) (tracks before))
    is) [
      | inl here ↦ record { front = []; put = x; middle = before; same = refl; first = here }
      | inr beyond ↦
          let go = cut_of t before e later beyond in
          record { front = x ∷ go.front; put = go.put; middle = go.middle; same = ap (λ es. x ∷ es) go.same; first = go.first }
    ]

any_cut : (t : ℕ) (front : List Entry) (put : Entry) (middle : List Entry) (e : Entry) (later : List Entry)
    → is_first t e later (record { put = put; status = status put Open middle }) ≡ true
    → list_any (is_first t e later) (tracks (front ++ put ∷ middle)) ≡ true
any_cut t [] put middle e later first =
    or_left (is_first t e later (record { put = put; status = status put Open middle })) (list_any (is_first t e later) (tracks middle)) first
any_cut t (x ∷ front) put middle e later first =
    or_right
    (is_first t e later (record { put = x; status = status x Open (front ++ put ∷ middle) }))
    (list_any (is_first t e later) (tracks (front ++ put ∷ middle)))
    (any_cut t front put middle e later first)

record At (before : List Entry) (j : ℕ) (put : Entry) : Type 0 where
  front : List Entry
  middle : List Entry
  same : before ≡ front ++ put ∷ middle
  place : j ≡ length front

cut_at : (before : List Entry) (j : ℕ) (put : Entry) → slice_get before j ≡ Some put → At before j put
cut_at [] j put found = absurd (none-some put found)
cut_at (x ∷ before) zero put found = record { front = []; middle = before; same = ap (λ y. y ∷ before) (same_Some x put found); place = omega arith }
cut_at (x ∷ before) (suc j) put found =
    let go = cut_at before j put found in
    let place = go.place in
    record { front = x ∷ go.front; middle = go.middle; same = ap (λ es. x ∷ es) go.same; place = omega (arith, place) }

open_status : (s : Status) → is_open s ≡ true → s ≡ Open
open_status Ended is = absurd (false≢true is)
open_status Open is = refl
open_status (Withdrawn at) is = absurd (false≢true is)

-- ---- there
first_at : (n t i : ℕ) (before : List Entry) (e : Entry) (later : List Entry) → i ≡ length before → Cut t before e later → NamedAt n t (before ++ e ∷ later) i e
first_at n t i before e later at cut =
    let put = cut.put in
    let middle = cut.middle in
    let j = length cut.front in
    let whole : before ++ e ∷ later ≡ cut.front ++ put ∷ (middle ++ e ∷ later) =
    ap (λ es. es ++ e ∷ later) cut.same ∙ assoc_cut cut.front put middle e later in
    let halves = and_parts (is_open (status put Open middle) && withdraws put e) (live t put (status put (step put (status put Open middle) e) later)) cut.first in
    let front = and_parts (is_open (status put Open middle)) (withdraws put e) halves.0 in
    let opened = open_status (status put Open middle) front.0 in
    let long = length_cut cut.front put middle in
    let same_long : length before ≡ length (cut.front ++ put ∷ middle) = ap length cut.same in
    let found : slice_get (before ++ e ∷ later) i ≡ Some e = get_cut i before e later at in
    let there : slice_get (before ++ e ∷ later) j ≡ Some put = ap (λ es. slice_get es j) whole ∙ get_cut j cut.front put (middle ++ e ∷ later) refl in
    let rest : drop (suc j) (before ++ e ∷ later) ≡ middle ++ e ∷ later = ap (drop (suc j)) whole ∙ drop_cut j cut.front put (middle ++ e ∷ later) refl in
    let lives : live t put (status put Open (drop (suc j) (before ++ e ∷ later))) ≡ true =
    ap (λ es. live t put (status put Open es)) rest ∙ ap (live t put) (status_more put Open middle (e ∷ later)) ∙ halves.1 in
    let none = subst (Fate put middle) opened (fate_of put middle) in
    let behind : j < i = omega (arith, at, long, same_long) in
    elim (live_at_place (before ++ e ∷ later) j t put there lives) [
      | inl stands ↦ absurd (both_ways (withdraws put e) (stands.not_withdrawn i e behind found) front.1)
      | inr te ↦
          withdrawn
          j
          put
          te
          (elim (cases_order te.place i) [
            | inl same ↦ same
            | inr (inl less) ↦
                let beyond : j < te.place = te.later in
                let k = te.place - suc j in
                let short : k < length middle = omega (arith, less, at, long, same_long, beyond) in
                let inside = get_front k middle (e ∷ later) te.withdrawal short
                (sym (ap (λ es. slice_get es k) rest) ∙ to_after j (before ++ e ∷ later) te.place te.withdrawal beyond te.found) in
                absurd (both_ways (withdraws put te.withdrawal) (none.1 k te.withdrawal inside) te.is_withdrawal)
            | inr (inr more) ↦ absurd (both_ways (withdraws put e) (te.first i e behind more found) front.1)
          ])
    ]

nil_last : (later : List Entry) → is_nil later ≡ true → later ≡ []
nil_last [] is = refl
nil_last (x ∷ later) is = absurd (false≢true is)

pub named_there : (n t : ℕ) (before later : List Entry) (e : Entry) → names n t (tracks before) e later ≡ true
    → NamedAt n t (before ++ e ∷ later) (length before) e
named_there n t before later e is =
    let i = length before in
    let entries = before ++ e ∷ later in
    let found : slice_get entries i ≡ Some e = get_cut i before e later refl in
    let rest : drop (suc i) entries ≡ later = drop_cut i before e later refl in
    elim (or_cases
    (live t e (status e Open later) || list_any (is_first t e later) (tracks before))
    ((is_recent n e later || is_nil later) || stays e later)
    is) [
      | inl mitigation ↦
          elim (or_cases (live t e (status e Open later)) (list_any (is_first t e later) (tracks before)) mitigation) [
            | inl now ↦ mitigates (live_at_place entries i t e found (ap (λ es. live t e (status e Open es)) rest ∙ now))
            | inr first ↦ first_at n t i before e later refl (cut_of t before e later first)
          ]
      | inr other ↦
          elim (or_cases (is_recent n e later || is_nil later) (stays e later) other) [
            | inl end ↦
                elim (or_cases (is_recent n e later) (is_nil later) end) [
                  | inl among ↦
                      let parts = and_parts (is_signal e.change) (nat_lt (tally (signals e.peer e.domain) later) n) among in
                      recent
                      parts.0
                      (subst
                      (λ es. tally (signals e.peer e.domain) es < n)
                      (sym rest)
                      (ltb-true (tally (signals e.peer e.domain) later) n parts.1))
                  | inr nothing ↦
                      let long = length_cut before e later in
                      let none : length later ≡ 0 = ap length (nil_last later nothing) in
                      last (omega (arith, long, none))
                ]
            | inr still ↦ holds (held_at_place entries i e found (ap (stays e) rest ∙ still))
          ]
    ]

-- ---- back
none_open : (put : Entry) (middle : List Entry) → ((k : ℕ) (x : Entry) → slice_get middle k ≡ Some x → ends put x ≡ false)
    → ((k : ℕ) (x : Entry) → slice_get middle k ≡ Some x → withdraws put x ≡ false) → status put Open middle ≡ Open
none_open put [] none untaken = refl
none_open put (e ∷ middle) none untaken =
    ap (λ b. status put (cond b Ended (cond (withdraws put e) (Withdrawn e.time) Open)) middle) (none 0 e refl)
    ∙ ap (λ b. status put (cond b (Withdrawn e.time) Open) middle) (untaken 0 e refl)
    ∙ none_open put middle (λ k x found. none (suc k) x found) (λ k x found. untaken (suc k) x found)

get_more : (k : ℕ) (front rest : List Entry) (x : Entry) → slice_get front k ≡ Some x → slice_get (front ++ rest) k ≡ Some x
get_more k [] rest x found = absurd (none-some x found)
get_more zero (y ∷ front) rest x found = found
get_more (suc k) (y ∷ front) rest x found = get_more k front rest x found

get_length : (k : ℕ) (xs : List Entry) (x : Entry) → slice_get xs k ≡ Some x → k < length xs
get_length k [] x found = absurd (none-some x found)
get_length zero (y ∷ xs) x found = omega arith
get_length (suc k) (y ∷ xs) x found = let go = get_length k xs x found in omega (arith, go)

first_back : (t : ℕ) (before later : List Entry) (e : Entry) (j : ℕ) (put : Entry) (te : Terminating (before ++ e ∷ later) j t put)
    → te.place ≡ length before → list_any (is_first t e later) (tracks before) ≡ true
first_back t before later e j put te at =
    let entries = before ++ e ∷ later in
    let beyond : j < te.place = te.later in
    let cut = cut_at before j put (get_front j before (e ∷ later) put (omega (arith, beyond, at)) te.there) in
    let middle = cut.middle in
    let place = cut.place in
    let long = length_cut cut.front put middle in
    let same_long : length before ≡ length (cut.front ++ put ∷ middle) = ap length cut.same in
    let whole : entries ≡ cut.front ++ put ∷ (middle ++ e ∷ later) =
    ap (λ es. es ++ e ∷ later) cut.same ∙ assoc_cut cut.front put middle e later in
    let rest : drop (suc j) entries ≡ middle ++ e ∷ later = ap (drop (suc j)) whole ∙ drop_cut j cut.front put (middle ++ e ∷ later) place in
    let is_e : te.withdrawal ≡ e =
    same_Some te.withdrawal e (sym te.found ∙ ap (slice_get entries) at ∙ get_cut (length before) before e later refl) in
    let taken : withdraws put e ≡ true = ap (withdraws put) (sym is_e) ∙ te.is_withdrawal in
    let there : (k : ℕ) (x : Entry) → slice_get middle k ≡ Some x → slice_get entries (suc j + k) ≡ Some x =
    λ k x found. after_place j entries k x (ap (λ es. slice_get es k) rest ∙ get_more k middle (e ∷ later) x found) in
    let opened : status put Open middle ≡ Open =
    none_open
    put
    middle
    (λ k x found. te.not_ended (suc j + k) x (omega arith) (there k x found))
    (λ k x found.
    let short = get_length k middle x found in
    te.first (suc j + k) x (omega arith) (omega (arith, short, at, long, same_long, place)) (there k x found)) in
    let lives : live t put (status put (step put (status put Open middle) e) later) ≡ true =
    sym (ap (live t put) (status_more put Open middle (e ∷ later)))
    ∙ sym (ap (λ es. live t put (status put Open es)) rest)
    ∙ place_is_live entries j t put (inr te) in
    ap (λ es. list_any (is_first t e later) (tracks es)) cut.same
    ∙ any_cut
    t
    cut.front
    put
    middle
    e
    later
    (and_from
    (is_open (status put Open middle) && withdraws put e)
    (live t put (status put (step put (status put Open middle) e) later))
    (and_from (is_open (status put Open middle)) (withdraws put e) (ap is_open opened) taken)
    lives)

nil_is : (later : List Entry) → length later ≡ 0 → is_nil later ≡ true
nil_is [] none = refl
nil_is (x ∷ later) none = absurd (omega (arith, none))

pub named_back : (n t : ℕ) (before later : List Entry) (e : Entry) → NamedAt n t (before ++ e ∷ later) (length before) e
    → names n t (tracks before) e later ≡ true
named_back n t before later e why = by_cause why
  where
    rest : drop (suc (length before)) (before ++ e ∷ later) ≡ later
    rest = drop_cut (length before) before e later refl

    of_mitigation : live t e (status e Open later) || list_any (is_first t e later) (tracks before) ≡ true → names n t (tracks before) e later ≡ true
    of_mitigation is =
        or_left
        (live t e (status e Open later) || list_any (is_first t e later) (tracks before))
        ((is_recent n e later || is_nil later) || stays e later)
        is

    of_other : (is_recent n e later || is_nil later) || stays e later ≡ true → names n t (tracks before) e later ≡ true
    of_other is =
        or_right
        (live t e (status e Open later) || list_any (is_first t e later) (tracks before))
        ((is_recent n e later || is_nil later) || stays e later)
        is

    by_cause : NamedAt n t (before ++ e ∷ later) (length before) e → names n t (tracks before) e later ≡ true
    by_cause (mitigates lives) =
        of_mitigation
        (or_left
        (live t e (status e Open later))
        (list_any (is_first t e later) (tracks before))
        (sym (ap (λ es. live t e (status e Open es)) rest) ∙ place_is_live (before ++ e ∷ later) (length before) t e lives))
    by_cause (withdrawn j put te at) =
        of_mitigation
        (or_right (live t e (status e Open later)) (list_any (is_first t e later) (tracks before)) (first_back t before later e j put te at))
    by_cause (recent signal few) =
        of_other
        (or_left
        (is_recent n e later || is_nil later)
        (stays e later)
        (or_left
        (is_recent n e later)
        (is_nil later)
        (and_from
        (is_signal e.change)
        (nat_lt (tally (signals e.peer e.domain) later) n)
        signal
        (lt-ltb (tally (signals e.peer e.domain) later) n (subst (λ es. tally (signals e.peer e.domain) es < n) rest few)))))
    by_cause (last at) =
        let long = length_cut before e later in
        of_other
        (or_left
        (is_recent n e later || is_nil later)
        (stays e later)
        (or_right (is_recent n e later) (is_nil later) (nil_is later (omega (arith, long, at)))))
    by_cause (holds held) =
        of_other
        (or_right
        (is_recent n e later || is_nil later)
        (stays e later)
        (sym (ap (stays e) rest) ∙ place_is_held (before ++ e ∷ later) (length before) e held))
