-- What is asked for at one time until there is none.
use Rattle.std.proofs.Common.{◌≡◌, ℕ, ◌+◌, ◌<◌, Bool, true, false, List, [], ◌∷◌, ◌++◌, length, map, take, drop, get_or, set, Option, Some, None, refl, sym, ap, ◌∙◌, inl, inr, arith}
use Rattle.std.specs.Prelude.{if◌then◌else◌, ◌&&◌, nat_lt, nat_le, is_some, filter, filter_map, count_by, option_map, option_and_then}
use Rattle.std.specs.List.{list_any, cons_option}
use Rattle.std.proofs.lemmas.Bool.{cases_Bool, cond-true, cond-false, or_parts}
use Rattle.std.proofs.lemmas.Grind.{common_steps}
use Rattle.std.proofs.lemmas.List.{map-append}
use Rattle.std.proofs.lemmas.List.Elements.{filter-append}
use Rattle.std.proofs.lemmas.List.Sums.{sum_by-append, sum_by-cons}
use Rattle.session_core.specs.declared.contact.Session.{Session}
use Rattle.session_core.specs.declared.contact.Contact.{Contact}
use Rattle.session_core.specs.declared.contact.PeerContact.{PeerContact}
use Rattle.session_core.specs.declared.contact.Beat.{Beat}
use Rattle.session_core.specs.Contacts.{next_id}
use Rattle.session_core.specs.Firsts.{IsNowhere, IsFirst}
use Rattle.session_core.specs.Beating.{Beating, lost_in, has_lost, row_forgotten, IsNextLost, beat_to, beat_in, due_beat, has_due, session_sent, contact_sent, row_sent, IsNextBeat}
use Rattle.session_core.specs.Places.{row_peer}
use Rattle.session_core.specs.Spacing.{LosesAll, BeatsAll, Tick, without_lost, with_beat}
use Rattle.session_core.proofs.Rows.{cut, placed_in}
use Rattle.session_core.proofs.Turns.{none_left}

-- ---- first ones, until none is left

-- the rows that pass become others
turn : (PeerContact → Bool) → (PeerContact → PeerContact) → PeerContact → PeerContact
turn test becomes row = if test row then becomes row else row

Chain : (PeerContact → Bool) → (PeerContact → PeerContact) → List PeerContact → List PeerContact → List PeerContact → Type 0
Chain test becomes old [] new = IsNowhere test old new
Chain test becomes old (row ∷ rows) new = (between : List PeerContact) × IsFirst test becomes old between row × Chain test becomes between rows new

none_filtered : (test : PeerContact → Bool) (xs : List PeerContact) → list_any test xs ≡ false → filter test xs ≡ []
none_filtered test [] none = refl
none_filtered test (x ∷ xs) none =
    let parts = or_parts (test x) (list_any test xs) none in
    cond-false (test x) (x ∷ filter test xs) (filter test xs) parts.0 ∙ none_filtered test xs parts.1

none_turned : (test : PeerContact → Bool) (becomes : PeerContact → PeerContact) (xs : List PeerContact) → list_any test xs ≡ false
    → map (turn test becomes) xs ≡ xs
unfolding turn
none_turned test becomes [] none = refl
none_turned test becomes (x ∷ xs) none =
    let parts = or_parts (test x) (list_any test xs) none in
    ap (λ y. y ∷ map (turn test becomes) xs) (cond-false (test x) (becomes x) x parts.0)
    ∙ ap (λ ys. x ∷ ys) (none_turned test becomes xs parts.1)

filter_first : (test : PeerContact → Bool) (front : List PeerContact) (x : PeerContact) (rest : List PeerContact) → list_any test front ≡ false
    → test x ≡ true → filter test (front ++ x ∷ rest) ≡ x ∷ filter test rest
filter_first test front x rest none is =
    filter-append test front (x ∷ rest)
    ∙ ap (λ xs. xs ++ filter test (x ∷ rest)) (none_filtered test front none)
    ∙ cond-true (test x) (x ∷ filter test rest) (filter test rest) is

filter_after : (test : PeerContact → Bool) (front : List PeerContact) (x : PeerContact) (rest : List PeerContact) → list_any test front ≡ false
    → test x ≡ false → filter test (front ++ x ∷ rest) ≡ filter test rest
filter_after test front x rest none is =
    filter-append test front (x ∷ rest)
    ∙ ap (λ xs. xs ++ filter test (x ∷ rest)) (none_filtered test front none)
    ∙ cond-false (test x) (x ∷ filter test rest) (filter test rest) is

turn_from : (test : PeerContact → Bool) (becomes : PeerContact → PeerContact) (front : List PeerContact) (x y : PeerContact) (rest : List PeerContact)
    → list_any test front ≡ false → turn test becomes x ≡ y
    → map (turn test becomes) (front ++ x ∷ rest) ≡ front ++ y ∷ map (turn test becomes) rest
turn_from test becomes front x y rest none is =
    map-append (turn test becomes) front (x ∷ rest)
    ∙ ap (λ xs. xs ++ turn test becomes x ∷ map (turn test becomes) rest) (none_turned test becomes front none)
    ∙ ap (λ z. front ++ z ∷ map (turn test becomes) rest) is

chained : (test : PeerContact → Bool) (becomes : PeerContact → PeerContact) (rows old new : List PeerContact)
    → ((row : PeerContact) → test (becomes row) ≡ false) → Chain test becomes old rows new
    → (rows ≡ filter test old) × (new ≡ map (turn test becomes) old)
unfolding Chain turn
chained test becomes [] old new once is =
    (sym (none_filtered test old is.none), is.same ∙ sym (none_turned test becomes old is.none))
chained test becomes (row ∷ rows) old new once is =
    let first = is.1 in
    let left = chained test becomes rows is.0 new once is.2 in
    let made = becomes row in (
      ap (λ xs. row ∷ xs)
          (left.0 ∙ ap (filter test) first.after ∙ filter_after test first.front made first.rest first.none (once row))
          ∙ sym (filter_first test first.front row first.rest first.none first.passes)
          ∙ sym (ap (filter test) first.there),
      left.1
          ∙ ap (map (turn test becomes)) first.after
          ∙ turn_from test becomes first.front made made first.rest first.none (cond-false (test made) (becomes made) made (once row))
          ∙ sym (turn_from test becomes first.front row made first.rest first.none (cond-true (test row) made row first.passes))
          ∙ sym (ap (map (turn test becomes)) first.there),
    )

-- ---- what is forgotten isn't lost, and what is sent isn't due

forgotten_once : (by : Beating) (now : ℕ) (row : PeerContact) → has_lost by now (row_forgotten row) ≡ false
forgotten_once by now row = ap (lost_in (by row.peer) now) (none_left row)

not_again : (interval now : ℕ) → (nat_lt 0 interval && nat_le (now + interval) now) ≡ false
not_again interval now = grind (arith, common_steps)

sent_session_once : (interval now peer id : ℕ) (o : Option Session)
    → is_some (option_and_then (beat_to interval now peer id) (option_map (session_sent now) o)) ≡ false
sent_session_once interval now peer id None = refl
sent_session_once interval now peer id (Some x) =
    ap is_some (cond-false (nat_lt 0 interval && nat_le (now + interval) now) _ None (not_again interval now))

sent_contact_once : (interval now peer : ℕ) (o : Option Contact)
    → is_some (option_and_then (beat_in interval now peer) (option_map (contact_sent now) o)) ≡ false
sent_contact_once interval now peer None = refl
sent_contact_once interval now peer (Some contact) = sent_session_once interval now peer (next_id contact.number) contact.session

sent_once : (by : Beating) (now : ℕ) (row : PeerContact) → has_due by now (row_sent now row) ≡ false
sent_once by now row = sent_contact_once (by row.peer).0 now row.peer row.contact

-- ---- one fewer

counted : (test : PeerContact → Bool) (front : List PeerContact) (x : PeerContact) (rest : List PeerContact)
    → count_by test (front ++ x ∷ rest) ≡ count_by test front + ((if test x then 1 else 0) + count_by test rest)
counted test front x rest =
    let one : PeerContact → ℕ = λ y. if test y then 1 else 0 in
    sum_by-append one front (x ∷ rest) ∙ ap (λ n. count_by test front + n) (sum_by-cons one x rest)

fewer_between : (test : PeerContact → Bool) (front : List PeerContact) (row new : PeerContact) (rest : List PeerContact) → test row ≡ true → test new ≡ false
    → count_by test (front ++ row ∷ rest) ≡ count_by test (front ++ new ∷ rest) + 1
fewer_between test front row new rest passes once =
    let before = counted test front row rest in
    let after = counted test front new rest in
    let one = cond-true {A = ℕ} (test row) 1 0 passes in
    let none = cond-false {A = ℕ} (test new) 1 0 once in
    omega (arith, before, after, one, none)

fewer : (test : PeerContact → Bool) (becomes : PeerContact → PeerContact) (old new : List PeerContact) (row : PeerContact)
    → test (becomes row) ≡ false → IsFirst test becomes old new row → count_by test old ≡ count_by test new + 1
fewer test becomes old new row once is =
    ap (count_by test) is.there
    ∙ fewer_between test is.front row (becomes row) is.rest is.passes once
    ∙ ap (λ xs. count_by test xs + 1) (sym is.after)

-- a row that passes becomes one that doesn't
pub fewer_set : (test : PeerContact → Bool) (old rows : List PeerContact) (i : ℕ) (d new : PeerContact) → i < length old → rows ≡ old
    → test (get_or rows i d) ≡ true → test new ≡ false → count_by test old ≡ count_by test (set rows i new) + 1
fewer_set test old rows i d new less are passes once =
    let front = take i old in
    let rest = drop (i + 1) old in
    ap (count_by test) (cut old i d less)
    ∙ fewer_between test front (get_or old i d) new rest (ap (λ xs. test (get_or xs i d)) (sym are) ∙ passes) once
    ∙ ap (λ xs. count_by test xs + 1) (sym (placed_in old i new less))
    ∙ ap (λ xs. count_by test (set xs i new) + 1) (sym are)

pub fewer_lost : (by : Beating) (now : ℕ) (old new : List PeerContact) (peer : ℕ) → IsNextLost by now old new peer
    → count_by (has_lost by now) old ≡ count_by (has_lost by now) new + 1
fewer_lost by now old new peer is = fewer (has_lost by now) row_forgotten old new is.row (forgotten_once by now is.row) is.first

pub fewer_beats : (by : Beating) (now : ℕ) (old new : List PeerContact) (beat : Beat) → IsNextBeat by now old new beat
    → count_by (has_due by now) old ≡ count_by (has_due by now) new + 1
fewer_beats by now old new beat is = fewer (has_due by now) (row_sent now) old new is.row (sent_once by now is.row) is.first

-- ---- a tick

lost_rows : (by : Beating) (now : ℕ) (lost : List ℕ) (old new : List PeerContact) → LosesAll by now old lost new
    → (rows : List PeerContact) × (lost ≡ map row_peer rows) × Chain (has_lost by now) row_forgotten old rows new
unfolding Chain
lost_rows by now [] old new is = ([], refl, is)
lost_rows by now (peer ∷ lost) old new is =
    let next = is.1 in
    let left = lost_rows by now lost is.0 new is.2 in
    (next.row ∷ left.0, ap (λ p. p ∷ lost) next.own ∙ ap (λ ps. next.row.peer ∷ ps) left.1, (is.0, next.first, left.2))

beat_rows : (by : Beating) (now : ℕ) (given : List Beat) (old new : List PeerContact) → BeatsAll by now old given new
    → (rows : List PeerContact) × (given ≡ filter_map (due_beat by now) rows) × Chain (has_due by now) (row_sent now) old rows new
unfolding Chain
beat_rows by now [] old new is = ([], refl, is)
beat_rows by now (beat ∷ given) old new is =
    let next = is.1 in
    let left = beat_rows by now given is.0 new is.2 in (
      next.row ∷ left.0,
      ap (λ bs. beat ∷ bs) left.1 ∙ sym (ap (λ o. cons_option o (filter_map (due_beat by now) left.0)) next.due),
      (is.0, next.first, left.2),
    )

no_beat : (o : Option Beat) → is_some o ≡ false → o ≡ None
no_beat None is = refl
no_beat (Some beat) is = cc is

given_by_due : (by : Beating) (now : ℕ) (rows : List PeerContact)
    → filter_map (due_beat by now) (filter (has_due by now) rows) ≡ filter_map (due_beat by now) rows
given_by_due by now [] = refl
given_by_due by now (row ∷ rows) =
    let passing = filter (has_due by now) rows in
    let given = filter_map (due_beat by now) in
    elim (cases_Bool (has_due by now row)) [
      | inl is ↦
          ap given (cond-true (has_due by now row) (row ∷ passing) passing is)
          ∙ ap (cons_option (due_beat by now row)) (given_by_due by now rows)
      | inr out ↦
          ap given (cond-false (has_due by now row) (row ∷ passing) passing out)
          ∙ given_by_due by now rows
          ∙ sym (ap (λ o. cons_option o (given rows)) (no_beat (due_beat by now row) out))
    ]

-- the heartbeats of a tick are those that are due, and each counts as sent
pub beaten : (by : Beating) (now : ℕ) (given : List Beat) (old new : List PeerContact) → BeatsAll by now old given new
    → (given ≡ filter_map (due_beat by now) old) × (new ≡ map (with_beat by now) old)
unfolding turn
beaten by now given old new is =
    let sent = beat_rows by now given old new is in
    let all = chained (has_due by now) (row_sent now) sent.0 old new (sent_once by now) sent.2 in
    (sent.1 ∙ ap (filter_map (due_beat by now)) all.0 ∙ given_by_due by now old, all.1)

pub ticked : (by : Beating) (now : ℕ) (lost : List ℕ) (given : List Beat) (old new : List PeerContact) → Tick by now old lost given new
    → (lost ≡ map row_peer (filter (has_lost by now) old)) × (given ≡ filter_map (due_beat by now) (map (without_lost by now) old))
    × (new ≡ map (with_beat by now) (map (without_lost by now) old))
unfolding turn
ticked by now lost given old new is =
    let gone = lost_rows by now lost old is.0 is.1 in
    let sent = beat_rows by now given is.0 new is.2 in
    let first = chained (has_lost by now) row_forgotten gone.0 old is.0 (forgotten_once by now) gone.2 in
    let second = chained (has_due by now) (row_sent now) sent.0 is.0 new (sent_once by now) sent.2 in (
      gone.1 ∙ ap (map row_peer) first.0,
      sent.1
          ∙ ap (filter_map (due_beat by now)) second.0
          ∙ given_by_due by now is.0
          ∙ ap (filter_map (due_beat by now)) first.1,
      second.1 ∙ ap (map (with_beat by now)) first.1,
    )
