-- Since a heartbeat was sent to a peer, its session had its last one, or began, no earlier.
use Rattle.std.proofs.Common.{◌≡◌, ℕ, ◌+◌, ◌≤◌, Bool, List, [], ◌∷◌, ◌++◌, map, Some, None, refl, sym, ap, subst, ◌∙◌, inl, inr, arith}
use Rattle.std.specs.Prelude.{if◌then◌else◌, ◌==◌, count_by}
use Rattle.std.proofs.lemmas.List.Recursion.{is_sum_by}
use Rattle.std.proofs.lemmas.Bool.{cases_Bool, cond-true, cond-false, eq-eqb, false≢true}
use Rattle.dots_history.specs.Histories.{tally}
use Rattle.dots_settings.specs.declared.peer.PeerRow.{PeerRow}
use Rattle.dots_settings.specs.Settings.{SettingsValue, IsSettings}
use Rattle.session_core.specs.declared.contact.PeerContact.{PeerContact}
use Rattle.session_core.specs.declared.contact.Beat.{Beat}
use Rattle.session_core.specs.Contacts.{is_of, unheard, row_heard, row_begun, row_numbered, with_row}
use Rattle.session_core.specs.Firsts.{IsFirst}
use Rattle.session_core.specs.Beating.{Beating, has_lost, row_forgotten, has_due, row_sent, IsNextBeat}
use Rattle.session_core.specs.Spacing.{Call, Hears, Begins, Numbers, Loses, Beats, Makes, Run, IsSince, AreSince}
use Rattle.session_core.proofs.Turns.{due, NotBefore, hearing_keeps, beginning_keeps, numbering_keeps, forgetting_keeps, sending_keeps, begun_peer}

-- each row of the peer
Since : ℕ → ℕ → List PeerContact → Type 0
Since peer time [] = Unit {0}
Since peer time (row ∷ rows) = (row.peer ≡ peer → NotBefore time row) × Since peer time rows

-- ---- lists

split : (peer time : ℕ) (xs : List PeerContact) (y : PeerContact) (ys : List PeerContact) → Since peer time (xs ++ y ∷ ys)
    → Since peer time xs × (y.peer ≡ peer → NotBefore time y) × Since peer time ys
unfolding Since
split peer time [] y ys all = (tt, all.0, all.1)
split peer time (x ∷ xs) y ys all = let rest = split peer time xs y ys all.1 in ((all.0, rest.0), rest.1, rest.2)

join : (peer time : ℕ) (xs : List PeerContact) (y : PeerContact) (ys : List PeerContact) → Since peer time xs → (y.peer ≡ peer → NotBefore time y)
    → Since peer time ys → Since peer time (xs ++ y ∷ ys)
unfolding Since
join peer time [] y ys front own rest = (own, rest)
join peer time (x ∷ xs) y ys front own rest = (front.0, join peer time xs y ys front.1 own rest)

first_keeps : (peer time : ℕ) (test : PeerContact → Bool) (becomes : PeerContact → PeerContact) (old new : List PeerContact) (row : PeerContact)
    → (becomes row).peer ≡ row.peer → (NotBefore time row → NotBefore time (becomes row)) → IsFirst test becomes old new row
    → Since peer time old → Since peer time new
first_keeps peer time test becomes old new row name keeps is all =
    let P : List PeerContact → Type 0 = Since peer time in
    let parts = split peer time is.front row is.rest (subst P is.there all) in
    subst P (sym is.after)
    (join peer time is.front (becomes row) is.rest parts.0 (λ same. keeps (parts.1 (sym name ∙ same))) parts.2)

change_one : (peer time other : ℕ) (becomes : PeerContact → PeerContact) (rows : List PeerContact)
    → ((row : PeerContact) → (becomes row).peer ≡ row.peer) → ((row : PeerContact) → NotBefore time row → NotBefore time (becomes row))
    → Since peer time rows → Since peer time (with_row other becomes rows)
unfolding Since
change_one peer time other becomes [] names keeps all = tt
change_one peer time other becomes (row ∷ rows) names keeps all =
    let P : List PeerContact → Type 0 = Since peer time in
    elim (cases_Bool (is_of other row)) [
      | inl is ↦
          subst P (sym (cond-true (is_of other row) (becomes row ∷ rows) (row ∷ with_row other becomes rows) is))
          (λ same. keeps row (all.0 (sym (names row) ∙ same)), all.1)
      | inr out ↦
          subst P (sym (cond-false (is_of other row) (becomes row ∷ rows) (row ∷ with_row other becomes rows) out))
          (all.0, change_one peer time other becomes rows names keeps all.1)
    ]

-- ---- calls

call_keeps : (peer time : ℕ) (call : Call) (old new : List PeerContact) → IsSince time call → Since peer time old → Makes old call new → Since peer time new
call_keeps peer time (Hears other now) old new since all is =
    let P : List PeerContact → Type 0 = Since peer time in
    subst P (sym is) (change_one peer time other (row_heard now) old (λ row. refl) (λ row before. hearing_keeps time now row since before) all)
call_keeps peer time (Begins other now) old new since all is =
    let P : List PeerContact → Type 0 = Since peer time in
    subst P (sym is) (change_one peer time other (row_begun now) old (begun_peer now) (λ row before. beginning_keeps time now row since before) all)
call_keeps peer time (Numbers other) old new since all is =
    let P : List PeerContact → Type 0 = Since peer time in
    subst P (sym is) (change_one peer time other row_numbered old (λ row. refl) (λ row before. numbering_keeps time row before) all)
call_keeps peer time (Loses by now None) old new since all is = let P : List PeerContact → Type 0 = Since peer time in subst P (sym is.same) all
call_keeps peer time (Loses by now (Some lost)) old new since all is =
    first_keeps peer time (has_lost by now) row_forgotten old new is.row refl (λ before. forgetting_keeps time is.row) is.first all
call_keeps peer time (Beats by now None) old new since all is = let P : List PeerContact → Type 0 = Since peer time in subst P (sym is.same) all
call_keeps peer time (Beats by now (Some beat)) old new since all is =
    first_keeps peer time (has_due by now) (row_sent now) old new is.row refl (λ before. sending_keeps time now is.row since) is.first all

run_keeps : (peer time : ℕ) (calls : List Call) (old new : List PeerContact) → AreSince time calls → Since peer time old → Run old calls new → Since peer time new
run_keeps peer time [] old new since all is = let P : List PeerContact → Type 0 = Since peer time in subst P (sym is) all
run_keeps peer time (call ∷ calls) old new since all is =
    run_keeps peer time calls is.0 new since.1 (call_keeps peer time call old is.0 since.0 all is.1) is.2

-- ---- a peer has one row at most

-- so it is with the peers of settings, whatever calls follow
HasOne : ℕ → List PeerContact → Type 0
HasOne peer rows = tally (is_of peer) rows ≤ 1

counted : (peer : ℕ) (xs : List PeerContact) (y : PeerContact) (ys : List PeerContact) → tally (is_of peer) (xs ++ y ∷ ys)
    ≡ tally (is_of peer) xs + (if is_of peer y then 1 else 0) + tally (is_of peer) ys
counted peer [] y ys = omega arith
counted peer (x ∷ xs) y ys = let rest = counted peer xs y ys in omega (arith, rest)

counted_first : (peer : ℕ) (test : PeerContact → Bool) (becomes : PeerContact → PeerContact) (old new : List PeerContact) (row : PeerContact)
    → (becomes row).peer ≡ row.peer → IsFirst test becomes old new row → tally (is_of peer) new ≡ tally (is_of peer) old
counted_first peer test becomes old new row name is =
    ap (tally (is_of peer)) is.after
    ∙ counted peer is.front (becomes row) is.rest
    ∙ ap (λ p. tally (is_of peer) is.front + (if p == peer then 1 else 0) + tally (is_of peer) is.rest) name
    ∙ sym (counted peer is.front row is.rest)
    ∙ sym (ap (tally (is_of peer)) is.there)

counted_with : (peer other : ℕ) (becomes : PeerContact → PeerContact) (rows : List PeerContact) → ((row : PeerContact) → (becomes row).peer ≡ row.peer)
    → tally (is_of peer) (with_row other becomes rows) ≡ tally (is_of peer) rows
counted_with peer other becomes [] names = refl
counted_with peer other becomes (row ∷ rows) names =
    elim (cases_Bool (is_of other row)) [
      | inl is ↦
          ap (tally (is_of peer)) (cond-true (is_of other row) (becomes row ∷ rows) (row ∷ with_row other becomes rows) is)
          ∙ ap (λ p. (if p == peer then 1 else 0) + tally (is_of peer) rows) (names row)
      | inr out ↦
          ap (tally (is_of peer)) (cond-false (is_of other row) (becomes row ∷ rows) (row ∷ with_row other becomes rows) out)
          ∙ ap (λ n. (if is_of peer row then 1 else 0) + n) (counted_with peer other becomes rows names)
    ]

counted_call : (peer : ℕ) (call : Call) (old new : List PeerContact) → Makes old call new → tally (is_of peer) new ≡ tally (is_of peer) old
counted_call peer (Hears other now) old new is = ap (tally (is_of peer)) is ∙ counted_with peer other (row_heard now) old (λ row. refl)
counted_call peer (Begins other now) old new is = ap (tally (is_of peer)) is ∙ counted_with peer other (row_begun now) old (begun_peer now)
counted_call peer (Numbers other) old new is = ap (tally (is_of peer)) is ∙ counted_with peer other row_numbered old (λ row. refl)
counted_call peer (Loses by now None) old new is = ap (tally (is_of peer)) is.same
counted_call peer (Loses by now (Some lost)) old new is = counted_first peer (has_lost by now) row_forgotten old new is.row refl is.first
counted_call peer (Beats by now None) old new is = ap (tally (is_of peer)) is.same
counted_call peer (Beats by now (Some beat)) old new is = counted_first peer (has_due by now) (row_sent now) old new is.row refl is.first

counted_run : (peer : ℕ) (calls : List Call) (old new : List PeerContact) → Run old calls new → tally (is_of peer) new ≡ tally (is_of peer) old
counted_run peer [] old new is = ap (tally (is_of peer)) is
counted_run peer (call ∷ calls) old new is = counted_run peer calls is.0 new is.2 ∙ counted_call peer call old is.0 is.1

counted_start : (peer : ℕ) (peers : List PeerRow) → tally (is_of peer) (map unheard peers) ≡ count_by (λ row. row.peer == peer) peers
counted_start peer peers = is_sum_by (λ rows. tally (is_of peer) (map unheard rows)) (λ row. if row.peer == peer then 1 else 0) refl (λ x xs. refl) peers

one_row : (settings : SettingsValue) (peer : ℕ) (calls : List Call) (new : List PeerContact) → IsSettings settings → Run (map unheard settings.peers) calls new
    → HasOne peer new
unfolding HasOne
one_row settings peer calls new are run =
    let all = counted_run peer calls (map unheard settings.peers) new run in
    let start = counted_start peer settings.peers in
    let once = are.peer_once peer in
    omega (arith, all, start, once)

-- ---- the first heartbeat, and the next

none_of : (peer time : ℕ) (rows : List PeerContact) → tally (is_of peer) rows ≤ 0 → Since peer time rows
unfolding Since
none_of peer time [] few = tt
none_of peer time (row ∷ rows) few =
    elim (cases_Bool (is_of peer row)) [
      | inl is ↦
          let one = cond-true {A = ℕ} (is_of peer row) 1 0 is in absurd (omega (arith, one, few))
      | inr out ↦
          (λ same. absurd (false≢true (sym out ∙ eq-eqb row.peer peer same)), none_of peer time rows (omega (arith, few)))
    ]

after_first : (by : Beating) (at : ℕ) (beat : Beat) (a b : List PeerContact) → HasOne beat.peer a → IsNextBeat by at a b beat → Since beat.peer at b
unfolding HasOne
after_first by at beat a b one is =
    let P : List PeerContact → Type 0 = Since beat.peer at in
    let first = is.first in
    let w = due (by is.row.peer).0 at is.row beat is.due in
    let own = cond-true {A = ℕ} (is_of beat.peer is.row) 1 0 (eq-eqb is.row.peer beat.peer (sym w.own)) in
    let long = counted beat.peer first.front is.row first.rest in
    let all = ap (tally (is_of beat.peer)) first.there in
    let front = none_of beat.peer at first.front (omega (arith, one, own, long, all)) in
    let rest = none_of beat.peer at first.rest (omega (arith, one, own, long, all)) in
    subst P (sym first.after)
    (join beat.peer at first.front (row_sent at is.row) first.rest front (λ same. sending_keeps at at is.row (omega arith)) rest)

pub spaced : (settings : SettingsValue) (early late : Beating) (at later : ℕ) (beat next : Beat) (before between : List Call) (a b c d : List PeerContact)
    → IsSettings settings → Run (map unheard settings.peers) before a → IsNextBeat early at a b beat → Run b between c → AreSince at between
    → IsNextBeat late later c d next → next.peer ≡ beat.peer → at + (late next.peer).0 ≤ later
spaced settings early late at later beat next before between a b c d are start first run since second same =
    let P : List PeerContact → Type 0 = Since beat.peer at in
    let one = one_row settings beat.peer before a are start in
    let all = run_keeps beat.peer at between b c since (after_first early at beat a b one first) run in
    let parts = split beat.peer at second.first.front second.row second.first.rest (subst P second.first.there all) in
    let w = due (late second.row.peer).0 later second.row next second.due in
    let held = parts.1 (sym w.own ∙ same) w.session w.has in
    let interval : (late next.peer).0 ≡ (late second.row.peer).0 = ap (λ p. (late p).0) w.own in
    omega (arith, held, interval, w.passed)
