-- No number stands at two places, so that what becomes of a place becomes of its number.
use Rattle.std.proofs.Common.{◌≡◌, ℕ, zero, suc, ◌+◌, ◌≤◌, Bool, true, false, cond, List, [], ◌∷◌, ◌++◌, map, Option, Some, None, refl, sym, ap, ◌∙◌, subst, inl, inr, arith}
use Rattle.std.specs.Prelude.{◌==◌, ◌||◌, not, flat_map, count_by, slice_get, option_and_then, option_map}
use Rattle.std.specs.List.{find, list_any}
use Rattle.std.proofs.lemmas.Bool.{cases_eq, eq-eqb, ne_eqb, cond-true, cond-false}
use Rattle.std.proofs.lemmas.List.Sums.{sum_by-cons, sum_by-append, sum_by_push}
use Rattle.dots_settings.specs.declared.peer.PeerRow.{PeerRow}
use Rattle.dots_settings.specs.declared.peer.Role.{Role}
use Rattle.dots_settings.specs.declared.peer.Role.TheVariants as roles
use Rattle.stream_table.specs.declared.seat.Seat.{Seat}
use Rattle.stream_table.specs.declared.seat.Seat.TheVariants.{Older, Newer}
use Rattle.stream_table.specs.declared.place.LinePlace.{LinePlace}
use Rattle.stream_table.specs.Lines.{Line, PeerLines, is_number, is_of, all_lines, no_lines_as, no_lines, emptied, others, forgotten, has_room, row_opened, with_row, opened, line_buffering, row_buffering, buffering, has_number, peer_in, peer_of}
use Rattle.stream_table.specs.Numbers.{line_in}
use Rattle.stream_table.specs.Places.{line_of_row, line_at, conn_of, conn_at, AreApart, IsAt, NowBuffers, with_line, buffered_by, row_with, with_place}
use Rattle.stream_table.proofs.Placing.{one_there}

-- how many lines have the number
abbrev times : ℕ → List Line → ℕ
times conn lines = count_by (is_number conn) lines

number_there : (a b : ℕ) → Some a ≡ Some b → a ≡ b
number_there a b same = cc

abbrev one_if : Bool → ℕ
one_if b = cond b 1 0

times_cons : (conn : ℕ) (line : Line) (lines : List Line) → times conn (line ∷ lines) ≡ one_if (is_number conn line) + times conn lines
times_cons conn line lines = sum_by-cons (λ l. cond (is_number conn l) 1 0) line lines

times_append : (conn : ℕ) (front back : List Line) → times conn (front ++ back) ≡ times conn front + times conn back
times_append conn front back = sum_by-append (λ l. cond (is_number conn l) 1 0) front back

own : (line : Line) → is_number line.conn line ≡ true
own line = eq-eqb line.conn line.conn refl

abbrev of_lines : ℕ → List Line → PeerLines
of_lines peer lines = record { peer = peer; lines = lines }

-- ---- nothing is open

pub apart_emptied : (rows : List PeerLines) → AreApart (emptied rows)
apart_emptied [] conn = omega arith
apart_emptied (row ∷ rows) conn = apart_emptied rows conn

starts : (peer : ℕ) (role : Role) (rows : List PeerLines) → all_lines (no_lines_as peer role ++ rows) ≡ all_lines rows
starts peer (roles.Client domain) rows = refl
starts peer roles.Gateway rows = refl
starts peer roles.Stranger rows = refl

pub apart_begun : (peers : List PeerRow) → AreApart (flat_map no_lines peers)
apart_begun [] conn = omega arith
apart_begun (row ∷ peers) conn =
    let same = ap (times conn) (starts row.peer row.role (flat_map no_lines peers)) in
    let rest = apart_begun peers conn in
    omega (arith, same, rest)

-- ---- forgetting

fewer_lines : (conn gone : ℕ) (lines : List Line) → times conn (others gone lines) ≤ times conn lines
fewer_lines conn gone [] = omega arith
fewer_lines conn gone (line ∷ lines) = by_test (is_number gone line) (fewer_lines conn gone lines)
  where
    by_test : (b : Bool) → times conn (others gone lines) ≤ times conn lines
        → times conn (cond (not b) (line ∷ others gone lines) (others gone lines)) ≤ times conn (line ∷ lines)
    by_test true less = let n = times_cons conn line lines in omega (arith, less, n)
    by_test false less =
        let n = times_cons conn line lines in
        let m = times_cons conn line (others gone lines) in
        omega (arith, less, n, m)

none_left : (conn : ℕ) (lines : List Line) → times conn (others conn lines) ≡ 0
none_left conn [] = refl
none_left conn (line ∷ lines) = by_test (is_number conn line) refl (none_left conn lines)
  where
    by_test : (b : Bool) → is_number conn line ≡ b → times conn (others conn lines) ≡ 0 → times conn (cond (not b) (line ∷ others conn lines) (others conn lines)) ≡ 0
    by_test true is rest = rest
    by_test false is rest = let n = times_cons conn line (others conn lines) in let o = ap one_if is in omega (arith, n, o, rest)

pub fewer : (conn gone : ℕ) (rows : List PeerLines) → times conn (all_lines (forgotten gone rows)) ≤ times conn (all_lines rows)
fewer conn gone [] = omega arith
fewer conn gone (row ∷ rows) =
    let a = times_append conn (others gone row.lines) (all_lines (forgotten gone rows)) in
    let b = times_append conn row.lines (all_lines rows) in
    let here = fewer_lines conn gone row.lines in
    let rest = fewer conn gone rows in
    omega (arith, a, b, here, rest)

pub none_of : (conn : ℕ) (rows : List PeerLines) → times conn (all_lines (forgotten conn rows)) ≡ 0
none_of conn [] = refl
none_of conn (row ∷ rows) =
    let a = times_append conn (others conn row.lines) (all_lines (forgotten conn rows)) in
    let here = none_left conn row.lines in
    let rest = none_of conn rows in
    omega (arith, a, here, rest)

pub apart_forgotten : (gone : ℕ) (rows : List PeerLines) → AreApart rows → AreApart (forgotten gone rows)
apart_forgotten gone rows apart conn = let a = apart conn in let f = fewer conn gone rows in omega (arith, a, f)

-- ---- opening

one_more : (conn new : ℕ) (row : PeerLines) → times conn (row_opened new row).lines ≤ times conn row.lines + one_if (new == conn)
one_more conn new row = by_room (has_room row)
  where
    by_room : (b : Bool) → times conn (cond b (record { peer = row.peer; lines = row.lines ++ record { conn = new; buffered = [] } ∷ [] }) row).lines
        ≤ times conn row.lines + one_if (new == conn)
    by_room true = let n = sum_by_push (λ l. cond (is_number conn l) 1 0) row.lines (record { conn = new; buffered = [] }) in omega (arith, n)
    by_room false = omega arith

more_at_most : (conn new peer : ℕ) (rows : List PeerLines)
    → times conn (all_lines (with_row peer (row_opened new) rows)) ≤ times conn (all_lines rows) + one_if (new == conn)
more_at_most conn new peer [] = omega arith
more_at_most conn new peer (row ∷ rows) = by_peer (is_of peer row) (more_at_most conn new peer rows)
  where
    by_peer : (b : Bool) → times conn (all_lines (with_row peer (row_opened new) rows)) ≤ times conn (all_lines rows) + one_if (new == conn)
        → times conn (all_lines (cond b (row_opened new row ∷ rows) (row ∷ with_row peer (row_opened new) rows))) ≤ times conn (all_lines (row ∷ rows)) + one_if (new == conn)
    by_peer true rest =
        let a = times_append conn (row_opened new row).lines (all_lines rows) in
        let b = times_append conn row.lines (all_lines rows) in
        let m = one_more conn new row in
        omega (arith, a, b, m)
    by_peer false rest =
        let a = times_append conn row.lines (all_lines (with_row peer (row_opened new) rows)) in
        let b = times_append conn row.lines (all_lines rows) in
        omega (arith, a, b, rest)

pub apart_opened : (peer new : ℕ) (rows : List PeerLines) → AreApart rows → AreApart (opened peer new rows)
apart_opened peer new rows apart conn = elim (cases_eq new conn) [ inl same ↦ by_same same | inr other ↦ by_other other ]
  where
    by_same : new ≡ conn → times conn (all_lines (opened peer new rows)) ≤ 1
    by_same same =
        let n = subst (λ c. times c (all_lines (forgotten new rows)) ≡ 0) same (none_of new rows) in
        let m = more_at_most conn new peer (forgotten new rows) in
        let o = ap one_if (eq-eqb new conn same) in
        omega (arith, n, m, o)

    by_other : (new ≡ conn → ⊥) → times conn (all_lines (opened peer new rows)) ≤ 1
    by_other other =
        let n = apart_forgotten new rows apart conn in
        let m = more_at_most conn new peer (forgotten new rows) in
        let o = ap one_if (ne_eqb new conn other) in
        omega (arith, n, m, o)

-- ---- bytes that come or go

same_times_in : (conn : ℕ) (seat : Seat) (becomes : List ℕ → List ℕ) (lines : List Line) → times conn (with_line seat (buffered_by becomes) lines) ≡ times conn lines
same_times_in conn seat becomes [] = refl
same_times_in conn Older becomes (line ∷ lines) = times_cons conn (buffered_by becomes line) lines ∙ sym (times_cons conn line lines)
same_times_in conn Newer becomes (line ∷ []) = refl
same_times_in conn Newer becomes (line ∷ next ∷ lines) =
    times_cons conn line (buffered_by becomes next ∷ lines)
    ∙ ap (λ n. one_if (is_number conn line) + n) (times_cons conn (buffered_by becomes next) lines ∙ sym (times_cons conn next lines))
    ∙ sym (times_cons conn line (next ∷ lines))

same_times : (conn i : ℕ) (seat : Seat) (becomes : List ℕ → List ℕ) (rows : List PeerLines)
    → times conn (all_lines (with_place i (row_with seat becomes) rows)) ≡ times conn (all_lines rows)
same_times conn i seat becomes [] = refl
same_times conn zero seat becomes (row ∷ rows) =
    times_append conn (with_line seat (buffered_by becomes) row.lines) (all_lines rows)
    ∙ ap (λ n. n + times conn (all_lines rows)) (same_times_in conn seat becomes row.lines)
    ∙ sym (times_append conn row.lines (all_lines rows))
same_times conn (suc i) seat becomes (row ∷ rows) =
    times_append conn row.lines (all_lines (with_place i (row_with seat becomes) rows))
    ∙ ap (λ n. times conn row.lines + n) (same_times conn i seat becomes rows)
    ∙ sym (times_append conn row.lines (all_lines rows))

pub apart_placed : (i : ℕ) (seat : Seat) (becomes : List ℕ → List ℕ) (rows : List PeerLines) → AreApart rows → AreApart (with_place i (row_with seat becomes) rows)
apart_placed i seat becomes rows apart conn = let s = same_times conn i seat becomes rows in let a = apart conn in omega (arith, s, a)

-- ---- what becomes of a place becomes of its number

not_here : (conn : ℕ) (line : Line) (lines : List Line) (n : ℕ) → times conn (line ∷ lines) + n ≤ 1 → 1 ≤ times conn lines + n → is_number conn line ≡ false
not_here conn line lines n most least = by_test (is_number conn line) (times_cons conn line lines)
  where
    by_test : (b : Bool) → times conn (line ∷ lines) ≡ one_if b + times conn lines → b ≡ false
    by_test true is = absurd (omega (arith, is, most, least))
    by_test false is = refl

still : (conn : ℕ) (becomes : List ℕ → List ℕ) (line : Line) → is_number conn line ≡ false → line_buffering conn becomes line ≡ line
still conn becomes line other = cond-false (is_number conn line) (buffered_by becomes line) line other

all_still : (conn : ℕ) (becomes : List ℕ → List ℕ) (lines : List Line) → times conn lines ≡ 0 → map (line_buffering conn becomes) lines ≡ lines
all_still conn becomes [] none = refl
all_still conn becomes (line ∷ lines) none = by_test (is_number conn line) refl (times_cons conn line lines) (all_still conn becomes lines)
  where
    by_test : (b : Bool) → is_number conn line ≡ b → times conn (line ∷ lines) ≡ one_if b + times conn lines
        → (times conn lines ≡ 0 → map (line_buffering conn becomes) lines ≡ lines) → line_buffering conn becomes line ∷ map (line_buffering conn becomes) lines ≡ line ∷ lines
    by_test true is n rest = absurd (omega (arith, none, n))
    by_test false is n rest =
        ap (λ l. l ∷ map (line_buffering conn becomes) lines) (still conn becomes line is)
        ∙ ap (λ ls. line ∷ ls) (rest (omega (arith, none, n)))

row_still : (conn : ℕ) (becomes : List ℕ → List ℕ) (row : PeerLines) → times conn row.lines ≡ 0 → row_buffering conn becomes row ≡ row
row_still conn becomes row none = ap (of_lines row.peer) (all_still conn becomes row.lines none)

rows_still : (conn : ℕ) (becomes : List ℕ → List ℕ) (rows : List PeerLines) → times conn (all_lines rows) ≡ 0 → buffering conn becomes rows ≡ rows
rows_still conn becomes [] none = refl
rows_still conn becomes (row ∷ rows) none =
    let a = times_append conn row.lines (all_lines rows) in
    ap (λ r. r ∷ buffering conn becomes rows) (row_still conn becomes row (omega (arith, none, a)))
    ∙ ap (λ rs. row ∷ rs) (rows_still conn becomes rows (omega (arith, none, a)))

becomes_own : (becomes : List ℕ → List ℕ) (line : Line) → line_buffering line.conn becomes line ≡ buffered_by becomes line
becomes_own becomes line = cond-true (is_number line.conn line) (buffered_by becomes line) line (own line)

-- a line that stands there counts
pub counts_in : (seat : Seat) (lines : List Line) (line : Line) → line_in seat lines ≡ Some line → 1 ≤ times line.conn lines
counts_in seat [] line there = cc there
counts_in Older (l ∷ lines) line there =
    let n = times_cons line.conn l lines in
    let o = ap one_if (ap (is_number line.conn) (one_there l line there) ∙ own line) in
    omega (arith, n, o)
counts_in Newer (l ∷ []) line there = cc there
counts_in Newer (l ∷ next ∷ lines) line there =
    let m = times_cons line.conn l (next ∷ lines) in
    let n = times_cons line.conn next lines in
    let o = ap one_if (ap (is_number line.conn) (one_there next line there) ∙ own line) in
    omega (arith, m, n, o)

pub counts : (i : ℕ) (seat : Seat) (rows : List PeerLines) (line : Line) → option_and_then (line_of_row seat) (slice_get rows i) ≡ Some line
    → 1 ≤ times line.conn (all_lines rows)
counts i seat [] line there = cc there
counts zero seat (row ∷ rows) line there =
    let a = times_append line.conn row.lines (all_lines rows) in
    let c = counts_in seat row.lines line there in
    omega (arith, a, c)
counts (suc i) seat (row ∷ rows) line there =
    let a = times_append line.conn row.lines (all_lines rows) in
    let c = counts i seat rows line there in
    omega (arith, a, c)

placed_in : (seat : Seat) (becomes : List ℕ → List ℕ) (lines : List Line) (line : Line) → line_in seat lines ≡ Some line → times line.conn lines ≤ 1
    → with_line seat (buffered_by becomes) lines ≡ map (line_buffering line.conn becomes) lines
placed_in seat becomes [] line there most = refl
placed_in Older becomes (l ∷ lines) line there most =
    let same = one_there l line there in
    let n = times_cons line.conn l lines in
    let o = ap one_if (ap (is_number line.conn) same ∙ own line) in
    ap (λ x. x ∷ lines) (ap (buffered_by becomes) same ∙ sym (becomes_own becomes line) ∙ ap (line_buffering line.conn becomes) (sym same))
    ∙ ap (λ xs. line_buffering line.conn becomes l ∷ xs) (sym (all_still line.conn becomes lines (omega (arith, most, n, o))))
placed_in Newer becomes (l ∷ []) line there most = cc there
placed_in Newer becomes (l ∷ next ∷ lines) line there most =
    let same = one_there next line there in
    let m = times_cons line.conn l (next ∷ lines) in
    let n = times_cons line.conn next lines in
    let o = ap one_if (ap (is_number line.conn) same ∙ own line) in
    let before = not_here line.conn l (next ∷ lines) 0 (omega (arith, most)) (omega (arith, n, o)) in
    ap (λ x. x ∷ buffered_by becomes next ∷ lines) (sym (still line.conn becomes l before))
    ∙ ap (λ x. line_buffering line.conn becomes l ∷ x ∷ lines) (ap (buffered_by becomes) same ∙ sym (becomes_own becomes line) ∙ ap (line_buffering line.conn becomes) (sym same))
    ∙ ap (λ xs. line_buffering line.conn becomes l ∷ line_buffering line.conn becomes next ∷ xs) (sym (all_still line.conn becomes lines (omega (arith, most, m, n, o))))

placed_all : (i : ℕ) (seat : Seat) (becomes : List ℕ → List ℕ) (rows : List PeerLines) (line : Line) → option_and_then (line_of_row seat) (slice_get rows i) ≡ Some line
    → times line.conn (all_lines rows) ≤ 1 → with_place i (row_with seat becomes) rows ≡ buffering line.conn becomes rows
placed_all i seat becomes [] line there most = refl
placed_all zero seat becomes (row ∷ rows) line there most =
    let a = times_append line.conn row.lines (all_lines rows) in
    let c = counts_in seat row.lines line there in
    ap (λ ls. of_lines row.peer ls ∷ rows) (placed_in seat becomes row.lines line there (omega (arith, a, most)))
    ∙ ap (λ rs. row_buffering line.conn becomes row ∷ rs) (sym (rows_still line.conn becomes rows (omega (arith, a, c, most))))
placed_all (suc i) seat becomes (row ∷ rows) line there most =
    let a = times_append line.conn row.lines (all_lines rows) in
    let c = counts i seat rows line there in
    ap (λ r. r ∷ with_place i (row_with seat becomes) rows) (sym (row_still line.conn becomes row (omega (arith, a, c, most))))
    ∙ ap (λ rs. row_buffering line.conn becomes row ∷ rs) (placed_all i seat becomes rows line there (omega (arith, a, most)))

there_in : (seat : Seat) (becomes : List ℕ → List ℕ) (lines : List Line) (line : Line) → line_in seat lines ≡ Some line
    → line_in seat (with_line seat (buffered_by becomes) lines) ≡ Some (buffered_by becomes line)
there_in seat becomes [] line there = cc there
there_in Older becomes (l ∷ lines) line there = ap (λ x. Some (buffered_by becomes x)) (one_there l line there)
there_in Newer becomes (l ∷ []) line there = cc there
there_in Newer becomes (l ∷ next ∷ lines) line there = ap (λ x. Some (buffered_by becomes x)) (one_there next line there)

there_then : (i : ℕ) (seat : Seat) (becomes : List ℕ → List ℕ) (rows : List PeerLines) (line : Line) → option_and_then (line_of_row seat) (slice_get rows i) ≡ Some line
    → option_and_then (line_of_row seat) (slice_get (with_place i (row_with seat becomes) rows) i) ≡ Some (buffered_by becomes line)
there_then i seat becomes [] line there = cc there
there_then zero seat becomes (row ∷ rows) line there = there_in seat becomes row.lines line there
there_then (suc i) seat becomes (row ∷ rows) line there = there_then i seat becomes rows line there

-- ---- by its number

found_in : (seat : Seat) (lines : List Line) (line : Line) → line_in seat lines ≡ Some line → times line.conn lines ≤ 1 → find (is_number line.conn) lines ≡ Some line
found_in seat [] line there most = cc there
found_in Older (l ∷ lines) line there most =
    let same = one_there l line there in
    cond-true (is_number line.conn l) (Some l) (find (is_number line.conn) lines) (ap (is_number line.conn) same ∙ own line) ∙ ap Some same
found_in Newer (l ∷ []) line there most = cc there
found_in Newer (l ∷ next ∷ lines) line there most =
    let same = one_there next line there in
    let is = ap (is_number line.conn) same ∙ own line in
    let n = times_cons line.conn next lines in
    let o = ap one_if is in
    let before = not_here line.conn l (next ∷ lines) 0 (omega (arith, most)) (omega (arith, n, o)) in
    cond-false (is_number line.conn l) (Some l) (find (is_number line.conn) (next ∷ lines)) before
    ∙ cond-true (is_number line.conn next) (Some next) (find (is_number line.conn) lines) is
    ∙ ap Some same

found_front : (conn : ℕ) (front back : List Line) (line : Line) → find (is_number conn) front ≡ Some line → find (is_number conn) (front ++ back) ≡ Some line
found_front conn [] back line found = cc found
found_front conn (l ∷ front) back line found = by_test (is_number conn l) found (found_front conn front back line)
  where
    by_test : (b : Bool) → cond b (Some l) (find (is_number conn) front) ≡ Some line
        → (find (is_number conn) front ≡ Some line → find (is_number conn) (front ++ back) ≡ Some line) → cond b (Some l) (find (is_number conn) (front ++ back)) ≡ Some line
    by_test true found rest = found
    by_test false found rest = rest found

found_behind : (conn : ℕ) (front back : List Line) → times conn front ≡ 0 → find (is_number conn) (front ++ back) ≡ find (is_number conn) back
found_behind conn [] back none = refl
found_behind conn (l ∷ front) back none = by_test (is_number conn l) (times_cons conn l front) (found_behind conn front back)
  where
    by_test : (b : Bool) → times conn (l ∷ front) ≡ one_if b + times conn front → (times conn front ≡ 0 → find (is_number conn) (front ++ back) ≡ find (is_number conn) back)
        → cond b (Some l) (find (is_number conn) (front ++ back)) ≡ find (is_number conn) back
    by_test true n rest = absurd (omega (arith, n, none))
    by_test false n rest = rest (omega (arith, n, none))

found_at : (i : ℕ) (seat : Seat) (rows : List PeerLines) (line : Line) → option_and_then (line_of_row seat) (slice_get rows i) ≡ Some line
    → times line.conn (all_lines rows) ≤ 1 → find (is_number line.conn) (all_lines rows) ≡ Some line
found_at i seat [] line there most = cc there
found_at zero seat (row ∷ rows) line there most =
    let a = times_append line.conn row.lines (all_lines rows) in
    found_front line.conn row.lines (all_lines rows) line (found_in seat row.lines line there (omega (arith, a, most)))
found_at (suc i) seat (row ∷ rows) line there most =
    let a = times_append line.conn row.lines (all_lines rows) in
    let c = counts i seat rows line there in
    found_behind line.conn row.lines (all_lines rows) (omega (arith, a, c, most)) ∙ found_at i seat rows line there (omega (arith, a, most))

-- ---- its peer

some_counted : (conn : ℕ) (lines : List Line) → 1 ≤ times conn lines → list_any (is_number conn) lines ≡ true
some_counted conn [] least = absurd (omega (arith, least))
some_counted conn (line ∷ lines) least = by_test (is_number conn line) (times_cons conn line lines) (some_counted conn lines)
  where
    by_test : (b : Bool) → times conn (line ∷ lines) ≡ one_if b + times conn lines → (1 ≤ times conn lines → list_any (is_number conn) lines ≡ true)
        → b || list_any (is_number conn) lines ≡ true
    by_test true n rest = refl
    by_test false n rest = rest (omega (arith, n, least))

none_counted : (conn : ℕ) (lines : List Line) → times conn lines ≡ 0 → list_any (is_number conn) lines ≡ false
none_counted conn [] none = refl
none_counted conn (line ∷ lines) none = by_test (is_number conn line) (times_cons conn line lines) (none_counted conn lines)
  where
    by_test : (b : Bool) → times conn (line ∷ lines) ≡ one_if b + times conn lines → (times conn lines ≡ 0 → list_any (is_number conn) lines ≡ false)
        → b || list_any (is_number conn) lines ≡ false
    by_test true n rest = absurd (omega (arith, n, none))
    by_test false n rest = rest (omega (arith, n, none))

-- the row at its place is the one that has its number
row_at : (i : ℕ) (seat : Seat) (rows : List PeerLines) (line : Line) → option_and_then (line_of_row seat) (slice_get rows i) ≡ Some line
    → times line.conn (all_lines rows) ≤ 1 → find (has_number line.conn) rows ≡ slice_get rows i
row_at i seat [] line there most = cc there
row_at zero seat (row ∷ rows) line there most =
    cond-true (has_number line.conn row) (Some row) (find (has_number line.conn) rows) (some_counted line.conn row.lines (counts_in seat row.lines line there))
row_at (suc i) seat (row ∷ rows) line there most =
    let a = times_append line.conn row.lines (all_lines rows) in
    let c = counts i seat rows line there in
    cond-false (has_number line.conn row) (Some row) (find (has_number line.conn) rows) (none_counted line.conn row.lines (omega (arith, a, c, most)))
    ∙ row_at i seat rows line there (omega (arith, a, most))

peer_by : (place : LinePlace) (rows : List PeerLines) (o : Option Line) (conn peer : ℕ) → AreApart rows → line_at place rows ≡ o → option_map conn_of o ≡ Some conn
    → option_map peer_in (slice_get rows place.row) ≡ Some peer → peer_of conn rows ≡ Some peer
peer_by place rows None conn peer apart there is found = cc is
peer_by place rows (Some line) conn peer apart there is found =
    let own = number_there line.conn conn is in
    ap (λ c. peer_of c rows) (sym own) ∙ ap (option_map peer_in) (row_at place.row place.seat rows line there (apart line.conn)) ∙ found

pub peer_there : (place : LinePlace) (rows : List PeerLines) (conn peer : ℕ) → AreApart rows → conn_at place rows ≡ Some conn
    → option_map peer_in (slice_get rows place.row) ≡ Some peer → peer_of conn rows ≡ Some peer
peer_there place rows conn peer apart is found = peer_by place rows (line_at place rows) conn peer apart refl is found

is_at_by : (conn : ℕ) (place : LinePlace) (rows : List PeerLines) (o : Option Line) → AreApart rows → line_at place rows ≡ o → option_map conn_of o ≡ Some conn
    → IsAt conn place rows
is_at_by conn place rows None apart there is = cc is
is_at_by conn place rows (Some line) apart there is =
    let own = number_there line.conn conn is in
    record {
      line = line;
      own = own;
      there = there;
      found = ap (λ c. find (is_number c) (all_lines rows)) (sym own) ∙ found_at place.row place.seat rows line there (apart line.conn);
    }

pub is_at : (conn : ℕ) (place : LinePlace) (rows : List PeerLines) → AreApart rows → conn_at place rows ≡ Some conn → IsAt conn place rows
is_at conn place rows apart is = is_at_by conn place rows (line_at place rows) apart refl is

pub buffers_placed : (place : LinePlace) (becomes : List ℕ → List ℕ) (rows old new : List PeerLines) → rows ≡ old → new ≡ with_place place.row (row_with place.seat becomes) rows → AreApart rows
    → (line : Line) → line_at place old ≡ Some line → NowBuffers place becomes old new line
buffers_placed place becomes rows old new same is apart line there =
    let here = ap (line_at place) same ∙ there in
    let then = ap (line_at place) is ∙ there_then place.row place.seat becomes rows line here in
    let still = subst AreApart (sym is) (apart_placed place.row place.seat becomes rows apart) in
    record {
      there = then;
      found = found_at place.row place.seat new (buffered_by becomes line) then (still line.conn);
      all = is ∙ placed_all place.row place.seat becomes rows line here (apart line.conn) ∙ ap (buffering line.conn becomes) same;
    }
