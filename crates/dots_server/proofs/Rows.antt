-- The rows of connections, where of one other bytes are held.
use Rattle.std.proofs.Common.{◌≡◌, ℕ, ◌+◌, ◌<◌, ◌≤◌, Bool, true, false, cond, List, [], ◌∷◌, ◌++◌, length, map, drop, Option, Some, None, refl, sym, ap, ◌∙◌, subst, arith, append_assoc, length-append, length-drop}
use Rattle.std.specs.Prelude.{count_by, IfSome}
use Rattle.std.specs.List.{find}
use Rattle.std.proofs.lemmas.Bool.{cond-true, cond-false}
use Rattle.std.proofs.lemmas.List.Sums.{sum_by-cons, sum_by-append}
use Rattle.stream_table.specs.declared.place.LinePlace.{LinePlace}
use Rattle.stream_table.specs.Lines.{Line, PeerLines, is_number, all_lines, line_of, forgotten, line_buffering, buffering}
use Rattle.stream_table.specs.Places.{AreApart, IsAt, NowBuffers, buffered_by, with_more}
use Rattle.stream_table.proofs.Apart.{none_of}
use Rattle.stream_table.proofs.Buffering.{line_buffers}
use Rattle.rest_answers.specs.Turns.{with_piece}
use Rattle.dots_server.specs.Pieces.{bytes_in, bytes_on}

abbrev times : ℕ → List Line → ℕ
times conn lines = count_by (is_number conn) lines

abbrev one_if : Bool → ℕ
one_if b = cond b 1 0

times_cons : (conn : ℕ) (line : Line) (lines : List Line) → times conn (line ∷ lines) ≡ one_if (is_number conn line) + times conn lines
times_cons conn line lines = sum_by-cons (λ l. cond (is_number conn l) 1 0) line lines

times_append : (conn : ℕ) (front back : List Line) → times conn (front ++ back) ≡ times conn front + times conn back
times_append conn front back = sum_by-append (λ l. cond (is_number conn l) 1 0) front back

-- ---- no number comes to stand twice

number_same : (conn other : ℕ) (becomes : List ℕ → List ℕ) (line : Line) → is_number other (line_buffering conn becomes line) ≡ is_number other line
number_same conn other becomes line = by_test (is_number conn line)
  where
    by_test : (b : Bool) → is_number other (cond b (buffered_by becomes line) line) ≡ is_number other line
    by_test true = refl
    by_test false = refl

times_same : (conn other : ℕ) (becomes : List ℕ → List ℕ) (lines : List Line) → times other (map (line_buffering conn becomes) lines) ≡ times other lines
times_same conn other becomes [] = refl
times_same conn other becomes (line ∷ lines) =
    let a = times_cons other (line_buffering conn becomes line) (map (line_buffering conn becomes) lines) in
    let b = times_cons other line lines in
    let n = ap one_if (number_same conn other becomes line) in
    let rest = times_same conn other becomes lines in
    omega (arith, a, b, n, rest)

times_buffering : (conn other : ℕ) (becomes : List ℕ → List ℕ) (rows : List PeerLines) → times other (all_lines (buffering conn becomes rows)) ≡ times other (all_lines rows)
times_buffering conn other becomes [] = refl
times_buffering conn other becomes (row ∷ rows) =
    let a = times_append other (map (line_buffering conn becomes) row.lines) (all_lines (buffering conn becomes rows)) in
    let b = times_append other row.lines (all_lines rows) in
    let here = times_same conn other becomes row.lines in
    let rest = times_buffering conn other becomes rows in
    omega (arith, a, b, here, rest)

pub apart_buffering : (conn : ℕ) (becomes : List ℕ → List ℕ) (rows : List PeerLines) → AreApart rows → AreApart (buffering conn becomes rows)
apart_buffering conn becomes rows apart other = let a = apart other in let n = times_buffering conn other becomes rows in omega (arith, a, n)

-- ---- a number that stands nowhere

abbrev of_lines : ℕ → List Line → PeerLines
of_lines peer lines = record { peer = peer; lines = lines }

nowhere_in : (conn : ℕ) (becomes : List ℕ → List ℕ) (lines : List Line) → find (is_number conn) lines ≡ None → map (line_buffering conn becomes) lines ≡ lines
nowhere_in conn becomes [] none = refl
nowhere_in conn becomes (line ∷ lines) none = by_test (is_number conn line) none (nowhere_in conn becomes lines)
  where
    by_test : (b : Bool) → cond b (Some line) (find (is_number conn) lines) ≡ None → (find (is_number conn) lines ≡ None → map (line_buffering conn becomes) lines ≡ lines)
        → cond b (buffered_by becomes line) line ∷ map (line_buffering conn becomes) lines ≡ line ∷ lines
    by_test true none rest = absurd (cc none)
    by_test false none rest = ap (λ (ls : List Line). line ∷ ls) (rest none)

none_both : (conn : ℕ) (front back : List Line) → find (is_number conn) (front ++ back) ≡ None → (find (is_number conn) front ≡ None) × (find (is_number conn) back ≡ None)
none_both conn [] back none = (refl, none)
none_both conn (line ∷ front) back none = by_test (is_number conn line) none (none_both conn front back)
  where
    by_test : (b : Bool) → cond b (Some line) (find (is_number conn) (front ++ back)) ≡ None
        → (find (is_number conn) (front ++ back) ≡ None → (find (is_number conn) front ≡ None) × (find (is_number conn) back ≡ None))
        → (cond b (Some line) (find (is_number conn) front) ≡ None) × (find (is_number conn) back ≡ None)
    by_test true none rest = absurd (cc none)
    by_test false none rest = rest none

-- what would be held of it isn't
pub buffering_nowhere : (conn : ℕ) (becomes : List ℕ → List ℕ) (rows : List PeerLines) → line_of conn rows ≡ None → buffering conn becomes rows ≡ rows
buffering_nowhere conn becomes [] none = refl
buffering_nowhere conn becomes (row ∷ rows) none =
    let parts = none_both conn row.lines (all_lines rows) none in
    ap (λ (ls : List Line). of_lines row.peer ls ∷ buffering conn becomes rows) (nowhere_in conn becomes row.lines parts.0)
    ∙ ap (λ (rs : List PeerLines). row ∷ rs) (buffering_nowhere conn becomes rows parts.1)

none_times : (conn : ℕ) (lines : List Line) → times conn lines ≡ 0 → find (is_number conn) lines ≡ None
none_times conn [] none = refl
none_times conn (line ∷ lines) none = by_test (is_number conn line) (times_cons conn line lines) (none_times conn lines)
  where
    by_test : (b : Bool) → times conn (line ∷ lines) ≡ one_if b + times conn lines → (times conn lines ≡ 0 → find (is_number conn) lines ≡ None)
        → cond b (Some line) (find (is_number conn) lines) ≡ None
    by_test true n rest = absurd (omega (arith, n, none))
    by_test false n rest = rest (omega (arith, n, none))

-- one that is forgotten stands nowhere
pub forgotten_nowhere : (conn : ℕ) (rows : List PeerLines) → line_of conn (forgotten conn rows) ≡ None
forgotten_nowhere conn rows = none_times conn (all_lines (forgotten conn rows)) (none_of conn rows)

-- ---- bytes that come in two parts

joined_line : (conn : ℕ) (first second : List ℕ) (line : Line)
    → line_buffering conn (with_more second) (line_buffering conn (with_more first) line) ≡ line_buffering conn (with_more (first ++ second)) line
joined_line conn first second line = by_test (is_number conn line) refl
  where
    by_test : (b : Bool) → is_number conn line ≡ b
        → line_buffering conn (with_more second) (cond b (buffered_by (with_more first) line) line) ≡ cond b (buffered_by (with_more (first ++ second)) line) line
    by_test true is =
        cond-true (is_number conn line) (buffered_by (with_more second) (buffered_by (with_more first) line)) (buffered_by (with_more first) line) is
        ∙ ap (λ (held : List ℕ). buffered_by (λ was. held) line) (append_assoc line.buffered first second)
    by_test false is = cond-false (is_number conn line) (buffered_by (with_more second) line) line is

joined_lines : (conn : ℕ) (first second : List ℕ) (lines : List Line)
    → map (line_buffering conn (with_more second)) (map (line_buffering conn (with_more first)) lines) ≡ map (line_buffering conn (with_more (first ++ second))) lines
joined_lines conn first second [] = refl
joined_lines conn first second (line ∷ lines) =
    ap (λ (l : Line). l ∷ map (line_buffering conn (with_more second)) (map (line_buffering conn (with_more first)) lines)) (joined_line conn first second line)
    ∙ ap (λ (ls : List Line). line_buffering conn (with_more (first ++ second)) line ∷ ls) (joined_lines conn first second lines)

pub pieces_joined : (conn : ℕ) (first second : List ℕ) (rows : List PeerLines) → with_piece conn second (with_piece conn first rows) ≡ with_piece conn (first ++ second) rows
pieces_joined conn first second [] = refl
pieces_joined conn first second (row ∷ rows) =
    ap (λ (ls : List Line). of_lines row.peer ls ∷ with_piece conn second (with_piece conn first rows)) (joined_lines conn first second row.lines)
    ∙ ap (λ (rs : List PeerLines). of_lines row.peer (map (line_buffering conn (with_more (first ++ second))) row.lines) ∷ rs) (pieces_joined conn first second rows)

-- ---- at a place

module _ (conn : ℕ) (place : LinePlace) (becomes : List ℕ → List ℕ) (old new : List PeerLines) (at : IsAt conn place old) (holds : NowBuffers place becomes old new at.line) where
  held_there : line_of conn new ≡ Some (buffered_by becomes at.line)
  held_there = ap (λ (c : ℕ). line_of c new) (sym at.own) ∙ holds.found

  pub still_at : IsAt conn place new
  still_at = record { line = buffered_by becomes at.line; own = at.own; there = holds.there; found = held_there }

  pub held_all : new ≡ buffering conn becomes old
  held_all = holds.all ∙ ap (λ (c : ℕ). buffering c becomes old) at.own

-- ---- how many bytes are held

pub bytes_at : (conn : ℕ) (place : LinePlace) (rows : List PeerLines) → (at : IsAt conn place rows) → bytes_on conn rows ≡ length at.line.buffered + 1
bytes_at conn place rows at = ap bytes_in at.found

pub bytes_more : (conn : ℕ) (place : LinePlace) (more : List ℕ) (old new : List PeerLines) (at : IsAt conn place old) → NowBuffers place (with_more more) old new at.line
    → bytes_on conn new ≡ bytes_on conn old + length more
bytes_more conn place more old new at holds =
    let now : bytes_on conn new ≡ length (at.line.buffered ++ more) + 1 = ap bytes_in (held_there conn place (with_more more) old new at holds) in
    let was = bytes_at conn place old at in
    let sum = length-append at.line.buffered more in
    omega (arith, now, was, sum)

pub bytes_gone : (conn : ℕ) (place : LinePlace) (rows : List PeerLines) → IsAt conn place rows → bytes_on conn (forgotten conn rows) < bytes_on conn rows
bytes_gone conn place rows at =
    let now = ap bytes_in (forgotten_nowhere conn rows) in
    let was = bytes_at conn place rows at in
    omega (arith, now, was)

pub bytes_fewer : (conn : ℕ) (place : LinePlace) (size : ℕ) (rows : List PeerLines) → (at : IsAt conn place rows) → 0 < size → size ≤ length at.line.buffered
    → bytes_on conn (buffering conn (drop size) rows) < bytes_on conn rows
bytes_fewer conn place size rows at some within =
    let now = ap bytes_in (line_buffers conn (drop size) rows at.line at.found) in
    let was = bytes_at conn place rows at in
    let less = length-drop size at.line.buffered in
    omega (arith, now, was, less, some, within)

-- behind a request that is answered
abbrev pub lines_behind_request : ℕ → ℕ → Bool → List PeerLines → List PeerLines
lines_behind_request conn size close rows = cond close (forgotten conn rows) (buffering conn (drop size) rows)

pub bytes_behind : (conn : ℕ) (place : LinePlace) (size : ℕ) (close : Bool) (rows : List PeerLines) → (at : IsAt conn place rows) → 0 < size → size ≤ length at.line.buffered
    → bytes_on conn (lines_behind_request conn size close rows) < bytes_on conn rows
bytes_behind conn place size true rows at some within = bytes_gone conn place rows at
bytes_behind conn place size false rows at some within = bytes_fewer conn place size rows at some within

-- so many bytes of a piece were held, and a turn went
pub fewer_left : (taken : Option ℕ) (n conn size : ℕ) (old new : List PeerLines) → taken ≡ Some n
    → IfSome taken (λ n. (n ≤ size) × (bytes_on conn new + size < bytes_on conn old + size + n)) → (n ≤ size) × (bytes_on conn new + size < bytes_on conn old + size + n)
fewer_left taken n conn size old new is was = subst (λ (o : Option ℕ). IfSome o (λ n. (n ≤ size) × (bytes_on conn new + size < bytes_on conn old + size + n))) is was
