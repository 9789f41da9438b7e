-- Bytes that come behind those that are buffered.
use Rattle.std.proofs.Common.{◌≡◌, ℕ, ◌+◌, ◌≤◌, Bool, true, false, cond, List, [], ◌∷◌, ◌++◌, length, map, drop, Some, refl, sym, ap, ◌∙◌, subst, arith}
use Rattle.std.specs.Prelude.{◌||◌, not, count_by, option_map, ⊤}
use Rattle.std.specs.List.{find, list_any}
use Rattle.std.proofs.lemmas.Bool.{cond-true, cond-false, false≢true}
use Rattle.std.proofs.lemmas.List.{drop-append-le}
use Rattle.std.proofs.lemmas.List.Sums.{sum_by-cons}
use Rattle.stream_table.specs.Lines.{Line, PeerLines, is_number, all_lines, line_of, has_number, peer_in, peer_of, others, forgotten, line_buffering, row_buffering, buffering}
use Rattle.stream_table.specs.Places.{AreApart, buffered_by, with_more}
use Rattle.stream_table.proofs.Placing.{one_there}

-- ---- a line with other bytes has its number

by_number : (conn : ℕ) (becomes : List ℕ → List ℕ) (line : Line) → is_number conn (line_buffering conn becomes line) ≡ is_number conn line
by_number conn becomes line = by_test (is_number conn line)
  where
    by_test : (b : Bool) → is_number conn (cond b (buffered_by becomes line) line) ≡ is_number conn line
    by_test true = refl
    by_test false = refl

any_number : (conn : ℕ) (becomes : List ℕ → List ℕ) (lines : List Line) → list_any (is_number conn) (map (line_buffering conn becomes) lines) ≡ list_any (is_number conn) lines
any_number conn becomes [] = refl
any_number conn becomes (line ∷ lines) =
    ap (λ (b : Bool). b || list_any (is_number conn) (map (line_buffering conn becomes) lines)) (by_number conn becomes line)
    ∙ ap (λ (b : Bool). is_number conn line || b) (any_number conn becomes lines)

-- ---- it is found

found_buffering : (conn : ℕ) (becomes : List ℕ → List ℕ) (lines : List Line)
    → find (is_number conn) (map (line_buffering conn becomes) lines) ≡ option_map (buffered_by becomes) (find (is_number conn) lines)
found_buffering conn becomes [] = refl
found_buffering conn becomes (line ∷ lines) = by_test (is_number conn line) refl (found_buffering conn becomes lines)
  where
    by_test : (b : Bool) → is_number conn line ≡ b → find (is_number conn) (map (line_buffering conn becomes) lines) ≡ option_map (buffered_by becomes) (find (is_number conn) lines)
        → find (is_number conn) (cond b (buffered_by becomes line) line ∷ map (line_buffering conn becomes) lines) ≡ option_map (buffered_by becomes) (cond b (Some line) (find (is_number conn) lines))
    by_test true is rest = cond-true (is_number conn line) (Some (buffered_by becomes line)) (find (is_number conn) (map (line_buffering conn becomes) lines)) is
    by_test false is rest = cond-false (is_number conn line) (Some line) (find (is_number conn) (map (line_buffering conn becomes) lines)) is ∙ rest

map_two : {A B : Type 0} (f : A → B) (xs ys : List A) → map f (xs ++ ys) ≡ map f xs ++ map f ys
map_two f [] ys = refl
map_two f (x ∷ xs) ys = ap (λ zs. f x ∷ zs) (map_two f xs ys)

all_buffering : (conn : ℕ) (becomes : List ℕ → List ℕ) (rows : List PeerLines) → all_lines (buffering conn becomes rows) ≡ map (line_buffering conn becomes) (all_lines rows)
all_buffering conn becomes [] = refl
all_buffering conn becomes (row ∷ rows) =
    ap (λ (ls : List Line). map (line_buffering conn becomes) row.lines ++ ls) (all_buffering conn becomes rows)
    ∙ sym (map_two (line_buffering conn becomes) row.lines (all_lines rows))

pub line_buffers : (conn : ℕ) (becomes : List ℕ → List ℕ) (rows : List PeerLines) (line : Line) → line_of conn rows ≡ Some line → line_of conn (buffering conn becomes rows) ≡ Some (buffered_by becomes line)
line_buffers conn becomes rows line there =
    ap (find (is_number conn)) (all_buffering conn becomes rows) ∙ found_buffering conn becomes (all_lines rows) ∙ ap (option_map (buffered_by becomes)) there

pub same_peer : (conn : ℕ) (becomes : List ℕ → List ℕ) (rows : List PeerLines) → peer_of conn (buffering conn becomes rows) ≡ peer_of conn rows
same_peer conn becomes [] = refl
same_peer conn becomes (row ∷ rows) =
    by_test (has_number conn row) (has_number conn (row_buffering conn becomes row)) (any_number conn becomes row.lines) (same_peer conn becomes rows)
  where
    by_test : (b c : Bool) → c ≡ b → peer_of conn (buffering conn becomes rows) ≡ peer_of conn rows
        → option_map peer_in (cond c (Some (row_buffering conn becomes row)) (find (has_number conn) (buffering conn becomes rows))) ≡ option_map peer_in (cond b (Some row) (find (has_number conn) rows))
    by_test true true is rest = refl
    by_test false false is rest = rest
    by_test true false is rest = absurd (false≢true is)
    by_test false true is rest = absurd (false≢true (sym is))

-- ---- it is forgotten with all that is buffered of it

others_buffering : (conn : ℕ) (becomes : List ℕ → List ℕ) (lines : List Line) → others conn (map (line_buffering conn becomes) lines) ≡ others conn lines
others_buffering conn becomes [] = refl
others_buffering conn becomes (line ∷ lines) = by_test (is_number conn line) refl (others_buffering conn becomes lines)
  where
    by_test : (b : Bool) → is_number conn line ≡ b → others conn (map (line_buffering conn becomes) lines) ≡ others conn lines
        → others conn (cond b (buffered_by becomes line) line ∷ map (line_buffering conn becomes) lines) ≡ cond (not b) (line ∷ others conn lines) (others conn lines)
    by_test true is rest = cond-false (not (is_number conn line)) (buffered_by becomes line ∷ others conn (map (line_buffering conn becomes) lines)) (others conn (map (line_buffering conn becomes) lines)) (ap not is) ∙ rest
    by_test false is rest =
        cond-true (not (is_number conn line)) (line ∷ others conn (map (line_buffering conn becomes) lines)) (others conn (map (line_buffering conn becomes) lines)) (ap not is)
        ∙ ap (λ (ls : List Line). line ∷ ls) rest

buffering_others : (conn : ℕ) (becomes : List ℕ → List ℕ) (lines : List Line) → map (line_buffering conn becomes) (others conn lines) ≡ others conn lines
buffering_others conn becomes [] = refl
buffering_others conn becomes (line ∷ lines) = by_test (is_number conn line) refl (buffering_others conn becomes lines)
  where
    by_test : (b : Bool) → is_number conn line ≡ b → map (line_buffering conn becomes) (others conn lines) ≡ others conn lines
        → map (line_buffering conn becomes) (cond (not b) (line ∷ others conn lines) (others conn lines)) ≡ cond (not b) (line ∷ others conn lines) (others conn lines)
    by_test true is rest = rest
    by_test false is rest =
        ap (λ (l : Line). l ∷ map (line_buffering conn becomes) (others conn lines)) (cond-false (is_number conn line) (buffered_by becomes line) line is)
        ∙ ap (λ (ls : List Line). line ∷ ls) rest

abbrev of_lines : ℕ → List Line → PeerLines
of_lines peer lines = record { peer = peer; lines = lines }

pub forgotten_buffering : (conn : ℕ) (becomes : List ℕ → List ℕ) (rows : List PeerLines) → forgotten conn (buffering conn becomes rows) ≡ forgotten conn rows
forgotten_buffering conn becomes [] = refl
forgotten_buffering conn becomes (row ∷ rows) =
    ap (λ (ls : List Line). of_lines row.peer ls ∷ forgotten conn (buffering conn becomes rows)) (others_buffering conn becomes row.lines)
    ∙ ap (λ (rs : List PeerLines). of_lines row.peer (others conn row.lines) ∷ rs) (forgotten_buffering conn becomes rows)

pub buffering_forgotten : (conn : ℕ) (becomes : List ℕ → List ℕ) (rows : List PeerLines) → buffering conn becomes (forgotten conn rows) ≡ forgotten conn rows
buffering_forgotten conn becomes [] = refl
buffering_forgotten conn becomes (row ∷ rows) =
    ap (λ (ls : List Line). of_lines row.peer ls ∷ buffering conn becomes (forgotten conn rows)) (buffering_others conn becomes row.lines)
    ∙ ap (λ (rs : List PeerLines). of_lines row.peer (others conn row.lines) ∷ rs) (buffering_forgotten conn becomes rows)

-- ---- bytes go from the front, and others come behind

-- at least so many are buffered of each connection of this number
abbrev HasBytes : ℕ → ℕ → List Line → Type 0
HasBytes conn n [] = ⊤
HasBytes conn n (line ∷ lines) = (is_number conn line ≡ true → n ≤ length line.buffered) × HasBytes conn n lines

abbrev times : ℕ → List Line → ℕ
times conn lines = count_by (is_number conn) lines

abbrev one_if : Bool → ℕ
one_if b = cond b 1 0

times_cons : (conn : ℕ) (line : Line) (lines : List Line) → times conn (line ∷ lines) ≡ one_if (is_number conn line) + times conn lines
times_cons conn line lines = sum_by-cons (λ l. cond (is_number conn l) 1 0) line lines

none_has : (conn n : ℕ) (lines : List Line) → times conn lines ≡ 0 → HasBytes conn n lines
none_has conn n [] none = tt
none_has conn n (line ∷ lines) none =
    let sum = times_cons conn line lines in (
      λ is. let one = ap one_if is in absurd (omega (arith, none, sum, one)),
      none_has conn n lines (omega (arith, none, sum)),
    )

found_has : (conn n : ℕ) (lines : List Line) (line : Line) → times conn lines ≤ 1 → find (is_number conn) lines ≡ Some line → n ≤ length line.buffered → HasBytes conn n lines
found_has conn n [] line most found long = tt
found_has conn n (l ∷ lines) line most found long = by_test (is_number conn l) refl found (times_cons conn l lines) (found_has conn n lines line)
  where
    by_test : (b : Bool) → is_number conn l ≡ b → cond b (Some l) (find (is_number conn) lines) ≡ Some line → times conn (l ∷ lines) ≡ one_if b + times conn lines
        → (times conn lines ≤ 1 → find (is_number conn) lines ≡ Some line → n ≤ length line.buffered → HasBytes conn n lines) → HasBytes conn n (l ∷ lines)
    by_test true is found sum rest = (
      λ own. subst (λ (x : Line). n ≤ length x.buffered) (sym (one_there l line found)) long,
      none_has conn n lines (omega (arith, most, sum)),
    )
    by_test false is found sum rest = (λ own. absurd (false≢true (sym is ∙ own)), rest (omega (arith, most, sum)) found long)

has_front : (conn n : ℕ) (front back : List Line) → HasBytes conn n (front ++ back) → HasBytes conn n front × HasBytes conn n back
has_front conn n [] back has = (tt, has)
has_front conn n (line ∷ front) back has = let rest = has_front conn n front back has.1 in ((has.0, rest.0), rest.1)

swapped_line : (conn n : ℕ) (more : List ℕ) (line : Line) → (is_number conn line ≡ true → n ≤ length line.buffered)
    → line_buffering conn (drop n) (line_buffering conn (with_more more) line) ≡ line_buffering conn (with_more more) (line_buffering conn (drop n) line)
swapped_line conn n more line long = by_test (is_number conn line) refl
  where
    by_test : (b : Bool) → is_number conn line ≡ b
        → line_buffering conn (drop n) (cond b (buffered_by (with_more more) line) line) ≡ line_buffering conn (with_more more) (cond b (buffered_by (drop n) line) line)
    by_test true is =
        cond-true (is_number conn line) (buffered_by (drop n) (buffered_by (with_more more) line)) (buffered_by (with_more more) line) is
        ∙ ap (λ (buffered : List ℕ). buffered_by (λ was. buffered) line) (drop-append-le n line.buffered more (long is))
        ∙ sym (cond-true (is_number conn line) (buffered_by (with_more more) (buffered_by (drop n) line)) (buffered_by (drop n) line) is)
    by_test false is =
        cond-false (is_number conn line) (buffered_by (drop n) line) line is
        ∙ sym (cond-false (is_number conn line) (buffered_by (with_more more) line) line is)

swapped_lines : (conn n : ℕ) (more : List ℕ) (lines : List Line) → HasBytes conn n lines
    → map (line_buffering conn (drop n)) (map (line_buffering conn (with_more more)) lines) ≡ map (line_buffering conn (with_more more)) (map (line_buffering conn (drop n)) lines)
swapped_lines conn n more [] has = refl
swapped_lines conn n more (line ∷ lines) has =
    ap (λ (l : Line). l ∷ map (line_buffering conn (drop n)) (map (line_buffering conn (with_more more)) lines)) (swapped_line conn n more line has.0)
    ∙ ap (λ (ls : List Line). line_buffering conn (with_more more) (line_buffering conn (drop n) line) ∷ ls) (swapped_lines conn n more lines has.1)

swapped_rows : (conn n : ℕ) (more : List ℕ) (rows : List PeerLines) → HasBytes conn n (all_lines rows)
    → buffering conn (drop n) (buffering conn (with_more more) rows) ≡ buffering conn (with_more more) (buffering conn (drop n) rows)
swapped_rows conn n more [] has = refl
swapped_rows conn n more (row ∷ rows) has =
    let parts = has_front conn n row.lines (all_lines rows) has in
    ap (λ (ls : List Line). of_lines row.peer ls ∷ buffering conn (drop n) (buffering conn (with_more more) rows)) (swapped_lines conn n more row.lines parts.0)
    ∙ ap (λ (rs : List PeerLines). of_lines row.peer (map (line_buffering conn (with_more more)) (map (line_buffering conn (drop n)) row.lines)) ∷ rs) (swapped_rows conn n more rows parts.1)

pub swapped : (conn n : ℕ) (more : List ℕ) (rows : List PeerLines) (line : Line) → AreApart rows → line_of conn rows ≡ Some line → n ≤ length line.buffered
    → buffering conn (drop n) (buffering conn (with_more more) rows) ≡ buffering conn (with_more more) (buffering conn (drop n) rows)
swapped conn n more rows line apart there long = swapped_rows conn n more rows (found_has conn n (all_lines rows) line (apart conn) there long)
