-- Rows of a mitigation that stand together, taken out at once.
use Rattle.std.proofs.Common.{◌≡◌, ℕ, ◌+◌, ◌-◌, ◌<◌, ◌≤◌, Bool, true, false, not, cond, ◌&&◌, nat_le, nat_lt, List, [], ◌∷◌, ◌++◌, map, length, get_or, take, drop, set, zero, suc, refl, sym, ap, subst, ◌∙◌, arith, one-add, append_assoc, append-nil, length-append, Option, Some, None}
use Rattle.std.specs.List.{remove, filter, prefix_len, list_all, AllByRecursion}
use Rattle.acl_lists.specs.declared.rows.ScrubRow.{ScrubRow}
use Rattle.filter_table.specs.declared.rank.Rank.{Rank}
use Rattle.filter_table.specs.Ranks.{RankingValue, ranked, place_of}
use Rattle.filter_table.specs.Sifting.{is_between, is_outside}
use Rattle.filter_table.proofs.Each.{each_at, each_weaker}
use Rattle.filter_table.proofs.Sifted.{filter_ranked}
use Rattle.filter_table.specs.declared.turn.Turn.{Turn}
use Rattle.filter_table.specs.TableRows.{PlacedScrub, rank_of, is_of, row_is_of, without_mitigation}
use Rattle.filter_table.specs.Laws.{AreInOrder}
use Rattle.filter_table.specs.Rows.{in_slot, gathered, passes, slot_is_of, place_of_turn, mark_of, IsTied}
use Rattle.filter_table.specs.Slots.{HasEachSlot, RanksAre, StandInSlots}
use Rattle.filter_table.specs.Blocks.{emptied, slot_of_turn, stays_outside}
use Rattle.filter_table.proofs.Gathered.{AreTied, scrub_of, one_tied, length-gathered, turn_read, slot_there}
use Rattle.filter_table.proofs.Slots.{others_same, all_stay}
use Rattle.filter_table.proofs.RowsInSlots.{ranking_value, IsChanged, removes_row}

-- ---- turns in order, and those between two places

between_below : (low high place : ℕ) → nat_lt place low ≡ true → is_between low high place ≡ false
between_below low high place is = grind arith

between_above : (low high place : ℕ) → nat_le place high ≡ false → is_between low high place ≡ false
between_above low high place is = grind arith

between_is : (low high place : ℕ) → low ≤ place → nat_le place high ≡ true → is_between low high place ≡ true
between_is low high place more is = grind arith

still_low : (low high place : ℕ) → low ≤ high → nat_lt place low ≡ true → nat_le place high ≡ true
still_low low high place order is = grind arith

not_low : (low place : ℕ) → nat_lt place low ≡ false → low ≤ place
not_low low place is = grind arith

above : (high place later : ℕ) → nat_le place high ≡ false → place ≤ later → nat_le later high ≡ false
above high place later is more = grind arith

abbrev low_len : ℕ → List Turn → ℕ
low_len low ts = prefix_len (λ (t : Turn). nat_lt t.place low) ts

abbrev high_len : ℕ → List Turn → ℕ
high_len high ts = prefix_len (λ (t : Turn). nat_le t.place high) ts

abbrev inside : ℕ → ℕ → Turn → Bool
inside low high t = is_between low high t.place

abbrev outside : ℕ → ℕ → Turn → Bool
outside low high t = not (is_between low high t.place)

none_inside : (low high : ℕ) (ts : List Turn) → AllByRecursion (λ (t : Turn). nat_le t.place high ≡ false) ts → filter (inside low high) ts ≡ []
none_inside low high [] all = refl
none_inside low high (t ∷ ts) all = rw (between_above low high t.place all.0) (none_inside low high ts all.1)

all_outside : (low high : ℕ) (ts : List Turn) → AllByRecursion (λ (t : Turn). nat_le t.place high ≡ false) ts → ts ≡ filter (outside low high) ts
all_outside low high [] all = refl
all_outside low high (t ∷ ts) all = rw (between_above low high t.place all.0) (ap (λ xs. t ∷ xs) (all_outside low high ts all.1))

abbrev Above : ℕ → List Turn → Type 0
Above low ts = AllByRecursion (λ (t : Turn). low ≤ t.place) ts

-- what the two searches find, where all places are from the first number on
pub record HighParts (low high : ℕ) (ts : List Turn) : Type 0 where
  pub run : take (high_len high ts) ts ≡ filter (inside low high) ts
  pub rest : drop (high_len high ts) ts ≡ filter (outside low high) ts

run_here : (a b : Bool) (n : ℕ) (t : Turn) (ts xs : List Turn) → a ≡ true → b ≡ true → take n ts ≡ xs → take (cond a (1 + n) 0) (t ∷ ts) ≡ cond b (t ∷ xs) xs
run_here a b n t ts xs first second same = rw first rw second rw (one-add n) (ap (λ ys. t ∷ ys) same)

rest_here : (a b : Bool) (n : ℕ) (t : Turn) (ts xs : List Turn) → a ≡ true → b ≡ true → drop n ts ≡ xs → drop (cond a (1 + n) 0) (t ∷ ts) ≡ cond (not b) (t ∷ xs) xs
rest_here a b n t ts xs first second same = rw first rw second rw (one-add n) same

high_parts : (low high : ℕ) (ts : List Turn) → AreInOrder place_of_turn ts → Above low ts → HighParts low high ts
high_parts low high [] order from = record { run = refl; rest = refl }
high_parts low high (t ∷ ts) order from =
    elim (nat_le t.place high) as (λ v. nat_le t.place high ≡ v → HighParts low high (t ∷ ts)) [
      | true ↦ λ is.
          let later = high_parts low high ts order.1 from.1 in
          let here : is_between low high t.place ≡ true = between_is low high t.place from.0 is in
          record {
            run = run_here (nat_le t.place high) (is_between low high t.place) (high_len high ts) t ts (filter (inside low high) ts) is here later.run;
            rest = rest_here (nat_le t.place high) (is_between low high t.place) (high_len high ts) t ts (filter (outside low high) ts) is here later.rest;
          }
      | false ↦ λ is.
          let all : AllByRecursion (λ (x : Turn). nat_le x.place high ≡ false) (t ∷ ts) =
          (is, each_weaker (λ (x : Turn). t.place ≤ x.place) (λ (x : Turn). nat_le x.place high ≡ false) (λ x more. above high t.place x.place is more) ts order.0) in
          let none : high_len high (t ∷ ts) ≡ 0 = rw is refl in
          record {
            run = ap (λ (n : ℕ). take n (t ∷ ts)) none ∙ sym (none_inside low high (t ∷ ts) all);
            rest = ap (λ (n : ℕ). drop n (t ∷ ts)) none ∙ all_outside low high (t ∷ ts) all;
          }
    ] refl

pub record Parts (low high : ℕ) (ts : List Turn) : Type 0 where
  pub order : low_len low ts ≤ high_len high ts
  pub run : take (high_len high ts - low_len low ts) (drop (low_len low ts) ts) ≡ filter (inside low high) ts
  pub rest : take (low_len low ts) ts ++ drop (high_len high ts) ts ≡ filter (outside low high) ts

order_later : (a b : Bool) (m n : ℕ) → a ≡ true → b ≡ true → m ≤ n → cond a (1 + m) 0 ≤ cond b (1 + n) 0
order_later a b m n first second less = rw first rw second omega (arith, less)

fewer : (m n : ℕ) → (1 + m) - (1 + n) ≡ m - n
fewer m n = omega arith

run_later : (a b c : Bool) (m n : ℕ) (t : Turn) (ts xs : List Turn) → a ≡ true → b ≡ true → c ≡ false → take (n - m) (drop m ts) ≡ xs
    → take (cond b (1 + n) 0 - cond a (1 + m) 0) (drop (cond a (1 + m) 0) (t ∷ ts)) ≡ cond c (t ∷ xs) xs
run_later a b c m n t ts xs first second third same = rw first rw second rw third rw (fewer n m) rw (one-add m) same

rest_later : (a b c : Bool) (m n : ℕ) (t : Turn) (ts xs : List Turn) → a ≡ true → b ≡ true → c ≡ false → take m ts ++ drop n ts ≡ xs
    → take (cond a (1 + m) 0) (t ∷ ts) ++ drop (cond b (1 + n) 0) (t ∷ ts) ≡ cond (not c) (t ∷ xs) xs
rest_later a b c m n t ts xs first second third same = rw first rw second rw third rw (one-add m) rw (one-add n) (ap (λ ys. t ∷ ys) same)

all_of : (n : ℕ) → n - 0 ≡ n
all_of n = omega arith

pub parts : (low high : ℕ) (ts : List Turn) → low ≤ high → AreInOrder place_of_turn ts → Parts low high ts
parts low high [] numbers order = record { order = omega arith; run = refl; rest = refl }
parts low high (t ∷ ts) numbers order =
    elim (nat_lt t.place low) as (λ v. nat_lt t.place low ≡ v → Parts low high (t ∷ ts)) [
      | true ↦ λ is.
          let later = parts low high ts numbers order.1 in
          let up : nat_le t.place high ≡ true = still_low low high t.place numbers is in
          let here : is_between low high t.place ≡ false = between_below low high t.place is in
          record {
            order = order_later (nat_lt t.place low) (nat_le t.place high) (low_len low ts) (high_len high ts) is up later.order;
            run = run_later (nat_lt t.place low) (nat_le t.place high) (is_between low high t.place) (low_len low ts) (high_len high ts) t ts (filter (inside low high) ts) is up here later.run;
            rest = rest_later (nat_lt t.place low) (nat_le t.place high) (is_between low high t.place) (low_len low ts) (high_len high ts) t ts (filter (outside low high) ts) is up here later.rest;
          }
      | false ↦ λ no.
          let more : low ≤ t.place = not_low low t.place no in
          let high_ones = high_parts low high (t ∷ ts) order (more, each_weaker (λ (x : Turn). t.place ≤ x.place) (λ (x : Turn). low ≤ x.place) (λ x later. omega (arith, more, later)) ts order.0) in
          let none : low_len low (t ∷ ts) ≡ 0 = rw no refl in
          record {
            order = omega (arith, none);
            run = ap (λ (n : ℕ). take (high_len high (t ∷ ts) - n) (drop n (t ∷ ts))) none ∙ ap (λ (n : ℕ). take n (t ∷ ts)) (all_of (high_len high (t ∷ ts))) ∙ high_ones.run;
            rest = ap (λ (n : ℕ). take n (t ∷ ts) ++ drop (high_len high (t ∷ ts)) (t ∷ ts)) none ∙ high_ones.rest;
          }
    ] refl

-- ---- slots emptied one after the other

read_first : (front : List Turn) (t : Turn) (behind : List Turn) → get_or (front ++ t ∷ behind) (length front) t ≡ t
read_first [] t behind = refl
read_first (x ∷ front) t behind = read_first front t behind

removed_first : (front : List Turn) (t : Turn) (behind : List Turn) → remove (front ++ t ∷ behind) (length front) ≡ front ++ behind
removed_first [] t behind = refl
removed_first (x ∷ front) t behind = ap (λ ys. x ∷ ys) (removed_first front t behind)

abbrev pub between : ℕ → ℕ → PlacedScrub → Bool
between low high scrub = is_between low high scrub.place

pub record AreEmptied (low high room : ℕ) (rows : List (Option ScrubRow)) (turns : List Turn) (free : List ℕ) (placed : List PlacedScrub) : Type 0 where
  pub ranking : RankingValue
  pub marks : RankingValue
  pub stand : StandInSlots room rows turns free ranking marks
  pub same : filter (λ x. not (between low high x)) (gathered rows turns) ≡ filter (λ x. not (between low high x)) placed

abbrev left_with : (PlacedScrub → Rank) → RankingValue → PlacedScrub → RankingValue
left_with of ranking scrub = ranking_value ranking.room (remove ranking.ranks (place_of (of scrub) ranking.ranks))

empties : (low high room : ℕ) (rest front : List Turn) (rows : List (Option ScrubRow)) (free : List ℕ) (ranking marks : RankingValue)
    → StandInSlots room rows (front ++ rest) free ranking marks
    → AreEmptied low high room (emptied (filter (inside low high) rest) rows) (front ++ filter (outside low high) rest) (free ++ map slot_of_turn (filter (inside low high) rest)) (gathered rows (front ++ rest))
empties low high room [] front rows free ranking marks stand = record {
  ranking = ranking;
  marks = marks;
  stand = subst (λ (ss : List ℕ). StandInSlots room rows (front ++ []) ss ranking marks) (sym (append-nil free)) stand;
  same = refl;
}
empties low high room (t ∷ rest) front rows free ranking marks stand =
    elim (is_between low high t.place) as (λ v. is_between low high t.place ≡ v
    → AreEmptied low high room (emptied (cond v (t ∷ filter (inside low high) rest) (filter (inside low high) rest)) rows) (front ++ cond (not v) (t ∷ filter (outside low high) rest) (filter (outside low high) rest))
    (free ++ map slot_of_turn (cond v (t ∷ filter (inside low high) rest) (filter (inside low high) rest))) (gathered rows (front ++ t ∷ rest))) [
      | true ↦ λ is.
          let turns : List Turn = front ++ t ∷ rest in
          let within : length front < length (front ++ t ∷ rest) = omega (arith, length-append front (t ∷ rest)) in
          let tie : IsTied rows t = subst (IsTied rows) (read_first front t rest) (each_at (IsTied rows) (front ++ t ∷ rest) (length front) t stand.tied within) in
          let step = removes_row room rows (set rows t.slot None) (front ++ t ∷ rest) (remove (front ++ t ∷ rest) (length front)) free (free ++ t.slot ∷ [])
          ranking (left_with rank_of ranking (scrub_of t tie.row)) marks (left_with mark_of marks (scrub_of t tie.row)) (length front) t tie.row
          stand within (sym (read_first front t rest)) tie.is refl refl refl refl refl in
          let next = empties low high room rest front (set rows t.slot None) (free ++ t.slot ∷ []) (left_with rank_of ranking (scrub_of t tie.row)) (left_with mark_of marks (scrub_of t tie.row))
          (subst (λ ts. StandInSlots room (set rows t.slot None) ts (free ++ t.slot ∷ []) (left_with rank_of ranking (scrub_of t tie.row)) (left_with mark_of marks (scrub_of t tie.row))) (removed_first front t rest) step.stand) in
          let below : length front < length (gathered rows (front ++ t ∷ rest)) = omega (arith, within, length-gathered rows (front ++ t ∷ rest) stand.tied) in
          let read : get_or (gathered rows (front ++ t ∷ rest)) (length front) (scrub_of t tie.row) ≡ scrub_of t tie.row =
          turn_read rows (front ++ t ∷ rest) (length front) t tie.row stand.tied within (sym (read_first front t rest)) tie.is in
          record {
            ranking = next.ranking;
            marks = next.marks;
            stand = subst (λ (ss : List ℕ). StandInSlots room (emptied (filter (inside low high) rest) (set rows t.slot None)) (front ++ filter (outside low high) rest) ss next.ranking next.marks)
                (append_assoc free (t.slot ∷ []) (map slot_of_turn (filter (inside low high) rest))) next.stand;
            same = next.same
                ∙ ap (filter (λ x. not (between low high x))) (ap (gathered (set rows t.slot None)) (sym (removed_first front t rest)) ∙ step.placed_is)
                ∙ others_same (between low high) (gathered rows (front ++ t ∷ rest)) (length front) (scrub_of t tie.row) below (ap (between low high) read ∙ is);
          }
      | false ↦ λ is.
          let moved : front ++ t ∷ rest ≡ (front ++ t ∷ []) ++ rest = sym (append_assoc front (t ∷ []) rest) in
          let next = empties low high room rest (front ++ t ∷ []) rows free ranking marks (subst (λ ts. StandInSlots room rows ts free ranking marks) moved stand) in
          record {
            ranking = next.ranking;
            marks = next.marks;
            stand = subst (λ ts. StandInSlots room (emptied (filter (inside low high) rest) rows) ts (free ++ map slot_of_turn (filter (inside low high) rest)) next.ranking next.marks)
                (append_assoc front (t ∷ []) (filter (outside low high) rest)) next.stand;
            same = ap (λ ts. filter (λ x. not (between low high x)) (gathered (emptied (filter (inside low high) rest) rows) ts)) (sym (append_assoc front (t ∷ []) (filter (outside low high) rest)))
                ∙ next.same ∙ ap (λ ts. filter (λ x. not (between low high x)) (gathered rows ts)) (sym moved);
          }
    ] refl

each_left : (low high : ℕ) (rows : List (Option ScrubRow)) (ts : List Turn) → AreTied rows (filter (outside low high) ts)
    → AllByRecursion (λ (x : PlacedScrub). between low high x ≡ false) (gathered rows (filter (outside low high) ts))
each_left low high rows [] tied = tt
each_left low high rows (t ∷ ts) tied =
    elim (is_between low high t.place) as (λ v. is_between low high t.place ≡ v → AreTied rows (cond (not v) (t ∷ filter (outside low high) ts) (filter (outside low high) ts))
    → AllByRecursion (λ (x : PlacedScrub). between low high x ≡ false) (gathered rows (cond (not v) (t ∷ filter (outside low high) ts) (filter (outside low high) ts)))) [
      | true ↦ λ is tied. each_left low high rows ts tied
      | false ↦ λ is tied.
          subst (AllByRecursion (λ (x : PlacedScrub). between low high x ≡ false)) (sym (one_tied rows t (filter (outside low high) ts) tied.0)) (is, each_left low high rows ts tied.1)
    ] refl tied

filter_map : (of : PlacedScrub → Rank) (p : Rank → Bool) (placed : List PlacedScrub) → filter p (map of placed) ≡ map of (filter (λ x. p (of x)) placed)
filter_map of p [] = refl
filter_map of p (x ∷ placed) =
    elim (p (of x)) as (λ v. cond v (of x ∷ filter p (map of placed)) (filter p (map of placed)) ≡ map of (cond v (x ∷ filter (λ y. p (of y)) placed) (filter (λ y. p (of y)) placed))) [
      | true ↦ ap (λ rs. of x ∷ rs) (filter_map of p placed)
      | false ↦ filter_map of p placed
    ]

ranks_stay : (of : PlacedScrub → Rank) (p : Rank → Bool) (room : ℕ) (ranking after : RankingValue) (placed later : List PlacedScrub) → RanksAre of ranking room placed
    → later ≡ filter (λ x. p (of x)) placed → after ≡ ranking_value ranking.room (filter p ranking.ranks) → RanksAre of after room later
ranks_stay of p room ranking after placed later are rows now = record {
  in_order = ap (λ (r : RankingValue). r.ranks) now ∙ ap (filter p) are.in_order ∙ filter_ranked p (map of placed) ∙ ap ranked (filter_map of p placed) ∙ ap (λ hs. ranked (map of hs)) (sym rows);
  room_is = ap (λ (r : RankingValue). r.room) now ∙ are.room_is;
}

pub goes : (low high room : ℕ) (rows later : List (Option ScrubRow)) (turns fewer run : List Turn) (free given : List ℕ) (ranking after marks fewer_marks : RankingValue)
    → StandInSlots room rows turns free ranking marks → run ≡ filter (λ (t : Turn). is_between low high t.place) turns → later ≡ emptied run rows → given ≡ free ++ map slot_of_turn run
    → fewer ≡ filter (λ (t : Turn). not (is_between low high t.place)) turns
    → after ≡ ranking_value ranking.room (filter (is_outside low high) ranking.ranks) → fewer_marks ≡ ranking_value marks.room (filter (is_outside low high) marks.ranks)
    → IsChanged room later fewer given after fewer_marks (filter (stays_outside low high) (gathered rows turns))
goes low high room rows later turns fewer run free given ranking after marks fewer_marks stand run_is written back cut now marked =
    let rows_are : later ≡ emptied (filter (inside low high) turns) rows = written ∙ ap (λ ts. emptied ts rows) run_is in
    let free_is : given ≡ free ++ map slot_of_turn (filter (inside low high) turns) = back ∙ ap (λ ts. free ++ map slot_of_turn ts) run_is in
    let whole = empties low high room turns [] rows free ranking marks stand in
    let placed : gathered (emptied (filter (inside low high) turns) rows) (filter (outside low high) turns) ≡ filter (stays_outside low high) (gathered rows turns) =
    all_stay (between low high) (gathered (emptied (filter (inside low high) turns) rows) (filter (outside low high) turns)) (each_left low high (emptied (filter (inside low high) turns) rows) turns whole.stand.tied)
    ∙ whole.same in
    let last : gathered later fewer ≡ filter (stays_outside low high) (gathered rows turns) =
    ap (λ rs. gathered rs fewer) rows_are ∙ ap (gathered (emptied (filter (inside low high) turns) rows)) cut ∙ placed in
    record {
      stand = record {
        rows_number = ap length rows_are ∙ whole.stand.rows_number;
        tied = subst (λ rs. AreTied rs fewer) (sym rows_are) (subst (AreTied (emptied (filter (inside low high) turns) rows)) (sym cut) whole.stand.tied);
        in_order = subst (AreInOrder place_of_turn) (sym cut) whole.stand.in_order;
        ranks_are = ranks_stay rank_of (is_outside low high) room ranking after (gathered rows turns) (gathered later fewer) stand.ranks_are last now;
        marks_are = ranks_stay mark_of (is_outside low high) room marks fewer_marks (gathered rows turns) (gathered later fewer) stand.marks_are last marked;
        slots_are = subst (HasEachSlot room given) (sym last) (subst (λ (ss : List ℕ). HasEachSlot room ss (filter (stays_outside low high) (gathered rows turns))) (sym free_is)
            (subst (HasEachSlot room (free ++ map slot_of_turn (filter (inside low high) turns))) placed whole.stand.slots_are));
      };
      placed_is = last;
    }

-- ---- the slots that are emptied have rows

pub each_slot : (low high : ℕ) (rows : List (Option ScrubRow)) (ts : List Turn) → AreTied rows ts → AllByRecursion (λ (t : Turn). t.slot < length rows) (filter (λ (t : Turn). is_between low high t.place) ts)
each_slot low high rows [] tied = tt
each_slot low high rows (t ∷ ts) tied =
    elim (is_between low high t.place) as (λ v. AllByRecursion (λ (x : Turn). x.slot < length rows) (cond v (t ∷ filter (inside low high) ts) (filter (inside low high) ts))) [
      | true ↦ (slot_there rows t.slot tied.0.row tied.0.is, each_slot low high rows ts tied.1)
      | false ↦ each_slot low high rows ts tied.1
    ]

pub run_len : (low high : ℕ) (ts : List Turn) → length (filter (λ (t : Turn). is_between low high t.place) ts) ≤ length ts
run_len low high [] = omega arith
run_len low high (t ∷ ts) =
    let later : length (filter (inside low high) ts) ≤ length ts = run_len low high ts in
    elim (is_between low high t.place) as (λ v. length (cond v (t ∷ filter (inside low high) ts) (filter (inside low high) ts)) ≤ suc (length ts)) [
      | true ↦ omega (arith, later)
      | false ↦ omega (arith, later)
    ]

-- ---- rows of one mitigation alone

both_hold : (a b : Bool) → (a && b) ≡ true → (a ≡ true) × (b ≡ true)
both_hold true b is = (refl, is)
both_hold false b is = absurd (cc)

gone_first : (v : Bool) (x : PlacedScrub) (xs : List PlacedScrub) → v ≡ true → cond (not v) (x ∷ xs) xs ≡ xs
gone_first true x xs is = refl
gone_first false x xs is = absurd (cc)

pub others_left : (low high domain : ℕ) (cuid : List ℕ) (mid : ℕ) (rows : List (Option ScrubRow)) (ts : List Turn) → AreTied rows ts
    → list_all (λ (t : Turn). slot_is_of domain cuid mid rows t.slot) (filter (λ (t : Turn). is_between low high t.place) ts) ≡ true
    → without_mitigation domain cuid mid (filter (stays_outside low high) (gathered rows ts)) ≡ without_mitigation domain cuid mid (gathered rows ts)
others_left low high domain cuid mid rows [] tied all = refl
others_left low high domain cuid mid rows (t ∷ ts) tied all =
    let x : PlacedScrub = scrub_of t tied.0.row in
    subst (λ hs. without_mitigation domain cuid mid (filter (stays_outside low high) hs) ≡ without_mitigation domain cuid mid hs) (sym (one_tied rows t ts tied.0))
    ((elim (is_between low high t.place) as (λ v. is_between low high t.place ≡ v
    → list_all (λ (k : Turn). slot_is_of domain cuid mid rows k.slot) (cond v (t ∷ filter (inside low high) ts) (filter (inside low high) ts)) ≡ true
    → without_mitigation domain cuid mid (cond (not v) (scrub_of t tied.0.row ∷ filter (stays_outside low high) (gathered rows ts)) (filter (stays_outside low high) (gathered rows ts)))
    ≡ without_mitigation domain cuid mid (scrub_of t tied.0.row ∷ gathered rows ts)) [
      | true ↦ λ is all.
          let parts = both_hold (slot_is_of domain cuid mid rows t.slot) (list_all (λ (k : Turn). slot_is_of domain cuid mid rows k.slot) (filter (inside low high) ts)) all in
          let one : is_of domain cuid mid (scrub_of t tied.0.row) ≡ true = sym (ap (passes (row_is_of domain cuid mid)) tied.0.is) ∙ parts.0 in
          others_left low high domain cuid mid rows ts tied.1 parts.1
          ∙ sym (gone_first (is_of domain cuid mid (scrub_of t tied.0.row)) (scrub_of t tied.0.row) (without_mitigation domain cuid mid (gathered rows ts)) one)
      | false ↦ λ is all.
          ap (λ hs. cond (not (is_of domain cuid mid (scrub_of t tied.0.row))) (scrub_of t tied.0.row ∷ hs) hs) (others_left low high domain cuid mid rows ts tied.1 all)
    ]) refl all)
