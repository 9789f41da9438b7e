-- Slots that are taken and given back.
use Rattle.std.proofs.Common.{◌≡◌, ℕ, ◌+◌, ◌<◌, ◌≤◌, Bool, true, false, not, cond, if◌then◌else◌, ◌==◌, nat_lt, nat_le, List, [], ◌∷◌, ◌++◌, map, length, get_or, length-append, subst, zero, suc, refl, sym, ap, ◌∙◌, arith, one-add, Some, None}
use Rattle.std.specs.List.{insert, remove, count_by, prefix_len, filter, AllByRecursion}
use Rattle.std.proofs.lemmas.Grind.{common_steps}
use Rattle.std.proofs.lemmas.Bool.{eq-eqb}
use Rattle.std.proofs.lemmas.List.{length-map}
use Rattle.std.proofs.lemmas.List.Sums.{sum_by-cons, prefix_len-le-length, sum_by-append, sum_by-insert, sum_by-remove}
use Rattle.std.proofs.lemmas.List.Edits.{length-insert, length-remove}
use Rattle.filter_table.specs.declared.rank.Rank.{Rank}
use Rattle.filter_table.specs.Ranks.{RankingValue, is_before, with_rank, ranked, place_of}
use Rattle.filter_table.specs.TableRows.{PlacedScrub, rank_of, ScrubsValue, scrub_in, with_scrub, woken, is_of, scrub_set}
use Rattle.filter_table.specs.Rows.{mark_of}
use Rattle.filter_table.specs.Slots.{HasEachSlot, RanksAre}
use Rattle.filter_table.proofs.Each.{map_insert, map_remove}
use Rattle.filter_table.proofs.Order.{ranked_insert, ranked_remove, taken_back}

abbrev once_at : ℕ → ℕ → ℕ
once_at s slot = cond (slot == s) 1 0

-- a slot is taken for a row
pub after_install : (room : ℕ) (before free : List ℕ) (slot : ℕ) (placed : List PlacedScrub) (i : ℕ) (scrub : PlacedScrub)
    → before ≡ free ++ slot ∷ [] → scrub.slot ≡ slot → i ≤ length placed
    → HasEachSlot room before placed → HasEachSlot room free (insert placed i scrub)
after_install room before free slot placed i scrub taken is within has = record {
  once = λ s.
      let same : once_at s scrub.slot ≡ once_at s slot = ap (once_at s) is in
      omega (
        arith,
        same,
        has.once s,
        ap (count_by (λ other. other == s)) taken,
        sum_by-append (once_at s) free (slot ∷ []),
        sum_by-insert (λ (x : PlacedScrub). once_at s x.slot) placed i scrub,
      );
  number = omega (arith, has.number, length-insert placed i scrub within, ap length taken, length-append free (slot ∷ []));
}

one_where : (s slot : ℕ) → slot == s ≡ true → once_at s slot ≡ 1
one_where s slot is = rw is refl

-- no row stands in a slot that is free
none_counted : (slot : ℕ) (placed : List PlacedScrub) → count_by (λ (scrub : PlacedScrub). scrub.slot == slot) placed ≡ 0 → scrub_in slot placed ≡ None
none_counted slot [] none = refl
none_counted slot (scrub ∷ placed) none =
    let counted : once_at slot scrub.slot + count_by (λ (x : PlacedScrub). x.slot == slot) placed ≡ 0 = grind (arith, none, common_steps) in
    elim (scrub.slot == slot) as (λ v. scrub.slot == slot ≡ v → cond v (Some scrub) (scrub_in slot placed) ≡ None) [
      | true ↦ λ is. absurd (omega (arith, counted, one_where slot scrub.slot is))
      | false ↦ λ is. none_counted slot placed (omega (arith, counted))
    ] refl

below_one : (slot room : ℕ) → cond (nat_lt slot room) 1 0 ≤ 1
below_one slot room = grind arith

pub none_in : (room : ℕ) (before free : List ℕ) (slot : ℕ) (placed : List PlacedScrub) → before ≡ free ++ slot ∷ [] → HasEachSlot room before placed → scrub_in slot placed ≡ None
none_in room before free slot placed taken has =
    let self : once_at slot slot ≡ 1 = one_where slot slot (eq-eqb _ _ refl) in
    none_counted slot placed (omega (arith, self, has.once slot, below_one slot room, ap (count_by (λ other. other == slot)) taken, sum_by-append (once_at slot) free (slot ∷ [])))

-- a slot is given back
pub after_removal : (room : ℕ) (free : List ℕ) (placed : List PlacedScrub) (i : ℕ) (scrub : PlacedScrub)
    → i < length placed → get_or placed i scrub ≡ scrub
    → HasEachSlot room free placed → HasEachSlot room (free ++ scrub.slot ∷ []) (remove placed i)
after_removal room free placed i scrub within is has = record {
  once = λ s.
      let same : once_at s (get_or placed i scrub).slot ≡ once_at s scrub.slot = ap (λ (x : PlacedScrub). once_at s x.slot) is in
      omega (arith, same, has.once s, sum_by-append (once_at s) free (scrub.slot ∷ []), sum_by-remove (λ (x : PlacedScrub). once_at s x.slot) placed i scrub within);
  number = omega (arith, has.number, length-remove placed i within, length-append free (scrub.slot ∷ []));
}

-- ---- the first of each slot: no row, and every slot free

abbrev pub below : ℕ → List ℕ → Type 0
below n slots = (s : ℕ) → count_by (λ other. other == s) slots ≡ cond (nat_lt s n) 1 0

one_more : (s n : ℕ) → cond (nat_lt s n) 1 0 + once_at s n ≡ cond (nat_lt s (n + 1)) 1 0
one_more s n = grind arith

pub below_more : (n : ℕ) (slots : List ℕ) → below n slots → below (n + 1) (slots ++ n ∷ [])
below_more n slots has = λ s.
    let more : cond (nat_lt s n) 1 0 + once_at s n ≡ cond (nat_lt s (n + 1)) 1 0 = one_more s n in
    omega (arith, has s, more, sum_by-append (once_at s) slots (n ∷ []))

-- ---- ranks of rows

get-map : (of : PlacedScrub → Rank) (placed : List PlacedScrub) (i : ℕ) (scrub : PlacedScrub) → i < length placed → get_or placed i scrub ≡ scrub → get_or (map of placed) i (of scrub) ≡ of scrub
get-map of [] i scrub within is = absurd (omega arith)
get-map of (x ∷ placed) zero scrub within is = ap of is
get-map of (x ∷ placed) (suc i) scrub within is = get-map of placed i scrub (omega arith) is

-- the ranks of some rows are those of the others, and of one that is among them
ranks_split : (of : PlacedScrub → Rank) (placed : List PlacedScrub) (i : ℕ) (scrub : PlacedScrub) → i < length placed → get_or placed i scrub ≡ scrub
    → ranked (map of placed) ≡ with_rank (of scrub) (ranked (map of (remove placed i)))
ranks_split of placed i scrub within is =
    ranked_remove (map of placed) i (of scrub) (omega (arith, within, length-map placed of)) (get-map of placed i scrub within is)
    ∙ ap (λ rs. with_rank (of scrub) (ranked rs)) (sym (map_remove of placed i))

pub length-ranked : (rs : List Rank) → length (ranked rs) ≡ length rs
length-ranked [] = refl
length-ranked (r ∷ rs) = omega (arith, length-insert (ranked rs) (place_of r (ranked rs)) r (prefix_len-le-length (λ other. is_before other r) (ranked rs)), length-ranked rs)

pub length-ranks : (of : PlacedScrub → Rank) (ranking : RankingValue) (room : ℕ) (placed : List PlacedScrub) → RanksAre of ranking room placed → length ranking.ranks ≡ length placed
length-ranks of ranking room placed are = ap length are.in_order ∙ length-ranked (map of placed) ∙ length-map placed of

-- ---- what the table keeps, over the values that a call handles

within_by : (slot room : ℕ) → 1 ≤ cond (nat_lt slot room) 1 0 → slot < room
within_by slot room more = grind arith

pub slot_within : (room : ℕ) (before free : List ℕ) (slot : ℕ) (placed : List PlacedScrub) → before ≡ free ++ slot ∷ [] → HasEachSlot room before placed → slot < room
slot_within room before free slot placed taken has =
    let self : once_at slot slot ≡ 1 = one_where slot slot (eq-eqb _ _ refl) in
    within_by slot room (omega (arith, self, has.once slot, ap (count_by (λ other. other == slot)) taken, sum_by-append (once_at slot) free (slot ∷ [])))

pub ranks_installed : (of : PlacedScrub → Rank) (room : ℕ) (ranking after : RankingValue) (rank : Rank) (placed later : List PlacedScrub) (i : ℕ) (scrub : PlacedScrub)
    → RanksAre of ranking room placed → rank ≡ of scrub → later ≡ insert placed i scrub → after ≡ record { room = ranking.room; ranks = with_rank rank ranking.ranks }
    → RanksAre of after room later
ranks_installed of room ranking after rank placed later i scrub are is rows now = record {
  in_order = ap (λ (r : RankingValue). r.ranks) now ∙ ap (λ r. with_rank r ranking.ranks) is ∙ ap (with_rank (of scrub)) are.in_order
      ∙ sym (ranked_insert (map of placed) i (of scrub)) ∙ ap ranked (sym (map_insert of placed i scrub)) ∙ ap (λ hs. ranked (map of hs)) (sym rows);
  room_is = ap (λ (r : RankingValue). r.room) now ∙ are.room_is;
}

pub rank_there : (of : PlacedScrub → Rank) (room : ℕ) (ranking : RankingValue) (rank : Rank) (placed : List PlacedScrub) (i : ℕ) (scrub : PlacedScrub)
    → RanksAre of ranking room placed → i < length placed → get_or placed i scrub ≡ scrub → rank ≡ of scrub
    → (others : List Rank) × (ranking.ranks ≡ with_rank rank others)
rank_there of room ranking rank placed i scrub are within is ranks = (
  ranked (map of (remove placed i)),
  are.in_order ∙ ranks_split of placed i scrub within is ∙ ap (λ (r : Rank). with_rank r (ranked (map of (remove placed i)))) (sym ranks),
)

pub ranks_removed : (of : PlacedScrub → Rank) (room : ℕ) (ranking after : RankingValue) (rank : Rank) (placed later : List PlacedScrub) (i : ℕ) (scrub : PlacedScrub)
    → RanksAre of ranking room placed → i < length placed → get_or placed i scrub ≡ scrub → rank ≡ of scrub → later ≡ remove placed i
    → after ≡ record { room = ranking.room; ranks = remove ranking.ranks (place_of rank ranking.ranks) }
    → RanksAre of after room later
ranks_removed of room ranking after rank placed later i scrub are within is ranks rows now =
    let rest = ranked (map of (remove placed i)) in
    let split : ranking.ranks ≡ with_rank (of scrub) (ranked (map of (remove placed i))) = are.in_order ∙ ranks_split of placed i scrub within is in
    record {
      in_order = ap (λ (r : RankingValue). r.ranks) now ∙ ap (λ r. remove ranking.ranks (place_of r ranking.ranks)) ranks
          ∙ ap (λ rs. remove rs (place_of (of scrub) rs)) split ∙ taken_back (of scrub) rest ∙ ap (λ hs. ranked (map of hs)) (sym rows);
      room_is = ap (λ (r : RankingValue). r.room) now ∙ are.room_is;
    }

abbrev pub scrubs_value : ℕ → List PlacedScrub → ScrubsValue
scrubs_value room placed = record { room = room; placed = placed }

-- ---- a change of rows that keeps slots, places and prefixes

same_ranks : (of : PlacedScrub → Rank) (f : PlacedScrub → PlacedScrub) → ((x : PlacedScrub) → of (f x) ≡ of x) → (placed : List PlacedScrub) → map of (map f placed) ≡ map of placed
same_ranks of f same [] = refl
same_ranks of f same (x ∷ placed) = ap (λ r. r ∷ map of (map f placed)) (same x) ∙ ap (λ rs. of x ∷ rs) (same_ranks of f same placed)

pub ranks_stay : (of : PlacedScrub → Rank) (f : PlacedScrub → PlacedScrub) → ((x : PlacedScrub) → of (f x) ≡ of x) → (room : ℕ) (ranking : RankingValue) (placed later : List PlacedScrub)
    → RanksAre of ranking room placed → later ≡ map f placed → RanksAre of ranking room later
ranks_stay of f same room ranking placed later are rows = record {
  in_order = are.in_order ∙ ap ranked (sym (ap (map of) rows ∙ same_ranks of f same placed));
  room_is = are.room_is;
}

same_counts : (f : PlacedScrub → PlacedScrub) → ((x : PlacedScrub) → (f x).slot ≡ x.slot) → (s : ℕ) (placed : List PlacedScrub)
    → count_by (λ (x : PlacedScrub). x.slot == s) (map f placed) ≡ count_by (λ (x : PlacedScrub). x.slot == s) placed
same_counts f same s [] = refl
same_counts f same s (x ∷ placed) =
    let one : once_at s (f x).slot ≡ once_at s x.slot = ap (once_at s) (same x) in
    omega (arith, one, same_counts f same s placed, sum_by-cons (λ (y : PlacedScrub). once_at s y.slot) (f x) (map f placed), sum_by-cons (λ (y : PlacedScrub). once_at s y.slot) x placed)

pub slots_stay : (f : PlacedScrub → PlacedScrub) → ((x : PlacedScrub) → (f x).slot ≡ x.slot) → (room : ℕ) (free : List ℕ) (placed later : List PlacedScrub)
    → HasEachSlot room free placed → later ≡ map f placed → HasEachSlot room free later
slots_stay f same room free placed later has rows = record {
  once = λ s. omega (arith, has.once s, same_counts f same s placed, ap (count_by (λ (x : PlacedScrub). x.slot == s)) rows);
  number = omega (arith, has.number, ap length rows, length-map placed f);
}

pub woken_rank : (domain : ℕ) (cuid : List ℕ) (mid : ℕ) (active : Bool) (x : PlacedScrub) → rank_of (woken domain cuid mid active x) ≡ rank_of x
woken_rank domain cuid mid active x =
    elim (is_of domain cuid mid x) as (λ v. rank_of (if v then scrub_set active x else x) ≡ rank_of x) [ true ↦ refl | false ↦ refl ]

pub woken_mark : (domain : ℕ) (cuid : List ℕ) (mid : ℕ) (active : Bool) (x : PlacedScrub) → mark_of (woken domain cuid mid active x) ≡ mark_of x
woken_mark domain cuid mid active x =
    elim (is_of domain cuid mid x) as (λ v. mark_of (if v then scrub_set active x else x) ≡ mark_of x) [ true ↦ refl | false ↦ refl ]

-- ---- rows taken out one by one

-- one of those that go, taken out before
pub others_same : (p : PlacedScrub → Bool) (xs : List PlacedScrub) (i : ℕ) (d : PlacedScrub) → i < length xs → p (get_or xs i d) ≡ true
    → filter (λ x. not (p x)) (remove xs i) ≡ filter (λ x. not (p x)) xs
others_same p [] i d within is = absurd (omega (arith, within))
others_same p (x ∷ xs) zero d within is = let here : p x ≡ true = is in rw here refl
others_same p (x ∷ xs) (suc i) d within is =
    let same : filter (λ y. not (p y)) (remove xs i) ≡ filter (λ y. not (p y)) xs = others_same p xs i d (omega (arith, within)) is in
    elim (p x) as (λ v. cond (not v) (x ∷ filter (λ y. not (p y)) (remove xs i)) (filter (λ y. not (p y)) (remove xs i)) ≡ cond (not v) (x ∷ filter (λ y. not (p y)) xs) (filter (λ y. not (p y)) xs)) [
      | true ↦ same
      | false ↦ ap (λ ys. x ∷ ys) same
    ]

pub all_stay : (p : PlacedScrub → Bool) (xs : List PlacedScrub) → AllByRecursion (λ x. p x ≡ false) xs → xs ≡ filter (λ x. not (p x)) xs
all_stay p [] none = refl
all_stay p (x ∷ xs) none = let here : p x ≡ false = none.0 in rw here (ap (λ ys. x ∷ ys) (all_stay p xs none.1))
