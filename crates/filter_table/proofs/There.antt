-- Each slot that is given has a row.
use Rattle.std.proofs.Common.{◌≡◌, ℕ, Bool, true, false, cond, ◌==◌, List, [], ◌∷◌, map, length, take, drop, refl, Option, Some, IsSome, eq-eqb, rules}
use Rattle.std.specs.List.{All}
use Rattle.std.proofs.lemmas.List.Elements.{All-nil, All-cons, All-head, All-tail, All-append, All-take, All-drop, All-map, All-filter, All-weaker}
use Rattle.ip_scope.specs.declared.family.Family.{Family}
use Rattle.filter_table.specs.declared.rank.Rank.{Rank}
use Rattle.filter_table.specs.Ranks.{kind_of, ranked, place_of, is_of_kind, slot_of}
use Rattle.filter_table.specs.TableRows.{PlacedScrub, rank_of, scrub_in}
use Rattle.filter_table.specs.Table.{slots_of}

abbrev pub HasRow : List PlacedScrub → ℕ → Type 0
HasRow placed slot = IsSome (scrub_in slot placed)

first_or_later : (b : Bool) (x : PlacedScrub) (other : Option PlacedScrub) → IsSome other → IsSome (cond b (Some x) other)
first_or_later true x other there = search rules
first_or_later false x other there = there

stays : (slot : ℕ) (x : PlacedScrub) (placed : List PlacedScrub) → HasRow placed slot → HasRow (x ∷ placed) slot
stays slot x placed there = first_or_later (x.slot == slot) x (scrub_in slot placed) there

taken_where : (b : Bool) (x : PlacedScrub) (other : Option PlacedScrub) → b ≡ true → IsSome (cond b (Some x) other)
taken_where true x other is = search rules
taken_where false x other is = absurd (cc)

here : (x : PlacedScrub) (placed : List PlacedScrub) → HasRow (x ∷ placed) x.slot
here x placed = taken_where (x.slot == x.slot) x (scrub_in x.slot placed) (eq-eqb _ _ refl)

each_there : (placed : List PlacedScrub) → All (λ (x : PlacedScrub). HasRow placed x.slot) placed
each_there [] = All-nil (λ (x : PlacedScrub). HasRow [] x.slot)
each_there (x ∷ placed) =
    All-cons (λ (y : PlacedScrub). HasRow (x ∷ placed) y.slot) x placed (here x placed)
    (All-weaker (λ (y : PlacedScrub). HasRow placed y.slot) (λ (y : PlacedScrub). HasRow (x ∷ placed) y.slot) (λ y. stays y.slot x placed) placed (each_there placed))

all_ranked : (P : Rank → Type 0) (rs : List Rank) → All P rs → All P (ranked rs)
all_ranked P [] all = all
all_ranked P (r ∷ rs) all =
    let rest = all_ranked P rs (All-tail P r rs all) in
    let n = place_of r (ranked rs) in
    All-append P (take n (ranked rs)) (r ∷ drop n (ranked rs)) (All-take P n (ranked rs) rest)
    (All-cons P r (drop n (ranked rs)) (All-head P r rs all) (All-drop P n (ranked rs) rest))

pub slots_there : (family : Family) (length : ℕ) (placed : List PlacedScrub) → All (HasRow placed) (slots_of family length placed)
slots_there family length placed =
    let P = λ (r : Rank). HasRow placed (slot_of r) in
    All-map (HasRow placed) slot_of _
    (All-filter (is_of_kind (kind_of family length)) P (ranked (map rank_of placed)) (all_ranked P (map rank_of placed) (All-map P rank_of placed (each_there placed))))
