-- The greatest mid by ranks is that by rows.
use Rattle.std.proofs.Common.{◌≡◌, ℕ, ◌+◌, ◌<◌, ◌≤◌, ◌^◌, Bool, true, false, cond, ◌&&◌, ◌==◌, nat_le, nat_lt, List, [], ◌∷◌, ◌++◌, map, filter, zero, suc, refl, sym, ap, ◌∙◌, arith, Option, Some, None}
use Rattle.std.specs.List.{insert, AllByRecursion}
use Rattle.ip_scope.specs.declared.family.Family.{Family}
use Rattle.ip_scope.specs.declared.family.Family.TheVariants.{V4, V6}
use Rattle.ip_scope.specs.Family.{width}
use Rattle.ip_scope.specs.Prefix.{PrefixValue, IsPrefix, holds}
use Rattle.acl_lists.specs.declared.packet.Packet.{Packet}
use Rattle.acl_lists.specs.declared.rows.ScrubRow.{ScrubRow}
use Rattle.acl_lists.specs.RowMatching.{has_protocol, has_port, is_scrubbed}
use Rattle.acl_lists.specs.Fates.{scrubs, greatest, greatest_from, scrubbing_mid}
use Rattle.filter_table.specs.declared.rank.Rank.{Rank}
use Rattle.filter_table.specs.Ranks.{kind_of, ranked, place_of, slot_of}
use Rattle.filter_table.specs.Covers.{covers, IsShort}
use Rattle.filter_table.proofs.Each.{each_insert, each_map, each_weaker}
use Rattle.filter_table.proofs.Covered.{cover_by}
use Rattle.filter_table.specs.TableRows.{PlacedScrub, rank_of, row_of_scrub}
use Rattle.filter_table.specs.Rows.{in_slot}
use Rattle.filter_table.specs.Best.{greater_of, best, mid_of, mid_in}
use Rattle.filter_table.proofs.Gathered.{IsStored}

pub greater_more : (found rest : Option ℕ) (mid : ℕ) → greater_of (Some (greatest_from mid found)) rest ≡ greater_of found (Some (greatest_from mid rest))
greater_more None rest mid = refl
greater_more (Some a) None mid = ap Some (omega arith)
greater_more (Some a) (Some r) mid = ap Some (omega arith)

pub greater_joined : (a b c : Option ℕ) → greater_of (greater_of a b) c ≡ greater_of a (greater_of b c)
greater_joined None b c = refl
greater_joined (Some x) None c = refl
greater_joined (Some x) (Some y) None = refl
greater_joined (Some x) (Some y) (Some z) = ap Some (omega arith)

greater_turned : (a b c : Option ℕ) → greater_of a (greater_of b c) ≡ greater_of b (greater_of a c)
greater_turned None b c = refl
greater_turned (Some x) None c = refl
greater_turned (Some x) (Some y) None = ap Some (omega arith)
greater_turned (Some x) (Some y) (Some z) = ap Some (omega arith)

pub greater_none : (a : Option ℕ) → greater_of a None ≡ a
greater_none None = refl
greater_none (Some x) = refl

pub best-append : {A : Type 0} → (f : A → Option ℕ) (xs ys : List A) → best f (xs ++ ys) ≡ greater_of (best f xs) (best f ys)
best-append f [] ys = refl
best-append f (x ∷ xs) ys = ap (greater_of (f x)) (best-append f xs ys) ∙ sym (greater_joined (f x) (best f xs) (best f ys))

best-insert : (f : Rank → Option ℕ) (xs : List Rank) (i : ℕ) (x : Rank) → best f (insert xs i x) ≡ greater_of (f x) (best f xs)
best-insert f [] zero x = refl
best-insert f [] (suc i) x = refl
best-insert f (y ∷ xs) zero x = refl
best-insert f (y ∷ xs) (suc i) x = ap (greater_of (f y)) (best-insert f xs i x) ∙ greater_turned (f y) (f x) (best f xs)

best-ranked : (f : Rank → Option ℕ) (xs : List Rank) → best f (ranked xs) ≡ best f xs
best-ranked f [] = refl
best-ranked f (x ∷ xs) = best-insert f (ranked xs) (place_of x (ranked xs)) x ∙ ap (greater_of (f x)) (best-ranked f xs)

-- the mid of a rank's row, where the rank covers the address
abbrev covered : Packet → List (Option ScrubRow) → Rank → Option ℕ
covered packet rows rank = cond (covers packet.destination.family packet.destination.number rank) (mid_in packet rows rank.slot) None

best-covering : (packet : Packet) (rows : List (Option ScrubRow)) (rs : List Rank)
    → best (mid_in packet rows) (map slot_of (filter (covers packet.destination.family packet.destination.number) rs)) ≡ best (covered packet rows) rs
best-covering packet rows [] = refl
best-covering packet rows (r ∷ rs) =
    elim (covers packet.destination.family packet.destination.number r) as (λ v.
    best (mid_in packet rows) (map slot_of (cond v (r ∷ filter (covers packet.destination.family packet.destination.number) rs) (filter (covers packet.destination.family packet.destination.number) rs)))
    ≡ greater_of (cond v (mid_in packet rows r.slot) None) (best (covered packet rows) rs)) [
      | true ↦ ap (greater_of (mid_in packet rows r.slot)) (best-covering packet rows rs)
      | false ↦ best-covering packet rows rs
    ]

-- ---- each row

active_once : (active placed rest : Bool) (mid : ℕ) → cond placed (cond (active && (placed && rest)) (Some mid) None) None ≡ cond (active && (placed && rest)) (Some mid) None
active_once true true rest mid = refl
active_once true false rest mid = refl
active_once false true rest mid = refl
active_once false false rest mid = refl

row_mid : (packet : Packet) (rows : List (Option ScrubRow)) (scrub : PlacedScrub) → IsStored rows scrub
    → covered packet rows (rank_of scrub) ≡ cond (scrubs packet scrub.row) (Some scrub.row.mid) None
row_mid packet rows scrub stored =
    ap (λ (v : Bool). cond v (mid_in packet rows scrub.slot) None)
    (cover_by scrub.row.prefix.family packet.destination.family scrub.row.prefix.length scrub.row.prefix.number packet.destination.number scrub.place scrub.slot stored.prefix.length stored.prefix.host_bits)
    ∙ ap (λ r. cond (holds scrub.row.prefix packet.destination.family packet.destination.number) (mid_of packet r) None) stored.is
    ∙ active_once scrub.row.active (holds scrub.row.prefix packet.destination.family packet.destination.number) (has_protocol scrub.row.protocols packet && has_port scrub.row.ports packet.ports) scrub.row.mid

one_greatest : (packet : Packet) (h : PlacedScrub) (placed : List PlacedScrub) (v : Bool) → scrubs packet h.row ≡ v
    → greater_of (cond (scrubs packet h.row) (Some h.row.mid) None) (scrubbing_mid packet (map row_of_scrub placed)) ≡ scrubbing_mid packet (map row_of_scrub (h ∷ placed))
one_greatest packet h placed true is = rw is refl
one_greatest packet h placed false is = rw is refl

best-rows : (packet : Packet) (rows : List (Option ScrubRow)) (placed : List PlacedScrub) → AllByRecursion (IsStored rows) placed
    → best (covered packet rows) (map rank_of placed) ≡ scrubbing_mid packet (map row_of_scrub placed)
best-rows packet rows [] stored = refl
best-rows packet rows (h ∷ placed) stored =
    ap (λ m. greater_of m (best (covered packet rows) (map rank_of placed))) (row_mid packet rows h stored.0)
    ∙ ap (greater_of (cond (scrubs packet h.row) (Some h.row.mid) None)) (best-rows packet rows placed stored.1)
    ∙ one_greatest packet h placed (scrubs packet h.row) refl

-- the greatest by the ranks that cover the address is that of the rows
pub best_is : (packet : Packet) (rows : List (Option ScrubRow)) (placed : List PlacedScrub) → AllByRecursion (IsStored rows) placed
    → best (mid_in packet rows) (map slot_of (filter (covers packet.destination.family packet.destination.number) (ranked (map rank_of placed)))) ≡ scrubbing_mid packet (map row_of_scrub placed)
best_is packet rows placed stored =
    best-covering packet rows (ranked (map rank_of placed)) ∙ best-ranked (covered packet rows) (map rank_of placed) ∙ best-rows packet rows placed stored

-- ---- numbers of IPv4 are short

short_by : (family : Family) (length number : ℕ) → number < 2 ^ width family → kind_of family length < 256 → number < 2 ^ 32
short_by V4 length number fits low = fits
short_by V6 length number fits low = absurd (omega (arith, low))

pub each_ranked : (P : Rank → Type 0) (rs : List Rank) → AllByRecursion P rs → AllByRecursion P (ranked rs)
each_ranked P [] all = tt
each_ranked P (r ∷ rs) all = each_insert P (ranked rs) (place_of r (ranked rs)) r all.0 (each_ranked P rs all.1)

pub ranks_short : (rows : List (Option ScrubRow)) (placed : List PlacedScrub) → AllByRecursion (IsStored rows) placed → AllByRecursion IsShort (ranked (map rank_of placed))
ranks_short rows placed stored =
    each_ranked IsShort (map rank_of placed)
    (each_map IsShort rank_of placed
    (each_weaker (IsStored rows) (λ (h : PlacedScrub). IsShort (rank_of h)) (λ h one low. short_by h.row.prefix.family h.row.prefix.length h.row.prefix.number one.prefix.number low) placed stored))
