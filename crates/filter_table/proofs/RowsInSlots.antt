-- Rows that stand in slots, through a change of the table.
use Rattle.std.proofs.Common.{◌≡◌, ℕ, ◌+◌, ◌<◌, ◌≤◌, Bool, nat_le, List, [], ◌∷◌, ◌++◌, map, length, get_or, set, take, zero, suc, refl, sym, ap, subst, ◌∙◌, arith, Option, Some, None, length-set, length-take-le}
use Rattle.std.specs.List.{insert, remove, prefix_len, AllByRecursion}
use Rattle.std.proofs.lemmas.List.{length-map}
use Rattle.std.proofs.lemmas.List.Sums.{prefix_len-le-length}
use Rattle.ip_scope.specs.Prefix.{IsPrefix}
use Rattle.acl_lists.specs.declared.rows.ScrubRow.{ScrubRow}
use Rattle.filter_table.specs.declared.rank.Rank.{Rank}
use Rattle.filter_table.specs.Ranks.{RankingValue, with_rank, place_of, ranked}
use Rattle.filter_table.proofs.Order.{commutes}
use Rattle.filter_table.proofs.Each.{each_insert, each_remove, each_take}
use Rattle.filter_table.specs.declared.turn.Turn.{Turn}
use Rattle.filter_table.specs.TableRows.{PlacedScrub, rank_of, scrub_in, with_scrub, woken, renumbered, place_of_scrub, scrub_at_place}
use Rattle.filter_table.specs.Laws.{AreInOrder}
use Rattle.filter_table.specs.Rows.{in_slot, added, gathered, place_of_turn, turn_at_place, mark_of, marks_of, woken_in, IsTied}
use Rattle.filter_table.specs.Slots.{HasEachSlot, RanksAre, StandInSlots}
use Rattle.filter_table.proofs.Gathered.{AreTied, scrub_of, one_tied, length-gathered, gathered-insert, gathered-remove, gathered-set, tied-set, in_slot-set, Elsewhere, elsewhere, places_same, turn_read, default_same, Reaches, length-woken, gathered-woken, tied-woken, gathered-renumbered, tied-renumbered}
use Rattle.filter_table.proofs.Orders.{order_insert, order_remove, order_renumbered, woken_slot}
use Rattle.filter_table.proofs.Slots.{after_install, after_removal, ranks_installed, ranks_removed, ranks_stay, slots_stay, none_in, slot_within, woken_rank, woken_mark, length-ranked}
use Rattle.filter_table.proofs.Found.{each_reached}
use Rattle.filter_table.proofs.Places.{slots_renumbered}

abbrev pub turn_of : ℕ → ℕ → Turn
turn_of place slot = record { place = place; slot = slot }

abbrev pub ranking_value : ℕ → List Rank → RankingValue
ranking_value room ranks = record { room = room; ranks = ranks }

-- the value before, and what a call makes of it
pub record IsInstalled (room : ℕ) (rows : List (Option ScrubRow)) (turns : List Turn) (free : List ℕ) (ranking marks : RankingValue) (scrub : PlacedScrub) (placed : List PlacedScrub) : Type 0 where
  pub stand : StandInSlots room rows turns free ranking marks
  pub placed_is : gathered rows turns ≡ with_scrub scrub placed
  pub slot_below : scrub.slot < room
  pub slot_free : scrub_in scrub.slot placed ≡ None

installs : (room : ℕ) (rows : List (Option ScrubRow)) (turns : List Turn) (before free : List ℕ) (ranking after marks more_marks : RankingValue) (place slot at : ℕ) (row : ScrubRow)
    → StandInSlots room rows turns before ranking marks → before ≡ free ++ slot ∷ [] → IsPrefix row.prefix → at ≡ prefix_len (λ (t : Turn). nat_le t.place place) turns
    → after ≡ ranking_value ranking.room (with_rank (rank_of (scrub_of (turn_of place slot) row)) ranking.ranks)
    → more_marks ≡ ranking_value marks.room (with_rank (mark_of (scrub_of (turn_of place slot) row)) marks.ranks)
    → IsInstalled room (set rows slot (Some row)) (insert turns at (turn_of place slot)) free after more_marks (record { slot = slot; place = place; row = row }) (gathered rows turns)
installs room rows turns before free ranking after marks more_marks place slot at row stand taken whole here now marked =
    let turn = turn_of place slot in
    let none : scrub_in slot (gathered rows turns) ≡ None = none_in room before free slot (gathered rows turns) taken stand.slots_are in
    let other : Elsewhere slot turns = elsewhere rows turns slot stand.tied none in
    let low : slot < room = slot_within room before free slot (gathered rows turns) taken stand.slots_are in
    let there : in_slot (set rows slot (Some row)) slot ≡ Some row = in_slot-set rows slot (Some row) (omega (arith, low, stand.rows_number)) in
    let tied : AreTied (set rows slot (Some row)) turns = tied-set rows turns slot (Some row) other stand.tied in
    let later : gathered (set rows slot (Some row)) (insert turns at (turn_of place slot)) ≡ insert (gathered rows turns) at (scrub_of (turn_of place slot) row) =
    gathered-insert (set rows slot (Some row)) turns at (turn_of place slot) row tied there
    ∙ ap (λ hs. insert hs at (scrub_of (turn_of place slot) row)) (gathered-set rows turns slot (Some row) other) in
    let within : at ≤ length (gathered rows turns) =
    omega (arith, here, length-gathered rows turns stand.tied, prefix_len-le-length (λ (t : Turn). nat_le t.place place) turns) in
    record {
      stand = record {
        rows_number = length-set rows slot (Some row) ∙ stand.rows_number;
        tied = each_insert (IsTied (set rows slot (Some row))) turns at (turn_of place slot) (record { row = row; is = there; prefix = whole }) tied;
        in_order = subst (λ (n : ℕ). AreInOrder place_of_turn (insert turns n (turn_of place slot))) (sym here) (order_insert place_of_turn (turn_of place slot) turns stand.in_order);
        ranks_are = ranks_installed rank_of room ranking after _ (gathered rows turns) _ at (scrub_of (turn_of place slot) row) stand.ranks_are refl later now;
        marks_are = ranks_installed mark_of room marks more_marks _ (gathered rows turns) _ at (scrub_of (turn_of place slot) row) stand.marks_are refl later marked;
        slots_are = subst (HasEachSlot room free) (sym later) (after_install room before free slot (gathered rows turns) at (scrub_of (turn_of place slot) row) taken refl within stand.slots_are);
      };
      placed_is = later ∙ ap (λ (n : ℕ). insert (gathered rows turns) n (scrub_of (turn_of place slot) row)) (here ∙ places_same rows turns place stand.tied);
      slot_below = low;
      slot_free = none;
    }

pub installs_row : (room : ℕ) (rows later : List (Option ScrubRow)) (turns more : List Turn) (before free : List ℕ) (ranking after marks more_marks : RankingValue) (place slot at : ℕ) (row : ScrubRow)
    → StandInSlots room rows turns before ranking marks → before ≡ free ++ slot ∷ [] → IsPrefix row.prefix → at ≡ prefix_len (λ (t : Turn). nat_le t.place place) turns
    → after ≡ ranking_value ranking.room (with_rank (rank_of (scrub_of (turn_of place slot) row)) ranking.ranks)
    → more_marks ≡ ranking_value marks.room (with_rank (mark_of (scrub_of (turn_of place slot) row)) marks.ranks)
    → later ≡ set rows slot (Some row) → more ≡ insert turns at (turn_of place slot)
    → IsInstalled room later more free after more_marks (record { slot = slot; place = place; row = row }) (gathered rows turns)
installs_row room rows later turns more before free ranking after marks more_marks place slot at row stand taken whole here now marked written placed =
    subst (λ rs. IsInstalled room rs more free after more_marks (record { slot = slot; place = place; row = row }) (gathered rows turns)) (sym written)
    (subst (λ ts. IsInstalled room (set rows slot (Some row)) ts free after more_marks (record { slot = slot; place = place; row = row }) (gathered rows turns)) (sym placed)
    (installs room rows turns before free ranking after marks more_marks place slot at row stand taken whole here now marked))

pub record IsChanged (room : ℕ) (rows : List (Option ScrubRow)) (turns : List Turn) (free : List ℕ) (ranking marks : RankingValue) (placed : List PlacedScrub) : Type 0 where
  pub stand : StandInSlots room rows turns free ranking marks
  pub placed_is : gathered rows turns ≡ placed

removes : (room : ℕ) (rows : List (Option ScrubRow)) (turns : List Turn) (free given : List ℕ) (ranking after marks fewer_marks : RankingValue) (at : ℕ) (turn : Turn) (row : ScrubRow)
    → StandInSlots room rows turns free ranking marks → at < length turns → turn ≡ get_or turns at turn → in_slot rows turn.slot ≡ Some row
    → given ≡ free ++ turn.slot ∷ []
    → after ≡ ranking_value ranking.room (remove ranking.ranks (place_of (rank_of (scrub_of turn row)) ranking.ranks))
    → fewer_marks ≡ ranking_value marks.room (remove marks.ranks (place_of (mark_of (scrub_of turn row)) marks.ranks))
    → IsChanged room (set rows turn.slot None) (remove turns at) given after fewer_marks (remove (gathered rows turns) at)
removes room rows turns free given ranking after marks fewer_marks at turn row stand within is has back now marked =
    let below : at < length (gathered rows turns) = omega (arith, within, length-gathered rows turns stand.tied) in
    let read : get_or (gathered rows turns) at (scrub_of turn row) ≡ scrub_of turn row = turn_read rows turns at turn row stand.tied within is has in
    let slots : HasEachSlot room given (remove (gathered rows turns) at) =
    subst (λ (ss : List ℕ). HasEachSlot room ss (remove (gathered rows turns) at)) (sym back) (after_removal room free (gathered rows turns) at (scrub_of turn row) below read stand.slots_are) in
    let tied : AreTied rows (remove turns at) = each_remove (IsTied rows) turns at stand.tied in
    let left : gathered rows (remove turns at) ≡ remove (gathered rows turns) at = gathered-remove rows turns at stand.tied in
    let other : Elsewhere turn.slot (remove turns at) =
    elsewhere rows (remove turns at) turn.slot tied (ap (scrub_in turn.slot) left ∙ none_in room given free turn.slot (remove (gathered rows turns) at) back slots) in
    let later : gathered (set rows turn.slot None) (remove turns at) ≡ remove (gathered rows turns) at = gathered-set rows (remove turns at) turn.slot None other ∙ left in
    record {
      stand = record {
        rows_number = length-set rows turn.slot None ∙ stand.rows_number;
        tied = tied-set rows (remove turns at) turn.slot None other tied;
        in_order = order_remove place_of_turn turns at stand.in_order;
        ranks_are = ranks_removed rank_of room ranking after _ (gathered rows turns) _ at (scrub_of turn row) stand.ranks_are below read refl later now;
        marks_are = ranks_removed mark_of room marks fewer_marks _ (gathered rows turns) _ at (scrub_of turn row) stand.marks_are below read refl later marked;
        slots_are = subst (HasEachSlot room given) (sym later) slots;
      };
      placed_is = later;
    }

pub removes_row : (room : ℕ) (rows later : List (Option ScrubRow)) (turns fewer : List Turn) (free given : List ℕ) (ranking after marks fewer_marks : RankingValue) (at : ℕ) (turn : Turn) (row : ScrubRow)
    → StandInSlots room rows turns free ranking marks → at < length turns → turn ≡ get_or turns at turn → in_slot rows turn.slot ≡ Some row
    → given ≡ free ++ turn.slot ∷ []
    → after ≡ ranking_value ranking.room (remove ranking.ranks (place_of (rank_of (scrub_of turn row)) ranking.ranks))
    → fewer_marks ≡ ranking_value marks.room (remove marks.ranks (place_of (mark_of (scrub_of turn row)) marks.ranks))
    → later ≡ set rows turn.slot None → fewer ≡ remove turns at
    → IsChanged room later fewer given after fewer_marks (remove (gathered rows turns) at)
removes_row room rows later turns fewer free given ranking after marks fewer_marks at turn row stand within is has back now marked written taken =
    subst (λ rs. IsChanged room rs fewer given after fewer_marks (remove (gathered rows turns) at)) (sym written)
    (subst (λ ts. IsChanged room (set rows turn.slot None) ts given after fewer_marks (remove (gathered rows turns) at)) (sym taken)
    (removes room rows turns free given ranking after marks fewer_marks at turn row stand within is has back now marked))

pub wakes_rows : (domain : ℕ) (cuid : List ℕ) (mid : ℕ) (active : Bool) (room : ℕ) (rows later : List (Option ScrubRow)) (turns : List Turn) (free : List ℕ) (ranking marks : RankingValue) (found : List Rank)
    → StandInSlots room rows turns free ranking marks → found ≡ marks_of domain mid marks.ranks → later ≡ woken_in domain cuid mid active found rows
    → IsChanged room later turns free ranking marks (map (woken domain cuid mid active) (gathered rows turns))
wakes_rows domain cuid mid active room rows later turns free ranking marks found stand search_is written =
    let reach : AllByRecursion (Reaches domain cuid mid found) (gathered rows turns) =
    each_reached domain cuid mid found (gathered rows turns) (search_is ∙ ap (marks_of domain mid) stand.marks_are.in_order) in
    let change : gathered later turns ≡ map (woken domain cuid mid active) (gathered rows turns) =
    ap (λ rs. gathered rs turns) written ∙ gathered-woken domain cuid mid active found rows turns stand.tied reach in
    record {
      stand = record {
        rows_number = ap length written ∙ length-woken domain cuid mid active found rows ∙ stand.rows_number;
        tied = subst (λ rs. AreTied rs turns) (sym written) (tied-woken domain cuid mid active found rows turns stand.tied reach);
        in_order = stand.in_order;
        ranks_are = ranks_stay rank_of (woken domain cuid mid active) (woken_rank domain cuid mid active) room ranking (gathered rows turns) _ stand.ranks_are change;
        marks_are = ranks_stay mark_of (woken domain cuid mid active) (woken_mark domain cuid mid active) room marks (gathered rows turns) _ stand.marks_are change;
        slots_are = slots_stay (woken domain cuid mid active) (woken_slot domain cuid mid active) room free (gathered rows turns) _ stand.slots_are change;
      };
      placed_is = change;
    }

pub renumbers_rows : (room : ℕ) (rows : List (Option ScrubRow)) (turns later : List Turn) (free : List ℕ) (ranking after marks new_marks : RankingValue)
    → StandInSlots room rows turns free ranking marks → later ≡ renumbered place_of_turn turn_at_place turns → after ≡ ranking_value ranking.room (ranked (map rank_of (gathered rows later)))
    → new_marks ≡ ranking_value marks.room (ranked (map mark_of (gathered rows later)))
    → IsChanged room rows later free after new_marks (renumbered place_of_scrub scrub_at_place (gathered rows turns))
renumbers_rows room rows turns later free ranking after marks new_marks stand placed now marked =
    let change : gathered rows later ≡ renumbered place_of_scrub scrub_at_place (gathered rows turns) = ap (gathered rows) placed ∙ gathered-renumbered rows turns stand.tied in
    record {
      stand = record {
        rows_number = stand.rows_number;
        tied = subst (AreTied rows) (sym placed) (tied-renumbered rows turns stand.tied);
        in_order = subst (AreInOrder place_of_turn) (sym placed) (order_renumbered place_of_turn turn_at_place (λ n x. refl) turns);
        ranks_are = record { in_order = ap (λ (r : RankingValue). r.ranks) now; room_is = ap (λ (r : RankingValue). r.room) now ∙ stand.ranks_are.room_is };
        marks_are = record { in_order = ap (λ (r : RankingValue). r.ranks) marked; room_is = ap (λ (r : RankingValue). r.room) marked ∙ stand.marks_are.room_is };
        slots_are = slots_renumbered room free (gathered rows turns) (gathered rows later) change stand.slots_are;
      };
      placed_is = change;
    }

-- ---- all rows ranked, one after the other

pub taken_number : (of : PlacedScrub → Rank) (rows : List (Option ScrubRow)) (turns : List Turn) (i : ℕ) → AreTied rows turns → i ≤ length turns → length (ranked (map of (gathered rows (take i turns)))) ≡ i
taken_number of rows turns i tied within =
    length-ranked (map of (gathered rows (take i turns))) ∙ length-map (gathered rows (take i turns)) of
    ∙ length-gathered rows (take i turns) (each_take (IsTied rows) i turns tied) ∙ length-take-le i turns within

ranked_more : (of : PlacedScrub → Rank) (rows : List (Option ScrubRow)) (turns : List Turn) (i : ℕ) (turn : Turn) (row : ScrubRow) → AreTied rows turns → i < length turns → turn ≡ get_or turns i turn
    → in_slot rows turn.slot ≡ Some row
    → with_rank (of (scrub_of turn row)) (ranked (map of (gathered rows (take i turns)))) ≡ ranked (map of (gathered rows (take (suc i) turns)))
ranked_more of rows [] i turn row tied within is has = absurd (omega (arith, within))
ranked_more of rows (y ∷ turns) zero turn row tied within is has =
    sym (ap (λ r. ranked (map of (added turn r []))) has) ∙ ap (λ (k : Turn). ranked (map of (added k (in_slot rows k.slot) []))) is
ranked_more of rows (y ∷ turns) (suc i) turn row tied within is has =
    ap (λ hs. with_rank (of (scrub_of turn row)) (ranked (map of hs))) (one_tied rows y (take i turns) tied.0)
    ∙ commutes (of (scrub_of turn row)) (of (scrub_of y tied.0.row)) (ranked (map of (gathered rows (take i turns))))
    ∙ ap (with_rank (of (scrub_of y tied.0.row))) (ranked_more of rows turns i turn row tied.1 (omega (arith, within)) is has)
    ∙ sym (ap (λ hs. ranked (map of hs)) (one_tied rows y (take (suc i) turns) tied.0))

pub ranked_next : (of : PlacedScrub → Rank) (rows : List (Option ScrubRow)) (turns : List Turn) (i : ℕ) (d : Turn) (row : ScrubRow) → AreTied rows turns → i < length turns → in_slot rows (get_or turns i d).slot ≡ Some row
    → with_rank (of (scrub_of (get_or turns i d) row)) (ranked (map of (gathered rows (take i turns)))) ≡ ranked (map of (gathered rows (take (suc i) turns)))
ranked_next of rows turns i d row tied within has = ranked_more of rows turns i (get_or turns i d) row tied within (default_same turns i d within) has
