-- The slots of the entries that a compaction keeps for the messages that are remembered, and for the last entry.
use Rattle.std.specs.Prelude.{◌≡◌, ℕ, ◌+◌, Bool, not, if◌then◌else◌, List, [], ◌∷◌, ◌++◌, map, filter, Option, Some, None, option_to_list}
use Rattle.dots_history.specs.declared.entry.Entry.{Entry}
use Rattle.dots_history.specs.Entries.{signals}
use Rattle.dots_history.specs.Histories.{Mitigation, or_else}
use Rattle.dots_history.specs.Keeping.{names, pass, kept_places}
use Rattle.dots_history.specs.Places.{lasts}
use Rattle.dots_history.specs.Filed.{Filed, entry_of, slot_of}
use Rattle.dots_history.specs.KeptPlaces.{at_places}
use Rattle.coap_exchange.specs.declared.pair.Pair.{Pair}
use Rattle.coap_exchange.specs.Rings.{RingValue, slots_of, all_slots}
use Rattle.live_mitigations.specs.Rows.{LiveTable}
use Rattle.live_mitigations.specs.LiveValues.{SlotsAre}
use Rattle.live_mitigations.specs.Numbers.{all_numbers}
use Rattle.held_resources.specs.declared.row.HeldSlot.{HeldSlot}
use Rattle.held_resources.specs.Rows.{HeldRows, rows_of, slots_in}

-- a signal entry of this peer and domain
abbrev pub is_from : Pair → Filed → Bool
is_from pair x = signals pair.peer pair.domain x.entry

-- Each ring has the slots of the last n signal entries of its peer and domain, in a history whose entries stand in slots; of
-- two rings of one peer and domain the first has them.
abbrev pub RingsAre : ℕ → List RingValue → List Filed → Type 0
RingsAre n [] filed = Unit {0}
RingsAre n (ring ∷ rings) filed =
    (ring.room ≡ n)
    × (slots_of ring.messages ≡ lasts n (map slot_of (filter (is_from ring.pair) filed)))
    × RingsAre n rings (filter (λ x. not (is_from ring.pair x)) filed)

-- the slot of the last entry
abbrev pub last_slot : List Filed → Option ℕ
last_slot [] = None
last_slot (x ∷ later) = or_else (last_slot later) (Some x.slot)

-- all slots that are kept: of the live mitigations, in the rings, that of the last entry, and of what is held
abbrev pub kept_slots : List LiveTable → List RingValue → Option ℕ → List HeldSlot → List ℕ
kept_slots tables rings last rows = all_numbers tables ++ (all_slots rings ++ (option_to_list last ++ slots_in rows))

-- what is kept of slots but for those in the rings: with the live mitigations of each domain, with what is held, and of the last entry
pub record KeptValue : Type 0 where
  pub tables : List LiveTable
  pub rows : HeldRows
  pub last : Option ℕ

-- At this time they are those of a history whose entries stand in slots, and so are those in the rings, each of which has room for n
-- messages.
pub record AreOf (n t : ℕ) (slots : KeptValue) (rings : List RingValue) (filed : List Filed) : Type 0 where
  pub live : SlotsAre t slots.tables filed
  pub messages : RingsAre n rings filed
  pub last : slots.last ≡ last_slot filed
  pub rows : slots.rows.rows ≡ rows_of filed

-- ---- what a compaction leaves

-- the entries that a test keeps, which sees those before each and those after it
abbrev pub filed_kept_by : (List Mitigation → Entry → List Entry → Bool) → List Mitigation → List Filed → List Filed
filed_kept_by keep passed [] = []
filed_kept_by keep passed (x ∷ later) =
    if keep passed x.entry (map entry_of later) then x ∷ filed_kept_by keep (pass passed x.entry) later
    else filed_kept_by keep (pass passed x.entry) later

-- the entries that the view names, in order
abbrev pub filed_kept : ℕ → ℕ → List Filed → List Filed
filed_kept n t filed = filed_kept_by (names n t) [] filed

-- the slots in which they stand
abbrev pub named_slots : ℕ → ℕ → List Filed → List ℕ
named_slots n t filed = at_places (map slot_of filed) (kept_places (names n t) [] 0 (map entry_of filed))

-- entries in the slots from this one on, in order
abbrev pub filed_from : ℕ → List Entry → List Filed
filed_from slot [] = []
filed_from slot (e ∷ later) = record { entry = e; slot = slot } ∷ filed_from (slot + 1) later

-- entries in the first slots
abbrev pub filed : List Entry → List Filed
filed entries = filed_from 0 entries

-- all slots, with those in the rings
abbrev pub all_kept : KeptValue → List RingValue → List ℕ
all_kept slots rings = kept_slots slots.tables rings slots.last slots.rows.rows
