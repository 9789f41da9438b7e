-- Several orders of slots, each slot in one of them at most.
use Rattle.std.specs.Prelude.{◌≡◌, ℕ, zero, suc, ◌+◌, ◌-◌, ◌<◌, ◌≤◌, List, [], ◌∷◌, ◌++◌, length, slice_index_or}
use Rattle.coap_observe.specs.declared.rings.Ring.{Ring}
use Rattle.coap_observe.specs.Links.{walk, Linked, Each, Apart, Distinct}
use Rattle.coap_observe.specs.Orders.{without}

-- the slots of one order, and the number from which one comes to the first of them
pub record RingValue : Type 0 where
  pub start : ℕ
  pub slots : List ℕ

-- the orders, of slots below the room
pub record RingsValue : Type 0 where
  pub room : ℕ
  pub rings : List RingValue

abbrev pub ring_at : ℕ → List RingValue → RingValue
ring_at place rings = slice_index_or rings place (record { start = 0; slots = [] })

-- so many orders without slots, which begin at the numbers from this one on
abbrev pub begun : ℕ → ℕ → List RingValue
begun start zero = []
begun start (suc count) = (record { start = start; slots = [] }) ∷ begun (suc start) count

-- the one at a place becomes another
abbrev pub with_ring : {A : Type 0} → ℕ → (A → A) → List A → List A
with_ring place becomes [] = []
with_ring zero becomes (ring ∷ rings) = becomes ring ∷ rings
with_ring (suc place) becomes (ring ∷ rings) = ring ∷ with_ring place becomes rings

abbrev pub one_more : ℕ → RingValue → RingValue
one_more slot ring = record { start = ring.start; slots = ring.slots ++ slot ∷ [] }

abbrev pub one_less : ℕ → RingValue → RingValue
one_less slot ring = record { start = ring.start; slots = without slot ring.slots }

-- the slot is in none of them
abbrev pub IsOutside : ℕ → List RingValue → Type 0
IsOutside slot [] = Unit {0}
IsOutside slot (ring ∷ rings) = Apart slot ring.slots × IsOutside slot rings

-- ---- by their links

abbrev pub slots_of : List ℕ → Ring → List ℕ
slots_of behind ring = walk ring.count behind ring.start

abbrev pub ring_of : List ℕ → Ring → RingValue
ring_of behind ring = record { start = ring.start; slots = slots_of behind ring }

abbrev pub counted : Ring → Ring
counted ring = record { start = ring.start; count = ring.count + 1 }

abbrev pub discounted : Ring → Ring
discounted ring = record { start = ring.start; count = ring.count - 1 }

-- so many numbers from one on
abbrev pub numbers_from : ℕ → ℕ → List ℕ
numbers_from start zero = []
numbers_from start (suc count) = start ∷ numbers_from (suc start) count

abbrev pub rings_from : ℕ → ℕ → List Ring
rings_from start zero = []
rings_from start (suc count) = (record { start = start; count = 0 }) ∷ rings_from (suc start) count

-- where each begins, with its slots
abbrev pub nodes_of : List ℕ → Ring → List ℕ
nodes_of behind ring = ring.start ∷ slots_of behind ring

abbrev pub nodes : List ℕ → List Ring → List ℕ
nodes behind [] = []
nodes behind (ring ∷ rings) = nodes_of behind ring ++ nodes behind rings

abbrev pub IsLinked : List ℕ → List ℕ → Ring → Type 0
IsLinked behind before ring = Linked behind before ring.start (slots_of behind ring) ring.start

abbrev pub AreLinked : List ℕ → List ℕ → List Ring → Type 0
AreLinked behind before [] = Unit {0}
AreLinked behind before (ring ∷ rings) = IsLinked behind before ring × AreLinked behind before rings

abbrev pub StartBehind : ℕ → List Ring → Type 0
StartBehind room [] = Unit {0}
StartBehind room (ring ∷ rings) = (room ≤ ring.start) × StartBehind room rings

-- Each is linked in a ring with the number at which it begins, no number is in two of them, and the slots are below the room.
pub record AreRings (behind before : List ℕ) (rings : List Ring) (room : ℕ) : Type 0 where
  pub linked : AreLinked behind before rings
  pub distinct : Distinct (nodes behind rings)
  pub below : Each (λ x. x < length behind) (nodes behind rings)
  pub starts : StartBehind room rings
  pub size : length before ≡ length behind
  pub wide : room ≤ length behind
