-- Slots in an order, each at a position in a row of spots.
use Rattle.std.specs.Prelude.{◌≡◌, ℕ, zero, suc, ◌<◌, ◌≤◌, List, [], ◌∷◌, length, slice_index_or, Option, None, Some}
use Rattle.coap_observe.specs.Links.{Each, Distinct}
use Rattle.coap_observe.specs.Spots.{filled}

-- the slots in their order, which are below a room; how many positions there are, and how many of them were given
pub record PlacesValue : Type 0 where
  pub room : ℕ
  pub width : ℕ
  pub given : ℕ
  pub slots : List ℕ

-- no slot stands at this position or behind it
abbrev pub IsFreeFrom : ℕ → List (Option ℕ) → Type 0
IsFreeFrom position [] = Unit {0}
IsFreeFrom zero (spot ∷ spots) = (spot ≡ None) × IsFreeFrom zero spots
IsFreeFrom (suc position) (spot ∷ spots) = IsFreeFrom position spots

-- the slot has a position, and stands there
abbrev pub IsPlaced : List (Option ℕ) → List ℕ → ℕ → Type 0
IsPlaced spots positions slot = (slot < length positions) × (slice_index_or spots (slice_index_or positions slot 0) None ≡ Some slot)

-- each slot stands at its position, once, and none behind those that were given
pub record ArePlaced (spots : List (Option ℕ)) (positions : List ℕ) (given : ℕ) : Type 0 where
  pub within : given ≤ length spots
  pub free : IsFreeFrom given spots
  pub placed : Each (IsPlaced spots positions) (filled spots)
  pub distinct : Distinct (filled spots)
