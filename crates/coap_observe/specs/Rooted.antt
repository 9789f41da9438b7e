-- What a tree of spots is by its root.
use Rattle.std.specs.Prelude.{◌≡◌, ℕ, List, [], ◌∷◌, ◌++◌, length, Option, None, Some, Box}
use Rattle.std.specs.Global.{Global}
use Rattle.coap_observe.specs.declared.spots.Fork.{Fork}
use Rattle.coap_observe.specs.Spots.{filled}

-- the spots before the root, that of the root, and those behind it
abbrev pub spots_of : Option (Box Fork Global) → List (Option ℕ)
spots_of None = []
spots_of (Some root) = root.value.left ++ root.value.slot ∷ root.value.right

-- the root knows how many spots there are, and how many slots
abbrev pub IsCounted : Option (Box Fork Global) → Type 0
IsCounted None = Unit {0}
IsCounted (Some root) = (root.value.width ≡ length (spots_of (Some root))) × (root.value.count ≡ length (filled (spots_of (Some root))))
