-- What a grant says (RFC 9132, section 4.4.1.3).
use Rattle.std.specs.Prelude.{◌≡◌, ◌^◌, ◌<◌, ◌≤◌, ℤ, pos, negsuc, [], ◌∷◌}
use Rattle.cbor_profile.specs.Tree.{Tree, array, items_of}

-- a lifetime that can be granted: 1 to 2^31 - 1 seconds, or an indefinite one, which is -1
abbrev pub IsGranted : ℤ → Type 0
IsGranted (pos n) = (1 ≤ n) × (n < 2 ^ 31)
IsGranted (negsuc n) = n ≡ 0

-- an array of one
abbrev pub only_of : Tree → Tree
only_of tree = array (items_of (tree ∷ []))
