-- Maps whose keys are numbers, as the lists of their fields in ascending order of the keys, which is the deterministic one
-- (RFC 8949, section 4.2.1).
use Rattle.std.specs.Prelude.{ℕ, ℤ, pos, negsuc, List, [], ◌∷◌, Option, Some, None}
use Rattle.cbor_profile.specs.Tree.{Tree, unsigned, negative, array, mapping, items_of, pairs_of}

-- a field, by its key and its value
abbrev pub field : ℕ → Tree → List (Tree × Tree)
field key value = (unsigned key, value) ∷ []

-- an array is a field only where it has an item
abbrev pub listed : ℕ → List Tree → List (Tree × Tree)
listed key [] = []
listed key (t ∷ ts) = field key (array (items_of (t ∷ ts)))

-- a number is a field only where there is one
abbrev pub numbered : ℕ → Option ℕ → List (Tree × Tree)
numbered key None = []
numbered key (Some n) = field key (unsigned n)

abbrev pub map_of : List (Tree × Tree) → Tree
map_of fields = mapping (pairs_of fields)

-- a map of one field
abbrev pub sole : ℕ → Tree → Tree
sole key value = map_of (field key value)

-- a whole number
abbrev pub integer : ℤ → Tree
integer (pos n) = unsigned n
integer (negsuc n) = negative n
