-- What an item of each kind holds.
use Rattle.std.specs.Prelude.{ℕ, Option, Some, None, List}
use Rattle.cbor_profile.specs.Tree.{Tree, unsigned, text, array, mapping, Trees, Pairs}

abbrev pub number_in : Tree → Option ℕ
number_in (unsigned n) = Some n
number_in other = None

abbrev pub text_in : Tree → Option (List ℕ)
text_in (text bytes) = Some bytes
text_in other = None

abbrev pub items_in : Tree → Option Trees
items_in (array ts) = Some ts
items_in other = None

abbrev pub pairs_in : Tree → Option Pairs
pairs_in (mapping ps) = Some ps
pairs_in other = None
