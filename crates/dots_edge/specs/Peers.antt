-- Whose an address is.
use Rattle.std.specs.Prelude.{ℕ, ◌==◌, if◌then◌else◌, List, [], ◌∷◌, Option, Some, unwrap_or}
use Rattle.dots_edge.specs.HostLine.{LineValue, key_of, peer_line}

-- the peer whose address has the key, by the lines behind those that said this; a later line counts before an earlier one
abbrev pub whose : Option ℕ → List LineValue → ℕ → Option ℕ
whose said [] key = said
whose said (peer_line number address port ∷ values) key = whose (if key_of address == key then Some number else said) values key
whose said (value ∷ values) key = whose said values key

-- the number of a peer, or that of strangers
abbrev pub or_stranger : Option ℕ → ℕ
or_stranger found = unwrap_or found 4294967295
