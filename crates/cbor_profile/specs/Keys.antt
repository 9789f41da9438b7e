-- The keys of pairs, in the bytewise order of their encodings (RFC 8949, section 4.2.1).
use Rattle.std.specs.Prelude.{Bool, true, false, List, [], ◌∷◌, if◌then◌else◌}
use Rattle.std.specs.Ordering.{nat_cmp, is_lt, is_eq}
use Rattle.std.specs.declared.cmp.Ordering.{Ordering}
use Rattle.std.specs.Cmp.Lexicographic.{slice_cmp}
use Rattle.cbor_profile.specs.Tree.{Tree}
use Rattle.cbor_profile.specs.Canon.{canon}

abbrev pub key_order : Tree → Tree → Ordering
key_order a b = slice_cmp nat_cmp (canon a) (canon b)

abbrev pub has_key : Tree → List (Tree × Tree) → Bool
has_key key [] = false
has_key key (p ∷ ps) = if is_eq (key_order p.0 key) then true else has_key key ps

-- a pair in front of the first greater key
abbrev pub put : Tree → Tree → List (Tree × Tree) → List (Tree × Tree)
put key value [] = (key, value) ∷ []
put key value (p ∷ ps) = if is_lt (key_order p.0 key) then p ∷ put key value ps else (key, value) ∷ p ∷ ps
