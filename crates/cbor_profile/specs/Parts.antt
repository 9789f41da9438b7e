-- The parts of an encoding: its major type, its argument and its content, which follows the head.
use Rattle.std.specs.Prelude.{ℕ, true, false, List, [], length}
use Rattle.cbor_profile.specs.declared.major.Major.{Major}
use Rattle.cbor_profile.specs.declared.major.Major.TheVariants as major_type
use Rattle.cbor_profile.specs.Tree.{Tree, unsigned, negative, byte_string, text, array, mapping, tag, boolean, null, count, pair_count}
use Rattle.cbor_profile.specs.Canon.{canon, canon_items, canon_pairs}

-- the number of a major type (RFC 8949, section 3.1)
abbrev pub number_of : Major → ℕ
number_of major_type.Unsigned = 0
number_of major_type.Negative = 1
number_of major_type.Bytes = 2
number_of major_type.Text = 3
number_of major_type.Array = 4
number_of major_type.Map = 5
number_of major_type.Tag = 6
number_of major_type.Simple = 7

abbrev pub major : Tree → Major
major (unsigned n) = major_type.Unsigned
major (negative n) = major_type.Negative
major (byte_string bytes) = major_type.Bytes
major (text bytes) = major_type.Text
major (array ts) = major_type.Array
major (mapping ps) = major_type.Map
major (tag n t) = major_type.Tag
major (boolean b) = major_type.Simple
major null = major_type.Simple

abbrev pub argument : Tree → ℕ
argument (unsigned n) = n
argument (negative n) = n
argument (byte_string bytes) = length bytes
argument (text bytes) = length bytes
argument (array ts) = count ts
argument (mapping ps) = pair_count ps
argument (tag n t) = n
argument (boolean false) = 20
argument (boolean true) = 21
argument null = 22

abbrev pub content : Tree → List ℕ
content (unsigned n) = []
content (negative n) = []
content (byte_string bytes) = bytes
content (text bytes) = bytes
content (array ts) = canon_items ts
content (mapping ps) = canon_pairs ps
content (tag n t) = canon t
content (boolean b) = []
content null = []
