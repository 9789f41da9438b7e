-- When bytes spell an item, in any of the forms that RFC 8949 has for it: longer arguments, indefinite lengths
-- and strings in parts included.
use Rattle.std.specs.Prelude.{◌≡◌, ◌<◌, ◌≤◌, ◌⊎◌, ℕ, zero, suc, ◌+◌, ◌*◌, ◌-◌, true, false, List, [], ◌∷◌, ◌++◌, length, IsUtf8, IsPermutation, ◌==◌, if◌then◌else◌}
use Rattle.std.specs.Int.{Width, w8, w16, w32, w64, byte_len, from_be_bytes}
use Rattle.cbor_profile.specs.Tree.{Tree, unsigned, negative, byte_string, text, array, mapping, tag, boolean, null, Trees, no_items, item, Pairs, count, pairs_of}
use Rattle.cbor_profile.specs.Valid.{KeysRise}

-- ---- heads (RFC 8949, section 3)

-- Additional information 24, 25, 26 and 27: the argument follows in 1, 2, 4 or 8 bytes.
abbrev pub width : ℕ → Width
width info = if info == 24 then w8 else if info == 25 then w16 else if info == 26 then w32 else w64

-- the argument n of the additional information and the bytes that follow the initial byte
pub data IsArgument (info n : ℕ) (following : List ℕ) : Type 0 where
  itself : info < 24 → n ≡ info → following ≡ [] → IsArgument info n following
  follows : 24 ≤ info → info < 28 → length following ≡ byte_len (width info) → n ≡ from_be_bytes (width info) following → IsArgument info n following

-- A head: the initial byte has the major type in its high 3 bits and the additional information in its low 5.
pub record IsHead (major n : ℕ) (head : List ℕ) : Type 0 where
  pub info : ℕ
  pub following : List ℕ
  pub argument : IsArgument info n following
  pub is : head ≡ (32 * major + info) ∷ following

-- the initial byte of an indefinite length, and the byte that ends it (section 3.2)
abbrev pub begin : ℕ → ℕ
begin major = 32 * major + 31

abbrev pub break : ℕ
break = 255

-- ---- strings

-- What stands in a text, major type 3, is UTF-8 (section 3.1).
abbrev pub Fits : ℕ → List ℕ → Type 0
Fits major string = major ≡ 3 → IsUtf8 string

-- a string of definite length
pub record IsString (major : ℕ) (string bytes : List ℕ) : Type 0 where
  pub head : List ℕ
  pub counted : IsHead major (length string) head
  pub fits : Fits major string
  pub is : bytes ≡ head ++ string

-- parts of definite length one after the other, which together are the string (section 3.2.3)
abbrev pub AreParts : ℕ → List (List ℕ) → List ℕ → List ℕ → Type 0
AreParts major [] string bytes = (string ≡ []) × (bytes ≡ [])
AreParts major (part ∷ parts) string bytes =
    (front : List ℕ) × (more : List ℕ) × (others : List ℕ) × (string ≡ part ++ others) × (bytes ≡ front ++ more)
    × IsString major part front × AreParts major parts others more

-- a string in either form
pub data SpellsString (major : ℕ) (string bytes : List ℕ) : Type 0 where
  definite : IsString major string bytes → SpellsString major string bytes
  indefinite : (parts : List (List ℕ)) (content : List ℕ) → AreParts major parts string content → bytes ≡ begin major ∷ (content ++ break ∷ []) → SpellsString major string bytes

-- ---- arrays and maps

-- bytes hold count parts: their content behind a head, or between the bytes of an indefinite length (section 3.2.2)
pub data Encloses (major count : ℕ) (content bytes : List ℕ) : Type 0 where
  definite : (head : List ℕ) → IsHead major count head → bytes ≡ head ++ content → Encloses major count content bytes
  indefinite : bytes ≡ begin major ∷ (content ++ break ∷ []) → Encloses major count content bytes

-- Below, Part says which bytes spell an item that is a part.

-- items one after the other
abbrev pub SpellsItems : (List ℕ → Tree → Type 0) → List ℕ → Trees → Type 0
SpellsItems Part bytes no_items = bytes ≡ []
SpellsItems Part bytes (item t ts) = (front : List ℕ) × (more : List ℕ) × (bytes ≡ front ++ more) × Part front t × SpellsItems Part more ts

-- keys and values one after the other
abbrev pub SpellsPairs : (List ℕ → Tree → Type 0) → List ℕ → List (Tree × Tree) → Type 0
SpellsPairs Part bytes [] = bytes ≡ []
SpellsPairs Part bytes (p ∷ ps) =
    (key : List ℕ) × (value : List ℕ) × (more : List ℕ) × (bytes ≡ key ++ (value ++ more)) × Part key p.0 × Part value p.1 × SpellsPairs Part more ps

-- A map has the pairs that were read, in the order of their keys' deterministic encodings. The keys rise, so no two are the same item.
pub record IsInOrder (read : List (Tree × Tree)) (pairs : Pairs) : Type 0 where
  pub sorted : List (Tree × Tree)
  pub same : IsPermutation read sorted
  pub is : pairs ≡ pairs_of sorted
  pub rise : KeysRise pairs

-- ---- items

-- an item that has no parts
abbrev pub SpellsPlain : List ℕ → Tree → Type 0
SpellsPlain bytes (unsigned n) = IsHead 0 n bytes
SpellsPlain bytes (negative n) = IsHead 1 n bytes
SpellsPlain bytes (byte_string string) = SpellsString 2 string bytes
SpellsPlain bytes (text string) = SpellsString 3 string bytes
SpellsPlain bytes (array ts) = ⊥
SpellsPlain bytes (mapping ps) = ⊥
SpellsPlain bytes (tag n t) = ⊥
SpellsPlain bytes (boolean false) = bytes ≡ 0xf4 ∷ []
SpellsPlain bytes (boolean true) = bytes ≡ 0xf5 ∷ []
SpellsPlain bytes null = bytes ≡ 0xf6 ∷ []

-- an array, a map or a tagged item
abbrev pub SpellsNest : (List ℕ → Tree → Type 0) → List ℕ → Tree → Type 0
SpellsNest Part bytes (unsigned n) = ⊥
SpellsNest Part bytes (negative n) = ⊥
SpellsNest Part bytes (byte_string string) = ⊥
SpellsNest Part bytes (text string) = ⊥
SpellsNest Part bytes (array ts) = (content : List ℕ) × Encloses 4 (count ts) content bytes × SpellsItems Part content ts
SpellsNest Part bytes (mapping ps) =
    (content : List ℕ) × (read : List (Tree × Tree)) × Encloses 5 (length read) content bytes × SpellsPairs Part content read × IsInOrder read ps
SpellsNest Part bytes (tag n t) = (head : List ℕ) × (content : List ℕ) × IsHead 6 n head × (bytes ≡ head ++ content) × Part content t
SpellsNest Part bytes (boolean b) = ⊥
SpellsNest Part bytes null = ⊥

-- an item that nests at most levels deep
unfoldable pub SpellsWithin : ℕ → List ℕ → Tree → Type 0
SpellsWithin zero bytes tree = SpellsPlain bytes tree
SpellsWithin (suc levels) bytes tree = SpellsPlain bytes tree ⊎ SpellsNest (SpellsWithin levels) bytes tree

-- an item that stands inside d others, of which there are at most 16
abbrev pub Spells : List ℕ → Tree → ℕ → Type 0
Spells bytes tree d = (d ≤ 16) × SpellsWithin (16 - d) bytes tree
