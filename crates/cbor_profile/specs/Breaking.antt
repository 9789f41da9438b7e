-- The first fault, from left to right, of bytes that don't begin with a spelled item, and its place. On one byte
-- the order is Reserved, Unsupported, Deep, and then Short for what follows it.
use Rattle.std.specs.Prelude.{◌≡◌, ◌≢◌, ◌<◌, ◌≤◌, ◌⊎◌, ℕ, zero, suc, ◌+◌, ◌*◌, ◌-◌, ◌%◌, List, [], ◌∷◌, ◌++◌, length, IsUtf8}
use Rattle.std.specs.Int.{byte_len}
use Rattle.cbor_profile.specs.declared.fault.CborFault.{CborFault}
use Rattle.cbor_profile.specs.declared.fault.CborFault.TheVariants.{Short, Reserved, NotUtf8, Duplicate, Unsupported, Deep, Trailing}
use Rattle.cbor_profile.specs.Tree.{Tree, Trees, count}
use Rattle.cbor_profile.specs.Spelling.{width, IsHead, begin, break, AreParts, SpellsItems, SpellsPairs, SpellsWithin, Spells}

-- Below, at is the place of the bytes in the input, which they are the end of: so at + length bytes is where the input ends.

-- ---- what the first byte of an item says

-- It means nothing (RFC 8949, sections 3 and 3.2.1): additional information 28 to 30, an indefinite length of what
-- has none, and the end of an indefinite length where none can end.
pub data IsReserved (first : ℕ) : Type 0 where
  information : 28 ≤ first % 32 → first % 32 ≤ 30 → IsReserved first
  unsigned : first ≡ begin 0 → IsReserved first
  negative : first ≡ begin 1 → IsReserved first
  tag : first ≡ begin 6 → IsReserved first
  ending : first ≡ break → IsReserved first

-- Simple values other than false, true and null, and floats (section 3.3).
pub data IsUnsupported (first : ℕ) : Type 0 where
  simple : 0xe0 ≤ first → first ≤ 0xf3 → IsUnsupported first
  undefined : first ≡ 0xf7 → IsUnsupported first
  wide : 0xf8 ≤ first → first ≤ 0xfb → IsUnsupported first

-- An array, a map or a tag begins.
pub data IsNesting (first : ℕ) : Type 0 where
  definite : (major info : ℕ) → 4 ≤ major → major ≤ 6 → info < 28 → first ≡ 32 * major + info → IsNesting first
  array : first ≡ begin 4 → IsNesting first
  mapping : first ≡ begin 5 → IsNesting first

-- ---- items without parts

-- What follows the initial byte is shorter than the argument.
pub record IsCut (major : ℕ) (bytes : List ℕ) : Type 0 where
  pub info : ℕ
  pub more : List ℕ
  pub least : 24 ≤ info
  pub most : info < 28
  pub is : bytes ≡ (32 * major + info) ∷ more
  pub short : length more < byte_len (width info)

-- a string of definite length, which begins the bytes
pub data BreaksString (major at : ℕ) (bytes : List ℕ) (fault : CborFault) : Type 0 where
  argument : IsCut major bytes → fault ≡ Short (at + length bytes) → BreaksString major at bytes fault
  content : (n : ℕ) (head more : List ℕ) → IsHead major n head → bytes ≡ head ++ more → length more < n → fault ≡ Short (at + length bytes) → BreaksString major at bytes fault
  utf8 : (head string more : List ℕ) → IsHead major (length string) head → bytes ≡ head ++ (string ++ more) → major ≡ 3 → ¬ (IsUtf8 string) → fault ≡ NotUtf8 at
      → BreaksString major at bytes fault

-- the next part of a string of indefinite length
pub data BreaksPart (major at : ℕ) (bytes : List ℕ) (fault : CborFault) : Type 0 where
  short : bytes ≡ [] → fault ≡ Short at → BreaksPart major at bytes fault
  other : (first : ℕ) (more : List ℕ) → bytes ≡ first ∷ more → first ≢ break → ((info : ℕ) → info < 28 → first ≢ 32 * major + info) → fault ≡ Reserved at → BreaksPart major at bytes fault
  part : BreaksString major at bytes fault → BreaksPart major at bytes fault

-- major types 0 and 1, and 2 and 3
abbrev pub IsNumber : ℕ → Type 0
IsNumber major = (major ≡ 0) ⊎ (major ≡ 1)

abbrev pub IsStringType : ℕ → Type 0
IsStringType major = (major ≡ 2) ⊎ (major ≡ 3)

pub data BreaksPlain (at : ℕ) (bytes : List ℕ) (fault : CborFault) : Type 0 where
  short : bytes ≡ [] → fault ≡ Short at → BreaksPlain at bytes fault
  reserved : (first : ℕ) (more : List ℕ) → bytes ≡ first ∷ more → IsReserved first → fault ≡ Reserved at → BreaksPlain at bytes fault
  unsupported : (first : ℕ) (more : List ℕ) → bytes ≡ first ∷ more → IsUnsupported first → fault ≡ Unsupported at → BreaksPlain at bytes fault
  number : (major : ℕ) → IsNumber major → IsCut major bytes → fault ≡ Short (at + length bytes) → BreaksPlain at bytes fault
  string : (major : ℕ) → IsStringType major → BreaksString major at bytes fault → BreaksPlain at bytes fault
  parts : (major : ℕ) (parts : List (List ℕ)) (string content more : List ℕ) → IsStringType major → AreParts major parts string content → bytes ≡ begin major ∷ (content ++ more)
      → BreaksPart major (at + 1 + length content) more fault → BreaksPlain at bytes fault

-- ---- arrays, maps and tags

-- Behind count parts one more must come: the head says so, or the length is indefinite and doesn't end here.
pub data GoesOn (major count : ℕ) (opening more : List ℕ) : Type 0 where
  definite : (n : ℕ) → count < n → IsHead major n opening → GoesOn major count opening more
  indefinite : opening ≡ begin major ∷ [] → ((rest : List ℕ) → more ≢ break ∷ rest) → GoesOn major count opening more

abbrev pub HasKey : List (Tree × Tree) → Tree → Type 0
HasKey [] key = ⊥
HasKey (p ∷ ps) key = (p.0 ≡ key) ⊎ HasKey ps key

-- No key is the same item as another, however the two are spelled.
abbrev pub AreDistinct : List (Tree × Tree) → Type 0
AreDistinct [] = Unit {0}
AreDistinct (p ∷ ps) = (¬ (HasKey ps p.0)) × AreDistinct ps

-- Below, Part says which bytes spell an item that is a part, and Break which fault they have at their place.

-- the next key and its value, behind the pairs that were read
pub data BreaksPair (Part : List ℕ → Tree → Type 0) (Break : ℕ → List ℕ → CborFault → Type 0) (read : List (Tree × Tree)) (at : ℕ) (bytes : List ℕ) (fault : CborFault) : Type 0 where
  key : Break at bytes fault → BreaksPair Part Break read at bytes fault
  duplicate : (key : Tree) (front more : List ℕ) → bytes ≡ front ++ more → Part front key → HasKey read key → fault ≡ Duplicate at → BreaksPair Part Break read at bytes fault
  value : (key : Tree) (front more : List ℕ) → bytes ≡ front ++ more → Part front key → ¬ (HasKey read key) → Break (at + length front) more fault → BreaksPair Part Break read at bytes fault

pub data BreaksNest (Part : List ℕ → Tree → Type 0) (Break : ℕ → List ℕ → CborFault → Type 0) (at : ℕ) (bytes : List ℕ) (fault : CborFault) : Type 0 where
  argument : (major : ℕ) → 4 ≤ major → major ≤ 6 → IsCut major bytes → fault ≡ Short (at + length bytes) → BreaksNest Part Break at bytes fault
  item : (ts : Trees) (opening content more : List ℕ) → GoesOn 4 (count ts) opening more → bytes ≡ opening ++ (content ++ more) → SpellsItems Part content ts
      → Break (at + length opening + length content) more fault → BreaksNest Part Break at bytes fault
  pair : (read : List (Tree × Tree)) (opening content more : List ℕ) → GoesOn 5 (length read) opening more → bytes ≡ opening ++ (content ++ more) → SpellsPairs Part content read → AreDistinct read
      → BreaksPair Part Break read (at + length opening + length content) more fault → BreaksNest Part Break at bytes fault
  tagged : (n : ℕ) (head more : List ℕ) → IsHead 6 n head → bytes ≡ head ++ more → Break (at + length head) more fault → BreaksNest Part Break at bytes fault

-- ---- items

-- an array, a map or a tag where none may stand
pub record IsDeep (at : ℕ) (bytes : List ℕ) (fault : CborFault) : Type 0 where
  pub first : ℕ
  pub more : List ℕ
  pub is : bytes ≡ first ∷ more
  pub nesting : IsNesting first
  pub fault_is : fault ≡ Deep at

-- where an item that nests at most levels deep must begin
unfoldable pub BreaksWithin : ℕ → ℕ → List ℕ → CborFault → Type 0
BreaksWithin zero at bytes fault = BreaksPlain at bytes fault ⊎ IsDeep at bytes fault
BreaksWithin (suc levels) at bytes fault = BreaksPlain at bytes fault ⊎ BreaksNest (SpellsWithin levels) (BreaksWithin levels) at bytes fault

-- where an item that stands inside d others, of which there are at most 16, must begin
abbrev pub Breaks : List ℕ → ℕ → CborFault → Type 0
Breaks bytes d fault = (d ≤ 16) × BreaksWithin (16 - d) 0 bytes fault

-- Bytes stand behind the item that begins them.
pub record IsTrailing (bytes : List ℕ) (fault : CborFault) : Type 0 where
  pub tree : Tree
  pub front : List ℕ
  pub next : ℕ
  pub more : List ℕ
  pub spelled : Spells front tree 0
  pub is : bytes ≡ front ++ (next ∷ more)
  pub fault_is : fault ≡ Trailing (length front)

-- why bytes aren't a spelled item, all of them
abbrev pub Refuses : List ℕ → CborFault → Type 0
Refuses bytes fault = Breaks bytes 0 fault ⊎ IsTrailing bytes fault
