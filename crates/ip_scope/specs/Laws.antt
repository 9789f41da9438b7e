-- What the definitions of prefixes and of their text come to.
use Rattle.std.specs.Prelude.{◌≡◌, ℕ, ◌+◌, ◌^◌, ◌<◌, ◌≤◌, ◌⊎◌, List, ◌++◌, length, take, drop, replicate, codes, IsTrue}
use Rattle.std.specs.Net.Text.{groups_text}
use Rattle.ip_scope.specs.declared.family.Family.{Family}
use Rattle.ip_scope.specs.Family.{width}
use Rattle.ip_scope.specs.Prefix.{PrefixValue, holds}

-- an address is in both prefixes
pub record SharesAddress (a b : PrefixValue) : Type 0 where
  pub family : Family
  pub number : ℕ
  pub fits : number < 2 ^ width family
  pub in_first : IsTrue (holds a family number)
  pub in_second : IsTrue (holds b family number)

-- each address of the first is one of the second
abbrev pub IsCovered : PrefixValue → PrefixValue → Type 0
IsCovered a b = (family : Family) (number : ℕ) → number < 2 ^ width family → IsTrue (holds a family number) → IsTrue (holds b family number)

-- the groups from start on, len of them, are zero
pub record IsZeroRun (groups : List ℕ) (start len : ℕ) : Type 0 where
  pub within : start + len ≤ length groups
  pub zeros : take len (drop start groups) ≡ replicate len 0

-- `::` in place of a run of two zero groups or more, as long as any and the first of that length (RFC 5952, section 4.2)
pub record IsShortened (groups text : List ℕ) : Type 0 where
  pub start : ℕ
  pub len : ℕ
  pub two : 2 ≤ len
  pub run : IsZeroRun groups start len
  pub longest : (other more : ℕ) → IsZeroRun groups other more → more ≤ len
  pub first : (other : ℕ) → IsZeroRun groups other len → start ≤ other
  pub spelled : text ≡ groups_text (take start groups) ++ codes "::" ++ groups_text (drop (start + len) groups)

-- no two zero groups stand side by side, and each group is written
pub record IsUnshortened (groups text : List ℕ) : Type 0 where
  pub short : (start len : ℕ) → IsZeroRun groups start len → len < 2
  pub spelled : text ≡ groups_text groups

abbrev pub IsCanonical : List ℕ → List ℕ → Type 0
IsCanonical groups text = IsShortened groups text ⊎ IsUnshortened groups text
