-- What a host file says, or the fault of its first line that has one.
use Rattle.std.specs.Prelude.{◌≡◌, ℕ, ◌+◌, ◌<◌, ◌≤◌, true, false, List, [], ◌∷◌, ◌++◌, length, ⊤, Result, Ok, Err}
use Rattle.std.specs.Bool.{MatchBool}
use Rattle.std.specs.List.{list_any}
use Rattle.dots_lists.specs.Lines.{lines_of, is_skipped}
use Rattle.dots_edge.specs.HostLine.{LineValue, Says, same_thing, same_kind, crowds, how_many}
use Rattle.dots_edge.specs.declared.host_fault.HostFault.{HostFault}
use Rattle.dots_edge.specs.declared.host_fault.HostFault.TheVariants as fault

-- each of the lines is skipped or says something, and this is what they say, in order
abbrev pub AreSaid : List (List ℕ) → List LineValue → Type 0
AreSaid [] values = values ≡ []
AreSaid (line ∷ lines) values = MatchBool (is_skipped line)
    (AreSaid lines values)
    ((value : LineValue) × (later : List LineValue) × Says line value × (values ≡ value ∷ later) × AreSaid lines later)

-- A line may stand behind these: none of them says it already, fewer than four are of its kind, and where it or one of its kind is for all addresses
-- there is no other.
pub record Joins (before : List LineValue) (value : LineValue) : Type 0 where
  pub unsaid : list_any (λ other. same_thing other value) before ≡ false
  pub few : how_many (λ other. same_kind other value) before < 4
  pub apart : list_any (λ other. crowds other value) before ≡ false

-- each of them may stand behind those before it
abbrev pub AreJoined : List LineValue → List LineValue → Type 0
AreJoined before [] = ⊤
AreJoined before (value ∷ later) = Joins before value × AreJoined (before ++ value ∷ []) later

-- the lines say this, and each may stand behind those before it
pub record Stand (lines : List (List ℕ)) (values : List LineValue) : Type 0 where
  pub said : AreSaid lines values
  pub joined : AreJoined [] values

-- What is wrong with a line of this number that follows these: it says nothing, or what stands already, or is the fifth of its kind, or isn't alone of
-- its kind where it or the other is for all addresses.
abbrev pub HasFault : List LineValue → ℕ → List ℕ → HostFault → Type 0
HasFault before number line (fault.Line n) = (n ≡ number) × (is_skipped line ≡ false) × ((value : LineValue) → ¬ (Says line value))
HasFault before number line (fault.Twice n) =
    (n ≡ number) × (is_skipped line ≡ false) × (value : LineValue) × Says line value × (list_any (λ other. same_thing other value) before ≡ true)
HasFault before number line (fault.Many n) =
    (n ≡ number) × (is_skipped line ≡ false) × (value : LineValue) × Says line value × (4 ≤ how_many (λ other. same_kind other value) before)
HasFault before number line (fault.Wildcard n) =
    (n ≡ number) × (is_skipped line ≡ false) × (value : LineValue) × Says line value × (list_any (λ other. crowds other value) before ≡ true)
HasFault before number line fault.NoMemory = ⊤

-- one more line: it is skipped, or says something more
abbrev pub Takes : List ℕ → List LineValue → List LineValue → Type 0
Takes line old new = MatchBool (is_skipped line)
    (new ≡ old)
    ((value : LineValue) × Says line value × Joins old value × (new ≡ old ++ value ∷ []))

-- adding what a line of this number says: it joins those before it, or it can't for one of the reasons, or memory ran out
abbrev pub IsAdded : LineValue → ℕ → List LineValue → List LineValue → Result (Unit {0}) HostFault → Type 0
IsAdded value number old new (Ok done) = Joins old value × (new ≡ old ++ value ∷ [])
IsAdded value number old new (Err (fault.Line n)) = ⊥
IsAdded value number old new (Err (fault.Twice n)) = (n ≡ number) × (list_any (λ other. same_thing other value) old ≡ true)
IsAdded value number old new (Err (fault.Many n)) = (n ≡ number) × (4 ≤ how_many (λ other. same_kind other value) old)
IsAdded value number old new (Err (fault.Wildcard n)) = (n ≡ number) × (list_any (λ other. crowds other value) old ≡ true)
IsAdded value number old new (Err fault.NoMemory) = ⊤

-- the lines before this one stand, and it has the fault
pub record FileFails (file : List ℕ) (told : HostFault) : Type 0 where
  pub before : List (List ℕ)
  pub line : List ℕ
  pub behind : List (List ℕ)
  pub split : lines_of file ≡ before ++ line ∷ behind
  pub values : List LineValue
  pub stand : Stand before values
  pub at_fault : HasFault values (length before + 1) line told

-- the first line at fault has that fault; want of memory is no fault of a line
abbrev pub IsRefused : List ℕ → HostFault → Type 0
IsRefused file fault.NoMemory = ⊤
IsRefused file line_fault = FileFails file line_fault
