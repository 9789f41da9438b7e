-- Texts that are gathered in a block and written to a sink, one after the other. Once the sink has failed nothing more is written.
use Rattle.std.specs.Prelude.{◌≡◌, ◌≤◌, ℕ, Bool, true, false, List, ◌++◌, Option}
use Rattle.dots_host.specs.Causes.{Rose}
use Rattle.dots_host.specs.Writing.{Owes, AppendsBeginning}

-- what is gathered, and whether the sink has failed
pub record Gathered : Type 0 where
  pub block : List ℕ
  pub failed : Bool

-- what a sink holds, where it tells that, and how often it failed
pub record Sunk : Type 0 where
  pub written : Option (List ℕ)
  pub faults : ℕ

abbrev pub sunk : {K : Type 0} → (K → Option (List ℕ)) → (K → ℕ) → K → Sunk
sunk holds faults sink = record { written = holds sink; faults = faults sink }

-- Since the start the text was written but for what is gathered; or a beginning of it was written, and the sink failed.
abbrev pub HasWritten : Sunk → Sunk → Bool → List ℕ → List ℕ → Type 0
HasWritten start now false block text = Owes start.written now.written text block × (now.faults ≡ start.faults)
HasWritten start now true block text = AppendsBeginning start.written now.written text × (start.faults ≤ now.faults) × Rose start.faults now.faults

-- Whatever was written since any start, this text stands behind it now.
abbrev pub Puts : Sunk → Gathered → Sunk → Gathered → List ℕ → Type 0
Puts before old now new text =
    (start : Sunk) (written : List ℕ) → HasWritten start before old.failed old.block written → HasWritten start now new.failed new.block (written ++ text)
