-- A text that was written to a sink.
use Rattle.std.specs.Prelude.{ℕ, List, Option, Result, OnOk, OnErr}
use Rattle.std.specs.Io.KnownBytes.{Appends}
use Rattle.dots_host.specs.Causes.{HasCause}
use Rattle.dots_host.specs.Writing.{AppendsBeginning}

-- the whole of it, or where the sink failed a beginning
pub record Wrote {E : Type 0} (old : Option (List ℕ)) (before : ℕ) (new : Option (List ℕ)) (now : ℕ) (result : Result Unit E) (text : List ℕ) : Type 0 where
  pub ok : OnOk result (Appends old new text)
  pub err : OnErr result (AppendsBeginning old new text)
  pub cause : HasCause before now result
