-- How a run of the program ends.
use Rattle.std.specs.Prelude.{◌≡◌, ℕ, List, codes, Option, Some, None}
use Rattle.std.specs.Io.KnownBytes.{Appends}
use Rattle.dots_host.specs.Writing.{AppendsBeginning, Writes}
use Rattle.world_play.specs.Report.{WorldReported}

-- Of a seed: the whole report is written, or for want of memory nothing, or for this cause only a beginning of the report.
pub data EndsOf (seed status : ℕ) (old new : Option (List ℕ)) (cause : Type 0) : Type 0 where
  reported : status ≡ 0 → (text : List ℕ) → WorldReported seed text → Appends old new text → EndsOf seed status old new cause
  lacked_memory : status ≡ 4 → new ≡ old → EndsOf seed status old new cause
  unwritten : status ≡ 9 → (text : List ℕ) → WorldReported seed text → AppendsBeginning old new text → cause → EndsOf seed status old new cause

-- where the words are `world N`; and where they are not
abbrev pub Ends : Option ℕ → ℕ → Option (List ℕ) → Option (List ℕ) → Type 0 → Type 0
Ends (Some seed) status old new cause = EndsOf seed status old new cause
Ends None status old new cause = (status ≡ 2) × Writes old new (codes "words\n") cause
