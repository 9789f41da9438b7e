-- the last of the rest, or else of those so far, is the last of all
use Rattle.std.proofs.Common.{◌≡◌, drop}
use Rattle.dots_history.specs.Fits.{last_or}
use Rattle.dots_history.proofs.admission.last_time.Given as goal

abbrev pub invariant-loop-entry : goal.invariant-loop-entry
invariant-loop-entry l =
    last_or l.time (drop l.entry-index l.entries) ≡ last_or 0 l.entries
