-- whether one of the rest is so says whether one of all is
use Rattle.std.proofs.Common.{◌≡◌, drop}
use Rattle.dots_history.specs.Histories.{held}
use Rattle.dots_history.specs.Fits.{is_registered}
use Rattle.dots_history.proofs.admission.is_registered.Given as goal

abbrev pub invariant-loop-place : goal.invariant-loop-place
invariant-loop-place l =
    is_registered (held (drop l.place l.before)) l.entry ≡ is_registered (held l.before) l.entry
