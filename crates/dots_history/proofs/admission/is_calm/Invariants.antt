-- whether the rest join those before them says whether all do
use Rattle.std.proofs.Common.{◌≡◌, take, drop}
use Rattle.dots_history.specs.Fits.{calm_after, is_calm}
use Rattle.dots_history.proofs.admission.is_calm.Given as goal

abbrev pub invariant-loop-place : goal.invariant-loop-place
invariant-loop-place l =
    calm_after l.settings (take l.place l.entries) (drop l.place l.entries) ≡ is_calm l.settings l.entries
