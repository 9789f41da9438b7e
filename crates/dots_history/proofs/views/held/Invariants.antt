-- those found and those of the rest are all
use Rattle.std.proofs.Common.{◌≡◌, ◌++◌, map, drop}
use Rattle.dots_history.specs.Histories.{held}
use Rattle.dots_history.proofs.views.held.Given as goal

abbrev pub invariant-loop-place : goal.invariant-loop-place
invariant-loop-place l = map (λ e. e.now) l.list.items ++ held (drop l.place l.entries) ≡ held l.entries
