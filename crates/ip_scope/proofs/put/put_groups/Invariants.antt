use Rattle.std.proofs.Common.{◌+◌, ◌*◌, ◌≤◌, ◌∷◌, get_or, take}
use Rattle.std.specs.Net.Text.{groups_text}
use Rattle.ip_scope.specs.Puts.{Puts}
use Rattle.ip_scope.proofs.put.put_groups.Given as goal

abbrev pub invariant-loop-group : goal.invariant-loop-group
invariant-loop-group l = Puts l.fn.into l.into l.at l.end (groups_text (get_or l.groups 0 0 ∷ take l.group-index l.rest)) × (l.end ≤ l.at + 4 + 5 * l.group-index)
