-- the peers before the one at hand have their rows
use Rattle.std.proofs.Common.{◌≡◌, map, take}
use Rattle.session_core.specs.Contacts.{unheard}
use Rattle.session_core.proofs.sessions.unheard_rows.Given as goal

abbrev pub invariant-loop-row : goal.invariant-loop-row
invariant-loop-row l = l.rows.items ≡ map unheard (take l.row-index l.row-items)
