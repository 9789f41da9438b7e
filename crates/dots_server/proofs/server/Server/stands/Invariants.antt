use Rattle.std.proofs.Common.{◌≡◌}
use Rattle.std.specs.List.{list_any}
use Rattle.dots_settings.specs.Settings.{SettingsValue}
use Rattle.dots_machine.specs.Machine.{State, facts_in}
use Rattle.dots_machine.specs.Mitigations.{client_for}
use Rattle.dots_machine.specs.Facts.{stands_as}
use Rattle.dots_server.specs.ServerValues.{Represents}
use Rattle.dots_server.proofs.server.Server.stands.Given as goal

abbrev pub invariant-loop-row : goal.invariant-loop-row
invariant-loop-row l =
    (settings : SettingsValue) (state : State) → Represents l.fn.self settings state
    → list_any (stands_as l.fn.mid) ((facts_in settings state).views (client_for l.fn.from)) ≡ list_any (stands_as l.fn.mid) l.row-iterator
