use Rattle.std.proofs.Common.{◌&&◌, ap, ◌∙◌}
use Rattle.std.specs.Prelude.{◌==◌}
use Rattle.std.specs.List.{list_any}
use Rattle.held_resources.specs.declared.signals.Signal.{Signal}
use Rattle.held_resources.specs.Tables.{Tables, lost_in}
use Rattle.held_resources.proofs.HistoryTables.{lost_is}
use Rattle.held_resources.proofs.resources.HeldResources.lost.Goals as goal

pub returns-clause-value : goal.returns-clause-value
returns-clause-value c =
    c.is_lost.ensures
    ∙ ap
    (list_any (λ (s : Signal). s.lost && ((c.args.peer == s.peer) && (c.args.domain == s.domain))))
    c.as_slice.ensures.value
    ∙ ap (λ (t : Tables). lost_in t c.args.peer c.args.domain) c.self.view_is

pub returns-clause-history : goal.returns-clause-history
returns-clause-history c =
    λ entries represents. returns-clause-value c ∙ lost_is c.args.self.now _ represents c.args.peer c.args.domain
