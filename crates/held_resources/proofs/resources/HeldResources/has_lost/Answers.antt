use Rattle.std.proofs.Common.{ap, ◌∙◌}
use Rattle.std.specs.Prelude.{◌&&◌, ◌==◌}
use Rattle.std.specs.List.{list_any}
use Rattle.dots_history.specs.Histories.{held}
use Rattle.held_resources.specs.declared.signals.Signal.{Signal}
use Rattle.held_resources.specs.Tables.{Tables}
use Rattle.held_resources.proofs.LostPeers.{peer_lost}
use Rattle.held_resources.proofs.resources.HeldResources.has_lost.Goals as goal

pub returns : goal.returns
returns c = λ entries represents.
    c.has_lost.ensures
    ∙ ap (list_any (λ (s : Signal). s.lost && (c.args.peer == s.peer))) c.as_slice.ensures.value
    ∙ ap (λ (t : Tables). list_any (λ (s : Signal). s.lost && (c.args.peer == s.peer)) t.signals) c.self.view_is
    ∙ peer_lost c.args.self.now (held entries) c.args.peer represents
