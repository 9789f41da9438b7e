use Rattle.std.proofs.Common.{ap, ◌∙◌, sym}
use Rattle.std.specs.List.{list_any}
use Rattle.dots_history.specs.Capacities.{loses_as}
use Rattle.held_resources.specs.declared.signals.Signal.{Signal}
use Rattle.held_resources.specs.Tables.{Tables, own_of}
use Rattle.held_resources.proofs.Losses.{any_own}
use Rattle.held_resources.proofs.resources.HeldResources.is_of_client_peer.Goals as goal

pub returns : goal.returns
returns c =
    c.has_signal.ensures
    ∙ ap (list_any (λ (s : Signal). loses_as c.args.entry.now (own_of s))) c.as_slice.ensures.value
    ∙ sym (any_own c.args.entry.now c.self.inside.signals.items)
    ∙ ap (λ (t : Tables). list_any (loses_as c.args.entry.now) t.sizes.own) c.self.view_is
