use Rattle.std.proofs.Common.{ap, ◌∙◌, map}
use Rattle.std.specs.List.{flat_map}
use Rattle.dots_history.specs.Calm.{loser_of}
use Rattle.held_resources.specs.Tables.{no_configuration, no_loss, rooms_of}
use Rattle.held_resources.proofs.HistoryTables.{represents_first, sizes_first}
use Rattle.held_resources.proofs.resources.HeldResources.new.Goals as goal

pub returns-clause-represents : goal.returns-clause-represents
returns-clause-represents c =
    represents_first c.rooms_of-rooms.result _ _ _ c.in_ok-domains.domains.items c.in_ok-configurations.configurations.items c.in_ok-signals.signals.items _ c.in_ok-domains.ensures
    c.in_ok-configurations.ensures c.in_ok-signals.ensures

pub returns-clause-sizes : goal.returns-clause-sizes
returns-clause-sizes c =
    sizes_first
    c.args.settings.now
    c.rooms_of-rooms.result
    _
    c.in_ok-domains.domains.items
    c.in_ok-configurations.configurations.items
    c.in_ok-signals.signals.items
    c.in_ok-slots.slots
    (c.rooms_of-rooms.ensures ∙ ap rooms_of c.limits.ensures.value)
    c.domains.ensures.number
    c.in_ok-domains.ensures
    (c.in_ok-configurations.ensures ∙ ap (map no_configuration) c.peers.ensures.value)
    (c.in_ok-signals.ensures ∙ ap (λ peers. map no_loss (flat_map loser_of peers)) c.peers-2.ensures.value)
