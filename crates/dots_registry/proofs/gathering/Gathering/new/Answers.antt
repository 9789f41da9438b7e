use Rattle.dots_registry.proofs.Gatherings.{first_gathered}
use Rattle.dots_registry.proofs.gathering.Gathering.new.Goals as goal

pub returns : goal.returns
returns c =
    first_gathered
    c.args.settings.now
    c.in_ok-registry.registry
    c.of.result
    c.of.ensures.tables
    c.of.ensures.domains
    c.of.ensures.room
    c.in_ok-registry.ensures.represents
    c.in_ok-registry.ensures.filed
    c.in_ok-registry.ensures.settings
    c.in_ok-registry.ensures.time
