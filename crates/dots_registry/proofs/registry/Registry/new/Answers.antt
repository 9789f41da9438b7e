use Rattle.std.proofs.Common.{[], None}
use Rattle.held_resources.specs.Sizes.{most_held}
use Rattle.dots_registry.proofs.Filed.{filed_first, slots_first_room}
use Rattle.dots_registry.proofs.RegistryValues.{represents_first, is_of_first}
use Rattle.dots_registry.proofs.registry.Registry.new.Goals as goal

pub returns-clause-represents : goal.returns-clause-represents
returns-clause-represents c =
    represents_first
    c.args.settings.now
    c.in_ok-live.live
    c.in-Ok.held
    c.in-Ok-new.remembered
    c.in-Ok-new-2.filters
    None
    c.in_ok-live.ensures.represents
    c.in-Ok.ensures.represents
    c.in_ok-live.ensures.limits
    c.in-Ok-new.ensures
    c.in-Ok-new-2.ensures.represents

pub returns-clause-settings : goal.returns-clause-settings
returns-clause-settings c =
    is_of_first
    c.args.settings.now
    c.in_ok-live.live
    c.in-Ok.held
    c.in-Ok-new.remembered
    c.in-Ok-new-2.filters
    None
    c.in_ok-live.ensures.domains
    c.in_ok-live.ensures.limits
    c.in-Ok.ensures.sizes
    c.in-Ok-new.ensures
    c.in-Ok-new-2.ensures.room

pub returns-clause-filed : goal.returns-clause-filed
returns-clause-filed c =
    filed_first
    c.in_ok-live.live
    c.in-Ok.held
    c.in-Ok-new.remembered
    c.in-Ok-new-2.filters
    c.args.settings.now
    (most_held c.args.settings.now)
    c.in_ok-live.ensures.limits
    c.in_ok-live.ensures.time
    c.in-Ok-new.ensures
    c.in_ok-live.ensures.slots
    c.in-Ok.ensures.slots
    (returns-clause-represents c)

pub invariant_of-result : goal.invariant_of-result
invariant_of-result c = record {
  filed = [];
  represents = returns-clause-filed c;
  room = slots_first_room
      c.in_ok-live.live
      c.in-Ok.held
      c.in-Ok-new.remembered
      c.in-Ok-new-2.filters
      c.args.settings.now
      c.in_ok-live.ensures.domains
      c.in_ok-live.ensures.limits
      c.in-Ok.ensures.sizes
      c.in-Ok.ensures.slots;
}
