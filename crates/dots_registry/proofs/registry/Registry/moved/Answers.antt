use Rattle.std.proofs.Common.{map, refl, subst}
use Rattle.dots_history.specs.Filed.{refiled, entry_of}
use Rattle.dots_registry.specs.Kept.{filed, filed_kept}
use Rattle.dots_history.specs.Keeping.{kept}
use Rattle.dots_registry.specs.RegistryValues.{RegistryValue, Represents, IsOf, time_of, number_remembered}
use Rattle.dots_registry.specs.Filed.{RepresentsFiled, HasSlots}
use Rattle.dots_registry.proofs.RegistryValues.{joined}
use Rattle.dots_registry.proofs.Shrinking.{renumbered_to, moved_represents, moved_of, moved_in, moved_room, kept_in, compacted_in}
use Rattle.dots_registry.proofs.registry.Registry.moved.Goals as goal

pub invariant_of-self : goal.invariant_of-self
invariant_of-self c =
    let to = renumbered_to c.args.keep.now (joined c.self.inside.live c.self.inside.held c.self.inside.remembered c.self.inside.filters c.self.inside.last) (joined c.self.inside.live c.self.inside.held c.self.inside.remembered c.self.inside.filters c.self.inside.last) c.renumber.new.self c.renumber-2.new.self c.moved.new.self c.number_of-self-inside.result refl c.renumber.ensures c.renumber-2.ensures c.moved.ensures c.number_of-self-inside.ensures in
    record {
      filed = map (refiled c.args.keep.now) c.self.invariant.filed;
      represents = subst
          (λ (r : RegistryValue). RepresentsFiled r (map (refiled c.args.keep.now) c.self.invariant.filed))
          to
          (moved_in c.args.keep.now (joined c.self.inside.live c.self.inside.held c.self.inside.remembered c.self.inside.filters c.self.inside.last) c.self.invariant.filed c.self.invariant.represents);
      room = subst HasSlots to (moved_room c.args.keep.now (joined c.self.inside.live c.self.inside.held c.self.inside.remembered c.self.inside.filters c.self.inside.last) c.self.invariant.room);
    }

pub returns-clause-represents : goal.returns-clause-represents
returns-clause-represents c = λ entries represents.
    subst
    (λ (r : RegistryValue). Represents r entries)
    (renumbered_to c.args.keep.now (joined c.self.inside.live c.self.inside.held c.self.inside.remembered c.self.inside.filters c.self.inside.last) c.args.self.now c.renumber.new.self c.renumber-2.new.self c.moved.new.self c.number_of-self-inside.result c.self.view_is c.renumber.ensures c.renumber-2.ensures c.moved.ensures c.number_of-self-inside.ensures)
    (moved_represents c.args.keep.now c.args.self.now entries represents)

pub returns-clause-refiled : goal.returns-clause-refiled
returns-clause-refiled c = λ all represents.
    subst
    (λ (r : RegistryValue). RepresentsFiled r (map (refiled c.args.keep.now) all))
    (renumbered_to c.args.keep.now (joined c.self.inside.live c.self.inside.held c.self.inside.remembered c.self.inside.filters c.self.inside.last) c.args.self.now c.renumber.new.self c.renumber-2.new.self c.moved.new.self c.number_of-self-inside.result c.self.view_is c.renumber.ensures c.renumber-2.ensures c.moved.ensures c.number_of-self-inside.ensures)
    (moved_in c.args.keep.now c.args.self.now all represents)

pub returns-clause-named : goal.returns-clause-named
returns-clause-named c = λ all represents calm.
    let few = filed_kept (number_remembered c.args.self.now) (time_of c.args.self.now) all in
    subst
    (λ (r : RegistryValue). RepresentsFiled r (map (refiled c.args.keep.now) few))
    (renumbered_to c.args.keep.now (joined c.self.inside.live c.self.inside.held c.self.inside.remembered c.self.inside.filters c.self.inside.last) c.args.self.now c.renumber.new.self c.renumber-2.new.self c.moved.new.self c.number_of-self-inside.result c.self.view_is c.renumber.ensures c.renumber-2.ensures c.moved.ensures c.number_of-self-inside.ensures)
    (moved_in c.args.keep.now c.args.self.now few (kept_in c.args.self.now all represents calm))

pub returns-clause-filed : goal.returns-clause-filed
returns-clause-filed c = λ all represents rises calm is.
    subst
    (λ (r : RegistryValue). RepresentsFiled r (filed (kept (number_remembered c.args.self.now) (time_of c.args.self.now) (map entry_of all))))
    (renumbered_to c.args.keep.now (joined c.self.inside.live c.self.inside.held c.self.inside.remembered c.self.inside.filters c.self.inside.last) c.args.self.now c.renumber.new.self c.renumber-2.new.self c.moved.new.self c.number_of-self-inside.result c.self.view_is c.renumber.ensures c.renumber-2.ensures c.moved.ensures c.number_of-self-inside.ensures)
    (compacted_in c.args.keep.now c.args.self.now all represents rises calm is)

pub returns-clause-settings : goal.returns-clause-settings
returns-clause-settings c = λ settings is_of.
    subst
    (IsOf settings)
    (renumbered_to c.args.keep.now (joined c.self.inside.live c.self.inside.held c.self.inside.remembered c.self.inside.filters c.self.inside.last) c.args.self.now c.renumber.new.self c.renumber-2.new.self c.moved.new.self c.number_of-self-inside.result c.self.view_is c.renumber.ensures c.renumber-2.ensures c.moved.ensures c.number_of-self-inside.ensures)
    (moved_of c.args.keep.now settings c.args.self.now is_of)
