use Rattle.std.proofs.Common.{◌≡◌, ℕ, ◌≤◌, List, length, sym, ap, ◌∙◌, subst, le_trans}
use Rattle.dots_history.specs.Slots.{Slots}
use Rattle.dots_history.specs.KeptPlaces.{union}
use Rattle.dots_registry.specs.Kept.{all_kept, named_slots}
use Rattle.dots_registry.specs.RegistryValues.{RegistryValue, time_of, number_remembered}
use Rattle.dots_registry.specs.Filed.{RepresentsFiled, slots_kept, most_kept}
use Rattle.dots_registry.proofs.RegistryValues.{joined}
use Rattle.dots_registry.proofs.Shrinking.{few_slots, slots_are_named}
use Rattle.dots_registry.proofs.registry.Registry.kept.Goals as goal

pub put_slots-requires : goal.put_slots-requires
put_slots-requires c =
    le_trans
    (subst
    (λ (items : List ℕ). length (union (all_kept (slots_kept (joined c.self.inside.live c.self.inside.held c.self.inside.remembered c.self.inside.filters c.self.inside.last)) c.self.inside.remembered) items) ≤ most_kept (joined c.self.inside.live c.self.inside.held c.self.inside.remembered c.self.inside.filters c.self.inside.last))
    (sym c.requires.empty)
    (few_slots (joined c.self.inside.live c.self.inside.held c.self.inside.remembered c.self.inside.filters c.self.inside.last) c.self.invariant))
    (subst (λ (r : RegistryValue). most_kept r ≤ c.args.into.now.room) (sym c.self.view_is) c.requires.room)

pub returns-clause-kept : goal.returns-clause-kept
returns-clause-kept c = λ all represents rises.
    subst
    (λ (r : RegistryValue). c.put_slots.new.into.items ≡ named_slots (number_remembered r) (time_of r) all)
    c.self.view_is
    (ap (λ (l : Slots). l.items) c.put_slots.ensures
    ∙ ap (λ (items : List ℕ). union (all_kept (slots_kept (joined c.self.inside.live c.self.inside.held c.self.inside.remembered c.self.inside.filters c.self.inside.last)) c.self.inside.remembered) items) c.requires.empty
    ∙ slots_are_named (joined c.self.inside.live c.self.inside.held c.self.inside.remembered c.self.inside.filters c.self.inside.last) all (subst (λ (r : RegistryValue). RepresentsFiled r all) (sym c.self.view_is) represents) rises)

pub returns-clause-few : goal.returns-clause-few
returns-clause-few c =
    subst
    (λ (r : RegistryValue). length c.put_slots.new.into.items ≤ most_kept r)
    c.self.view_is
    (subst
    (λ (items : List ℕ). length items ≤ most_kept (joined c.self.inside.live c.self.inside.held c.self.inside.remembered c.self.inside.filters c.self.inside.last))
    (sym
    (ap (λ (l : Slots). l.items) c.put_slots.ensures
    ∙ ap (λ (items : List ℕ). union (all_kept (slots_kept (joined c.self.inside.live c.self.inside.held c.self.inside.remembered c.self.inside.filters c.self.inside.last)) c.self.inside.remembered) items) c.requires.empty))
    (few_slots (joined c.self.inside.live c.self.inside.held c.self.inside.remembered c.self.inside.filters c.self.inside.last) c.self.invariant))
