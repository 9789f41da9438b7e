use Rattle.std.proofs.Common.{map, sym, subst, ◌∙◌, refl, ap, arith}
use Rattle.dots_history.specs.Filed.{entry_of}
use Rattle.dots_registry.specs.Filed.{RepresentsFiled}
use Rattle.dots_registry.proofs.Filed.{filed_later, slots_still}
use Rattle.dots_registry.specs.RegistryValues.{RegistryValue, Represents}
use Rattle.dots_registry.proofs.RegistryValues.{joined, still_of, represents_later}
use Rattle.dots_registry.specs.ObserverViews.{views_of}
use Rattle.dots_registry.proofs.Ended.{views_still}
use Rattle.dots_registry.proofs.registry.Registry.tick.Goals as goal

pub returns-clause-represents : goal.returns-clause-represents
returns-clause-represents c = λ entries represents.
    represents_later
    c.args.now
    (joined c.self.inside.live c.self.inside.held c.self.inside.remembered c.self.inside.filters c.self.inside.last)
    c.args.self.now
    c.tick.new.self
    c.expire_all-ended.new.filters
    c.self.inside.last
    entries
    c.self.view_is
    c.requires.later
    (c.tick.ensures.limits ∙ c.expire_all-ended.ensures.same.limits)
    c.tick.ensures.time
    (λ comes. c.tick.ensures.represents entries (c.expire_all-ended.ensures.comes entries comes))
    (λ less alive installed.
    c.expire_all-ended.ensures.represents entries less alive (subst (λ (r : RegistryValue). Represents r entries) (sym c.self.view_is) represents).held installed)
    represents

pub returns-clause-settings : goal.returns-clause-settings
returns-clause-settings c = λ settings is_of.
    still_of
    settings
    (joined c.self.inside.live c.self.inside.held c.self.inside.remembered c.self.inside.filters c.self.inside.last)
    c.args.self.now
    c.tick.new.self
    c.self.inside.held
    c.self.inside.remembered
    c.expire_all-ended.new.filters
    c.self.inside.last
    c.self.view_is
    (c.tick.ensures.domains ∙ c.expire_all-ended.ensures.same.domains)
    (c.tick.ensures.limits ∙ c.expire_all-ended.ensures.same.limits)
    refl
    refl
    c.expire_all-ended.ensures.room
    is_of

pub tick-requires-clause-later : goal.tick-requires-clause-later
tick-requires-clause-later c = omega (arith, c.requires.later, c.expire_all-ended.ensures.same.time, ap (λ (r : RegistryValue). r.live.time) c.self.view_is)

pub returns-clause-filed : goal.returns-clause-filed
returns-clause-filed c = λ filed represents.
    filed_later
    c.args.now
    (joined c.self.inside.live c.self.inside.held c.self.inside.remembered c.self.inside.filters c.self.inside.last)
    c.args.self.now
    c.tick.new.self
    c.expire_all-ended.new.filters
    filed
    c.self.view_is
    c.requires.later
    (c.tick.ensures.limits ∙ c.expire_all-ended.ensures.same.limits)
    c.tick.ensures.time
    (λ all comes. c.tick.ensures.slots all (c.expire_all-ended.ensures.slots all comes))
    (returns-clause-represents c (map entry_of filed))
    represents

pub invariant_of-self : goal.invariant_of-self
invariant_of-self c = record {
  filed = c.self.invariant.filed;
  represents = returns-clause-filed c c.self.invariant.filed (subst (λ (r : RegistryValue). RepresentsFiled r c.self.invariant.filed) c.self.view_is c.self.invariant.represents);
  room = slots_still
      (joined c.self.inside.live c.self.inside.held c.self.inside.remembered c.self.inside.filters c.self.inside.last)
      (joined c.tick.new.self c.self.inside.held c.self.inside.remembered c.expire_all-ended.new.filters c.self.inside.last)
      (c.tick.ensures.domains ∙ c.expire_all-ended.ensures.same.domains)
      (c.tick.ensures.limits ∙ c.expire_all-ended.ensures.same.limits)
      refl
      refl
      c.self.invariant.room;
}

pub returns-clause-seen : goal.returns-clause-seen
returns-clause-seen c = λ domain cuid mid out.
    views_still
    (joined c.self.inside.live c.self.inside.held c.self.inside.remembered c.self.inside.filters c.self.inside.last)
    (joined c.tick.new.self c.self.inside.held c.self.inside.remembered c.expire_all-ended.new.filters c.self.inside.last)
    domain
    cuid
    mid
    (c.tick.ensures.domains ∙ c.expire_all-ended.ensures.same.domains)
    refl
    (c.tick.ensures.still domain (c.expire_all-ended.ensures.none domain) ∙ c.expire_all-ended.ensures.others domain out)
    ∙ ap (λ (r : RegistryValue). views_of r domain cuid mid) c.self.view_is
