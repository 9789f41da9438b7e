use Rattle.std.proofs.Common.{ap, ◌∙◌, sym, not, filter, arith}
use Rattle.std.specs.Prelude.{position}
use Rattle.held_resources.specs.Tables.{Clients, has_cuid}
use Rattle.held_resources.proofs.Places.{deregister_keeps, deregister_none, clients_by}
use Rattle.held_resources.proofs.domain_clients.DomainClients.deregister.Goals as goal

pub invariant_of-self : goal.invariant_of-self
invariant_of-self c =
    let keeps = deregister_keeps c.self.inside.rooms c.self.inside.list.items c.self.inside.spare.items c.remove-client.new.self.items c.push_reserved.new.self.items _ _ c.in-Some.place c.args.cuid.now
    c.self.invariant.0
    c.self.invariant.1
    c.self.invariant.2
    c.self.invariant.3
    (ap (position (has_cuid c.args.cuid.now)) (sym c.as_slice.ensures.value) ∙ sym c.in-Some.ensures)
    c.remove-client.ensures.value
    c.remove-client.ensures.items
    c.clear.ensures
    c.push_reserved.ensures.items in (
      keeps.0.0,
      keeps.0.1,
      keeps.0.2,
      keeps.0.3,
      omega (arith, c.self.invariant.4, c.remove-client.ensures.capacity),
      omega (arith, c.self.invariant.5, c.push_reserved.ensures.capacity),
    )

pub returns-in-Some : goal.returns-in-Some
returns-in-Some c =
    let keeps = deregister_keeps c.self.inside.rooms c.self.inside.list.items c.self.inside.spare.items c.remove-client.new.self.items c.push_reserved.new.self.items _ _ c.in-Some.place c.args.cuid.now
    c.self.invariant.0
    c.self.invariant.1
    c.self.invariant.2
    c.self.invariant.3
    (ap (position (has_cuid c.args.cuid.now)) (sym c.as_slice.ensures.value) ∙ sym c.in-Some.ensures)
    c.remove-client.ensures.value
    c.remove-client.ensures.items
    c.clear.ensures
    c.push_reserved.ensures.items in
    ap (clients_by c.self.inside.rooms) keeps.1
    ∙ ap (λ (v : Clients). clients_by v.rooms (filter (λ h. not (has_cuid c.args.cuid.now h)) v.list)) c.self.view_is

pub returns-in_default : goal.returns-in_default
returns-in_default c =
    sym c.self.view_is
    ∙ ap
    (clients_by c.self.inside.rooms)
    (sym (deregister_none c.args.cuid.now c.self.inside.list.items (ap (position (has_cuid c.args.cuid.now)) (sym c.as_slice.ensures.value) ∙ sym c.place_of.ensures ∙ c.in_default.is)))
    ∙ ap (λ (v : Clients). clients_by v.rooms (filter (λ h. not (has_cuid c.args.cuid.now h)) v.list)) c.self.view_is
