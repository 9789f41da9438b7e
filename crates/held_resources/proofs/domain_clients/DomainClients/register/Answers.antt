use Rattle.std.proofs.Common.{◌++◌, ◌∷◌, [], ap, ◌∙◌, arith}
use Rattle.std.specs.Prelude.{option_to_list}
use Rattle.std.specs.List.{list_any}
use Rattle.held_resources.specs.Tables.{Clients, no_holding, has_cuid}
use Rattle.held_resources.proofs.Places.{register_keeps, clients_by}
use Rattle.held_resources.proofs.domain_clients.DomainClients.register.Goals as goal

pub invariant_of-self : goal.invariant_of-self
invariant_of-self c =
    let keeps = register_keeps c.self.inside.rooms c.self.inside.list.items c.self.inside.spare.items c.push_reserved.new.self.items c.pop.new.self.items _ _ c.args.peer c.args.cuid
    c.self.invariant.0
    c.self.invariant.1
    c.self.invariant.2
    c.self.invariant.3
    (c.pop.ensures.items ∙ ap (λ o. c.pop.new.self.items ++ option_to_list o) c.unwrap-client.ensures)
    c.rename.ensures
    c.push_reserved.ensures.items
    (ap (λ (v : Clients). list_any (has_cuid c.args.cuid) v.list) c.self.view_is ∙ c.requires.fresh) in (
      keeps.0.0,
      keeps.0.1,
      keeps.0.2,
      keeps.0.3,
      omega (arith, c.self.invariant.4, c.push_reserved.ensures.capacity),
      omega (arith, c.self.invariant.5, c.pop.ensures.capacity),
    )

pub returns : goal.returns
returns c =
    let keeps = register_keeps c.self.inside.rooms c.self.inside.list.items c.self.inside.spare.items c.push_reserved.new.self.items c.pop.new.self.items _ _ c.args.peer c.args.cuid
    c.self.invariant.0
    c.self.invariant.1
    c.self.invariant.2
    c.self.invariant.3
    (c.pop.ensures.items ∙ ap (λ o. c.pop.new.self.items ++ option_to_list o) c.unwrap-client.ensures)
    c.rename.ensures
    c.push_reserved.ensures.items
    (ap (λ (v : Clients). list_any (has_cuid c.args.cuid) v.list) c.self.view_is ∙ c.requires.fresh) in
    ap (clients_by c.self.inside.rooms) keeps.1 ∙ ap (λ (v : Clients). clients_by v.rooms (v.list ++ no_holding v.rooms c.args.peer c.args.cuid ∷ [])) c.self.view_is
