use Rattle.std.proofs.Common.{◌≡◌, ap, ◌∙◌, sym, map, get_or, [], Some, arith}
use Rattle.std.specs.Prelude.{position}
use Rattle.std.specs.List.{find}
use Rattle.std.proofs.lemmas.List.Quantifiers.{position-Some}
use Rattle.held_resources.specs.Tables.{Clients, no_holding, has_cuid, changed}
use Rattle.held_resources.proofs.Places.{found, at_any, change_keeps, change_none, clients_by}
use Rattle.held_resources.proofs.domain_clients.DomainClients.change.Goals as goal

pub change_in-requires-clause-within : goal.change_in-requires-clause-within
change_in-requires-clause-within c =
    (position-Some (has_cuid c.args.cuid.now) c.self.inside.list.items c.in-Some.place (no_holding c.self.inside.rooms 0 [])
    (ap (position (has_cuid c.args.cuid.now)) (sym c.as_slice.ensures.value) ∙ sym c.in-Some.ensures)).0

pub change_in-requires-clause-room : goal.change_in-requires-clause-room
change_in-requires-clause-room c =
    λ holding is.
    c.requires
    holding
    (ap (λ (v : Clients). find (has_cuid c.args.cuid.now) v.list) (sym c.self.view_is)
    ∙ found
    (has_cuid c.args.cuid.now)
    c.self.inside.list.items
    c.in-Some.place
    holding
    (ap (position (has_cuid c.args.cuid.now)) (sym c.as_slice.ensures.value) ∙ sym c.in-Some.ensures)
    is)

pub invariant_of-self : goal.invariant_of-self
invariant_of-self c =
    let there : position (has_cuid c.args.cuid.now) c.self.inside.list.items ≡ Some c.in-Some.place =
    ap (position (has_cuid c.args.cuid.now)) (sym c.as_slice.ensures.value) ∙ sym c.in-Some.ensures in
    let empty = no_holding c.self.inside.rooms 0 [] in
    let facts = position-Some (has_cuid c.args.cuid.now) c.self.inside.list.items c.in-Some.place empty there in
    let here = get_or c.self.inside.list.items c.in-Some.place empty in
    let at = at_any c.self.inside.list.items c.in-Some.place empty facts.0 in
    let keeps = change_keeps c.self.inside.rooms c.self.inside.list.items c.self.inside.spare.items c.change_in.new.list.items here c.in-Some.place c.args.cuid.now c.args.change
    c.self.invariant.0
    c.self.invariant.1
    c.self.invariant.2
    c.self.invariant.3
    there
    at
    (c.change_in.ensures.items here at) in
    (keeps.0.0, keeps.0.1, keeps.0.2, keeps.0.3, omega (arith, c.self.invariant.4, c.change_in.ensures.capacity), c.self.invariant.5)

pub returns-in-Some : goal.returns-in-Some
returns-in-Some c =
    let there : position (has_cuid c.args.cuid.now) c.self.inside.list.items ≡ Some c.in-Some.place =
    ap (position (has_cuid c.args.cuid.now)) (sym c.as_slice.ensures.value) ∙ sym c.in-Some.ensures in
    let empty = no_holding c.self.inside.rooms 0 [] in
    let facts = position-Some (has_cuid c.args.cuid.now) c.self.inside.list.items c.in-Some.place empty there in
    let here = get_or c.self.inside.list.items c.in-Some.place empty in
    let at = at_any c.self.inside.list.items c.in-Some.place empty facts.0 in
    let keeps = change_keeps c.self.inside.rooms c.self.inside.list.items c.self.inside.spare.items c.change_in.new.list.items here c.in-Some.place c.args.cuid.now c.args.change
    c.self.invariant.0
    c.self.invariant.1
    c.self.invariant.2
    c.self.invariant.3
    there
    at
    (c.change_in.ensures.items here at) in
    ap (clients_by c.self.inside.rooms) keeps.1
    ∙ ap (λ (v : Clients). clients_by v.rooms (map (changed c.args.cuid.now c.args.change) v.list)) c.self.view_is

pub returns-in_default : goal.returns-in_default
returns-in_default c =
    sym c.self.view_is
    ∙ ap
    (clients_by c.self.inside.rooms)
    (sym (change_none
    c.args.cuid.now
    c.args.change
    c.self.inside.list.items
    (ap (position (has_cuid c.args.cuid.now)) (sym c.as_slice.ensures.value) ∙ sym c.place_of.ensures ∙ c.in_default.is)))
    ∙ ap (λ (v : Clients). clients_by v.rooms (map (changed c.args.cuid.now c.args.change) v.list)) c.self.view_is
