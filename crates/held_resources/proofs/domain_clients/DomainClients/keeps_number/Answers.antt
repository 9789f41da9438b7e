use Rattle.std.proofs.Common.{ap, ◌∙◌, sym, length}
use Rattle.std.specs.Prelude.{nat_lt, nat_le}
use Rattle.held_resources.specs.Tables.{Clients, list_with}
use Rattle.held_resources.proofs.Places.{number_more, number_within}
use Rattle.held_resources.proofs.domain_clients.DomainClients.keeps_number.Goals as goal

pub returns-then-is_registration : goal.returns-then-is_registration
returns-then-is_registration c =
    λ peer.
    ap (λ n. nat_lt n c.self.inside.rooms.clients) c.number.ensures
    ∙ ap (λ (v : Clients). nat_lt (length c.args.self.now.list) v.rooms.clients) c.self.view_is
    ∙ number_more c.args.self.now.rooms peer c.args.cuid.now c.args.change.now c.args.self.now.list (sym c.is_registration.ensures ∙ c.if-is_registration.true)

pub returns : goal.returns
returns c =
    λ peer.
    sym (number_within
    c.self.inside.rooms
    peer
    c.args.cuid.now
    c.args.change.now
    c.self.inside.list.items
    c.self.inside.spare.items
    c.self.invariant.0
    (sym c.is_registration.ensures ∙ c.if-is_registration.false))
    ∙ ap (λ (v : Clients). nat_le (length (list_with v.rooms peer c.args.cuid.now c.args.change.now v.list)) v.rooms.clients) c.self.view_is
