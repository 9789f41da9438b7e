use Rattle.std.proofs.Common.{◌≡◌, ap, sym, ◌∙◌}
use Rattle.std.proofs.lemmas.List.Quantifiers.{position-Some}
use Rattle.coap_exchange.specs.Rings.{is_ring_of, messages_of, reply_to}
use Rattle.coap_exchange.proofs.Finding.{ring_place, messages_at, no_messages}
use Rattle.coap_exchange.proofs.Firsts.{there_is}
use Rattle.coap_exchange.proofs.remembered.Remembered.look.Goals as goal

pub returns-in-Some : goal.returns-in-Some
returns-in-Some c =
    let rings = c.self.inside.rings.items in
    let ring = c.index.result.now in
    let found = sym (ring_place c.args.peer c.args.domain rings c.self.inside.pairs c.self.invariant) ∙ sym c.in-Some.ensures in
    let at = position-Some (is_ring_of c.args.peer c.args.domain) rings c.in-Some.place ring found in
    let there = there_is rings c.in-Some.place ring at.0 c.index.ensures in
    c.reply_to.ensures
    ∙ ap (reply_to c.args.id c.args.now) (messages_at c.args.peer c.args.domain c.in-Some.place rings ring found there)
    ∙ ap (λ rs. reply_to c.args.id c.args.now (messages_of c.args.peer c.args.domain rs)) c.self.view_is

pub returns-in-None : goal.returns-in-None
returns-in-None c =
    let rings = c.self.inside.rings.items in
    let none = sym (ring_place c.args.peer c.args.domain rings c.self.inside.pairs c.self.invariant) ∙ sym c.in-None.ensures in
    sym
    (ap (λ rs. reply_to c.args.id c.args.now (messages_of c.args.peer c.args.domain rs)) (sym c.self.view_is)
    ∙ ap (reply_to c.args.id c.args.now) (no_messages c.args.peer c.args.domain rings none))
