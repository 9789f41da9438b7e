use Rattle.std.proofs.Common.{◌≡◌, map, ap, sym, ◌∙◌}
use Rattle.coap_exchange.specs.declared.message.Message.{Message}
use Rattle.coap_exchange.specs.Rings.{pair_of, noted}
use Rattle.coap_exchange.proofs.Finding.{ring_place, noted_at, noted_nowhere}
use Rattle.coap_exchange.proofs.HistoryRings.{pairs_noted}
use Rattle.coap_exchange.proofs.remembered.Remembered.note.Goals as goal

pub invariant_of-self : goal.invariant_of-self
invariant_of-self c =
    let message : Message = record { key = c.args.key; time = c.args.time; slot = c.args.slot; reply = c.args.reply } in
    let rings = c.self.inside.rings.items in
    let found = sym (ring_place c.args.peer c.args.domain rings c.self.inside.pairs c.self.invariant) ∙ sym c.in-Some.ensures in
    ap (map pair_of) (c.note_at.ensures ∙ noted_at c.args.peer c.args.domain c.in-Some.place message rings found)
    ∙ pairs_noted c.args.peer c.args.domain message rings
    ∙ c.self.invariant

pub returns-in-Some : goal.returns-in-Some
returns-in-Some c =
    let message : Message = record { key = c.args.key; time = c.args.time; slot = c.args.slot; reply = c.args.reply } in
    let rings = c.self.inside.rings.items in
    let found = sym (ring_place c.args.peer c.args.domain rings c.self.inside.pairs c.self.invariant) ∙ sym c.in-Some.ensures in
    c.note_at.ensures
    ∙ noted_at c.args.peer c.args.domain c.in-Some.place message rings found
    ∙ ap (noted c.args.peer c.args.domain message) c.self.view_is

pub returns-in-None : goal.returns-in-None
returns-in-None c =
    let message : Message = record { key = c.args.key; time = c.args.time; slot = c.args.slot; reply = c.args.reply } in
    let rings = c.self.inside.rings.items in
    let none = sym (ring_place c.args.peer c.args.domain rings c.self.inside.pairs c.self.invariant) ∙ sym c.in-None.ensures in
    sym c.self.view_is
    ∙ noted_nowhere c.args.peer c.args.domain message rings none
    ∙ ap (noted c.args.peer c.args.domain message) c.self.view_is
