use Rattle.std.proofs.Common.{◌<◌, length, map, ap, sym, subst, ◌∙◌, arith}
use Rattle.std.proofs.lemmas.List.{length-map}
use Rattle.coap_observe.specs.Rings.{RingsValue, ring_at, ring_of, slots_of}
use Rattle.coap_observe.proofs.Linking.{walk_length}
use Rattle.coap_observe.proofs.Circling.{value_at}
use Rattle.coap_observe.proofs.rings.Rings.len.Goals as goal

pub returns : goal.returns
returns c =
    let behind = c.self.inside.behind.items in
    let rings = c.self.inside.rings.items in
    let ring = c.index.result.now in
    let less : c.args.at < length (map (ring_of behind) rings) = subst (λ (v : RingsValue). c.args.at < length v.rings) (sym c.self.view_is) c.requires in
    let long = length-map rings (ring_of behind) in
    let within : c.args.at < length rings = omega (arith, less, long) in
    sym (walk_length ring.count behind ring.start)
    ∙ ap (λ r. length (slots_of behind r)) c.index.ensures
    ∙ ap (λ r. length r.slots) (sym (value_at behind rings c.args.at ring within))
    ∙ ap (λ (v : RingsValue). length (ring_at c.args.at v.rings).slots) c.self.view_is
