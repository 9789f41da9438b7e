use Rattle.std.proofs.Common.{◌≡◌, ◌∷◌, [], ap, sym}
use Rattle.coap_exchange.specs.Rings.{RingValue, grown}
use Rattle.coap_exchange.proofs.Firsts.{there_is, set_at}
use Rattle.coap_exchange.proofs.remembered.note_at.Goals as goal

pub returns : goal.returns
returns c =
    let rings = c.args.rings.now.items in
    let ring = c.index_mut.result.now in
    set_at (λ (r : RingValue). grown c.args.message r ∷ []) rings c.args.place ring c.push.new.self
    (there_is rings c.args.place ring c.requires c.index_mut.ensures.value)
    (ap (λ r. r ∷ []) (sym c.push.ensures))
