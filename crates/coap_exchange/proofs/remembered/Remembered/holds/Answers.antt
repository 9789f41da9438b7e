use Rattle.std.proofs.Common.{◌≡◌, ap, ◌∙◌}
use Rattle.std.specs.List.{list_any}
use Rattle.coap_exchange.specs.Rings.{is_ring_of}
use Rattle.coap_exchange.proofs.Finding.{ring_there}
use Rattle.coap_exchange.proofs.remembered.Remembered.holds.Goals as goal

pub returns : goal.returns
returns c =
    c.holds.ensures
    ∙ ring_there c.args.peer c.args.domain c.self.inside.rings.items c.self.inside.pairs c.self.invariant
    ∙ ap (list_any (is_ring_of c.args.peer c.args.domain)) c.self.view_is
