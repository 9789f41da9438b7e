use Rattle.std.proofs.Common.{◌≡◌, ap, ◌∙◌}
use Rattle.std.specs.Prelude.{position}
use Rattle.coap_exchange.specs.Pairs.{is_pair, pair_with}
use Rattle.coap_exchange.proofs.Finding.{place_is}
use Rattle.coap_exchange.proofs.pairs.Pairs.place.Goals as goal

pub returns : goal.returns
returns c =
    let pair = pair_with c.args.peer c.args.domain in
    c.copied.ensures
    ∙ c.get.ensures.value
    ∙ c.self.invariant pair
    ∙ place_is pair c.self.inside.pairs.items
    ∙ ap (position (is_pair c.args.peer c.args.domain)) c.self.view_is
