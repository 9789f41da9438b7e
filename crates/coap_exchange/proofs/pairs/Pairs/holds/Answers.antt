use Rattle.std.proofs.Common.{◌≡◌, ap, ◌∙◌}
use Rattle.std.specs.Prelude.{is_some}
use Rattle.coap_exchange.specs.Pairs.{is_pair}
use Rattle.coap_exchange.proofs.Finding.{any_there}
use Rattle.coap_exchange.proofs.pairs.Pairs.holds.Goals as goal

pub returns : goal.returns
returns c = c.is_some.ensures ∙ ap is_some c.place.ensures ∙ any_there (is_pair c.args.peer c.args.domain) c.args.self.now
