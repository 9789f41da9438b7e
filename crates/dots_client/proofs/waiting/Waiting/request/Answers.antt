use Rattle.std.proofs.Common.{length, sym, ap, ◌∙◌, arith}
use Rattle.std.specs.Prelude.{option_map, slice_get}
use Rattle.coap_exchange.proofs.Firsts.{there_is}
use Rattle.dots_client.specs.Client.{WaitingValue}
use Rattle.dots_client.specs.Waiting.{RequestsValue}
use Rattle.dots_client.proofs.Beside.{pairs_length, pairs_get}
use Rattle.dots_client.proofs.waiting.Waiting.request.Goals as goal

pub index-requires : goal.index-requires
index-requires c =
    let size = pairs_length c.self.inside.requests.items c.self.inside.sender.sent c.self.invariant.0 in
    let seen = ap (λ (w : RequestsValue). length w.waiting) c.self.view_is in
    let same = c.self.invariant.0 in
    let less = c.requires in
    omega (arith, size, seen, same, less)

pub returns : goal.returns
returns c =
    let size = pairs_length c.self.inside.requests.items c.self.inside.sender.sent c.self.invariant.0 in
    let seen = ap (λ (w : RequestsValue). length w.waiting) c.self.view_is in
    let same = c.self.invariant.0 in
    let less = c.requires in
    sym (ap (λ (w : RequestsValue). option_map (λ (x : WaitingValue). x.request) (slice_get w.waiting c.args.place)) c.self.view_is)
    ∙ pairs_get c.self.inside.requests.items c.self.inside.sender.sent c.args.place same
    ∙ there_is c.self.inside.requests.items c.args.place c.index.result.now (omega (arith, size, seen, same, less)) c.index.ensures
