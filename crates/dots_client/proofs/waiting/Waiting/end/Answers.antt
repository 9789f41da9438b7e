use Rattle.std.proofs.Common.{ℕ, List, length, sym, ap, ◌∙◌, arith}
use Rattle.std.specs.Prelude.{option_map, slice_get}
use Rattle.std.specs.List.{remove}
use Rattle.coap_exchange.specs.Resending.{SenderValue}
use Rattle.coap_exchange.proofs.Firsts.{there_is}
use Rattle.dots_client.specs.Client.{WaitingValue}
use Rattle.dots_client.specs.Waiting.{RequestsValue, pairs}
use Rattle.dots_client.proofs.Beside.{pairs_length, pairs_get, pairs_remove}
use Rattle.dots_client.proofs.waiting.Waiting.end.Goals as goal

abbrev values : ℕ → List WaitingValue → RequestsValue
values room ws = record { room = room; waiting = ws }

pub remove-requires : goal.remove-requires
remove-requires c =
    let size = pairs_length c.self.inside.requests.items c.self.inside.sender.sent c.self.invariant.0 in
    let seen = ap (λ (w : RequestsValue). length w.waiting) c.self.view_is in
    let less = c.requires in
    omega (arith, size, seen, less)

pub remove-requires-2 : goal.remove-requires-2
remove-requires-2 c =
    let size = pairs_length c.self.inside.requests.items c.self.inside.sender.sent c.self.invariant.0 in
    let seen = ap (λ (w : RequestsValue). length w.waiting) c.self.view_is in
    let same = c.self.invariant.0 in
    let less = c.requires in
    omega (arith, size, seen, same, less)

pub returns-clause-gone : goal.returns-clause-gone
returns-clause-gone c =
    let sent = ap (λ (s : SenderValue). s.sent) c.remove.ensures in
    let room = ap (λ (s : SenderValue). s.room) c.remove.ensures in
    let gone = ap (λ rs. pairs rs c.remove.new.self.sent) c.remove-2.ensures.items ∙ ap (pairs (remove c.self.inside.requests.items c.args.place)) sent
    ∙ pairs_remove c.self.inside.requests.items c.self.inside.sender.sent c.args.place c.self.invariant.0 in
    ap (λ (r : ℕ). values r (pairs c.remove-2.new.self.items c.remove.new.self.sent)) room
    ∙ ap (λ (ws : List WaitingValue). values c.self.inside.sender.room ws) gone
    ∙ ap (λ (w : RequestsValue). values w.room (remove w.waiting c.args.place)) c.self.view_is

pub returns-clause-value : goal.returns-clause-value
returns-clause-value c =
    let size = pairs_length c.self.inside.requests.items c.self.inside.sender.sent c.self.invariant.0 in
    let seen = ap (λ (w : RequestsValue). length w.waiting) c.self.view_is in
    let same = c.self.invariant.0 in
    let less = c.requires in
    sym (ap (λ (w : RequestsValue). option_map (λ (x : WaitingValue). x.request) (slice_get w.waiting c.args.place)) c.self.view_is)
    ∙ pairs_get c.self.inside.requests.items c.self.inside.sender.sent c.args.place same
    ∙ there_is c.self.inside.requests.items c.args.place c.remove-2.result (omega (arith, size, seen, same, less)) c.remove-2.ensures.value
