use Rattle.std.proofs.Common.{ℕ, ◌%◌, List, [], ◌∷◌, ◌++◌, length, ap, ◌∙◌, arith}
use Rattle.coap_exchange.specs.Resending.{SenderValue}
use Rattle.coap_exchange.specs.Sent.{given}
use Rattle.dots_client.specs.Client.{WaitingValue}
use Rattle.dots_client.specs.Waiting.{RequestsValue, pairs}
use Rattle.dots_client.proofs.Beside.{pairs_length, pairs_push, waiting}
use Rattle.dots_client.proofs.waiting.Waiting.push.Goals as goal

abbrev values : ℕ → List WaitingValue → RequestsValue
values room ws = record { room = room; waiting = ws }

pub unreachable-requires : goal.unreachable-requires
unreachable-requires c =
    let size = pairs_length c.self.inside.requests.items c.self.inside.sender.sent c.self.invariant.0 in
    let seen = ap (λ (w : RequestsValue). length w.waiting) c.self.view_is in
    let room = ap (λ (w : RequestsValue). w.room) c.self.view_is in
    let less = c.requires in
    let full = c.in-Err.ensures.busy in
    omega (arith, size, seen, room, less, full)

pub returns : goal.returns
returns c =
    let sent = ap (λ (s : SenderValue). s.sent) c.in-Ok.ensures.given in
    let room = ap (λ (s : SenderValue). s.room) c.in-Ok.ensures.given in
    let r = c.args.request in
    let s = given c.args.bytes (r.number % 65536) c.args.now c.args.word in
    let more = ap (λ rs. pairs rs c.send.new.self.sent) c.push_reserved.ensures.items
    ∙ ap (pairs (c.self.inside.requests.items ++ r ∷ [])) sent
    ∙ pairs_push c.self.inside.requests.items c.self.inside.sender.sent r s c.self.invariant.0 in
    ap (λ (n : ℕ). values n (pairs c.push_reserved.new.self.items c.send.new.self.sent)) room
    ∙ ap (λ (ws : List WaitingValue). values c.self.inside.sender.room ws) more
    ∙ ap (λ (w : RequestsValue). values w.room (w.waiting ++ waiting r s ∷ [])) c.self.view_is
