use Rattle.std.proofs.Common.{◌≡◌, ℕ, List, drop, ap, subst, ◌∙◌}
use Rattle.coap_tcp.specs.Frames.{BeginsWith}
use Rattle.coap_tcp.specs.FrameReading.{frame_value}
use Rattle.coap_tcp.specs.Connections.{StreamValue, size_of, turn_size}
use Rattle.coap_tcp.proofs.FrameLemmas.{served_same}
use Rattle.coap_tcp.proofs.stream.SignalStream.turn.Goals as goal

pub returns-then-self-clause-served : goal.returns-then-self-clause-served
returns-then-self-clause-served c =
    let frame = c.in-Message.frame in
    let begins : BeginsWith c.args.self.now.bytes (frame_value frame) (drop frame.length c.args.self.now.bytes)
    = subst (λ (y : List ℕ). BeginsWith y (frame_value frame) (drop frame.length y)) (ap (λ (s : StreamValue). s.bytes) c.self.view_is) c.in-Message.ensures.begins in
    served_same (λ f n. BeginsWith c.args.self.now.bytes f (drop n c.args.self.now.bytes)) c.later_turn.result frame c.later_turn.ensures.served begins

pub returns-then-self-clause-size : goal.returns-then-self-clause-size
returns-then-self-clause-size c =
    let frame = c.in-Message.frame in
    let size : frame.length ≡ turn_size c.args.self.now.bytes
    = c.in-Message.ensures.length ∙ ap size_of c.in-Message.ensures.cut ∙ ap (λ (s : StreamValue). turn_size s.bytes) c.self.view_is in
    served_same (λ f n. n ≡ turn_size c.args.self.now.bytes) c.later_turn.result frame c.later_turn.ensures.served size
