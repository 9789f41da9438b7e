use Rattle.std.proofs.Common.{◌≡◌, ℕ, ◌+◌, ◌*◌, ◌∷◌, [], length, ap, ◌∙◌, arith}
use Rattle.coap_message.specs.Writing.{put_at}
use Rattle.coap_message.proofs.PutAt.{put_in_turn}
use Rattle.coap_tcp.specs.Frames.{length_nibble, length_extension}
use Rattle.coap_tcp.proofs.writing.put_front.Goals as goal

pub returns : goal.returns
returns c =
    let first = 16 * length_nibble c.args.size + length c.args.token.now in
    let same : 16 * c.nibble_of.result + length c.args.token.now ≡ first = ap (λ (k : ℕ). 16 * k + length c.args.token.now) c.nibble_of.ensures.value in
    put_in_turn 0 (first ∷ []) (length_extension c.args.size) (c.args.code ∷ []) c.args.token.now c.args.into.now _ _ _ _ _ _ _
    (c.put-behind.ensures.written ∙ ap (λ (k : ℕ). put_at 0 (k ∷ []) c.args.into.now) same) c.put-behind.ensures.behind c.put_extension-behind.ensures.written c.put_extension-behind.ensures.behind
    c.put-behind-2.ensures.written c.put-behind-2.ensures.behind c.put.ensures.written (omega (arith, c.requires.room))
