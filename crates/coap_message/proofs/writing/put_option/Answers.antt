use Rattle.std.proofs.Common.{◌≡◌, ℕ, ◌+◌, ◌*◌, ◌-◌, [], ◌∷◌, length, ◌∙◌, ap, arith}
use Rattle.coap_message.specs.Message.{nibble, extension}
use Rattle.coap_message.specs.Writing.{put_at}
use Rattle.coap_message.proofs.PutAt.{put_in_turn}
use Rattle.coap_message.proofs.writing.put_option.Goals as goal

pub returns-clause-written : goal.returns-clause-written
returns-clause-written c =
    let delta = c.args.row.now.number - c.args.previous in
    let first : 16 * c.nibble_of.result + c.nibble_of-2.result ≡ 16 * nibble delta + nibble (length c.args.row.now.value.now) = omega (arith, c.nibble_of.ensures.value, c.nibble_of-2.ensures.value) in
    put_in_turn c.args.at ((16 * nibble delta + nibble (length c.args.row.now.value.now)) ∷ []) (extension delta) (extension (length c.args.row.now.value.now)) c.args.row.now.value.now c.args.into.now _ _ _ _ _ _ _
    (c.put-behind.ensures.written ∙ ap (λ (n : ℕ). put_at c.args.at (n ∷ []) c.args.into.now) first)
    c.put-behind.ensures.behind c.put_extension-behind.ensures.written c.put_extension-behind.ensures.behind
    c.put_extension-behind-2.ensures.written c.put_extension-behind-2.ensures.behind c.put.ensures.written c.requires.room
