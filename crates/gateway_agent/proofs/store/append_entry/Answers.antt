use Rattle.std.proofs.Common.{◌≡◌, ◌+◌, ◌++◌, length, ap, ◌∙◌, arith}
use Rattle.std.specs.Int.{w64, to_be_bytes}
use Rattle.dots_history.specs.declared.entry.Entry.{Entry}
use Rattle.gateway_agent.proofs.Sizes.{put_back}
use Rattle.gateway_agent.proofs.store.append_entry.Goals as goal

pub returns-clause-replies : goal.returns-clause-replies
returns-clause-replies g c =
    let token = ap length c.bytes-size.ensures.value in
    let small = c.bytes-size.ensures.size in
    let is = ap length (c.reply_in.ensures ∙ ap (λ (e : Entry). e.reply) c.entry_of-entry.ensures) in
    let long : length (to_be_bytes w64 c.args.exchange.now.number ++ c.args.exchange.now.token) ≡ 8 + length c.args.exchange.now.token = omega arith in
    put_back
    c.args.replies.now.items
    (length c.bytes-size.result.now)
    c.replace-spare.new.dest
    c.reply_in.result
    c.requires.replies
    (omega (arith, small))
    (omega (arith, token, is, long))
