use Rattle.std.proofs.Common.{◌+◌, length, map, ap, sym, ◌∙◌, arith}
use Rattle.std.proofs.lemmas.List.{length-map, length-take-le}
use Rattle.std.proofs.lemmas.List.FromFn.{length-range_with_len}
use Rattle.gateway_agent.proofs.Sizes.{sizes_more}
use Rattle.gateway_agent.proofs.replies.spare_replies.Goals as goal

pub push_reserved-requires : goal.push_reserved-requires
push_reserved-requires c =
    let long = sym (length-map c.loop-token.replies.items length) ∙ ap length c.loop-token.invariant.0 ∙ length-range_with_len 8 c.loop-token.token in
    omega (arith, long, c.loop-token.invariant.1, c.loop-token-test.true, c.loop-token.replies.ok)

pub loop-token-preserved : goal.loop-token-preserved
loop-token-preserved c = (
  ap (map length) c.push_reserved.ensures.items
      ∙ sizes_more c.loop-token.replies.items c.loop-token.token c.in_ok-reply.reply c.loop-token.invariant.0
      (ap length c.in_ok-reply.ensures ∙ length-take-le (8 + c.loop-token.token) _ (omega (arith, c.loop-token-test.true))),
  omega (arith, c.push_reserved.ensures.capacity, c.loop-token.invariant.1),
)
