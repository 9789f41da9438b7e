use Rattle.std.proofs.Common.{◌≤◌, ◌∙◌, length, sym, subst}
use Rattle.dots_server.proofs.Bodies.{grant_short}
use Rattle.dots_server.proofs.replies.granting.Goals as goal

pub with_body-requires-clause-body : goal.with_body-requires-clause-body
with_body-requires-clause-body c = subst (λ xs. length xs ≤ 40) (sym (c.items.ensures ∙ c.in_ok-body.ensures.body)) (grant_short _ _)
