use Rattle.std.proofs.Common.{ℕ, ap, ◌∙◌}
use Rattle.std.specs.Prelude.{Result}
use Rattle.http_cut.specs.declared.fault.HttpFault.{HttpFault}
use Rattle.http_cut.specs.Requests.{by_framing, cut_value_behind}
use Rattle.http_cut.specs.SpanValues.{head_at}
use Rattle.http_cut.proofs.cutting.cut_behind.Goals as goal

pub returns-in-Ok : goal.returns-in-Ok
unfolding cut_value_behind
returns-in-Ok c =
    c.cut_body.ensures ∙ ap (λ (r : Result ℕ HttpFault). by_framing (head_at c.args.bytes.now c.args.head.now c.args.fields.now) c.args.rest.now r) c.in-Ok.ensures.value

pub returns-in-Err : goal.returns-in-Err
unfolding cut_value_behind
returns-in-Err c = ap (λ (r : Result ℕ HttpFault). by_framing (head_at c.args.bytes.now c.args.head.now c.args.fields.now) c.args.rest.now r) c.in-Err.ensures.value
