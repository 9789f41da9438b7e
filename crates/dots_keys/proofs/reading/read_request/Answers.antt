use Rattle.std.proofs.lemmas.Result.{err_from_is_err_and, IfOk-weaker}
use Rattle.dots_keys.specs.Askable.{IsAskable}
use Rattle.dots_keys.specs.Lifetimes.{HasLifetime}
use Rattle.dots_keys.specs.HeadValues.{head_value}
use Rattle.dots_keys.proofs.Askable.{answered_askable, askable_lifetime}
use Rattle.dots_keys.proofs.Waiting.{answered_waits}
use Rattle.dots_keys.proofs.WithoutMemory.{no_refusal}
use Rattle.dots_keys.proofs.reading.read_request.Goals as goal

pub returns-in_err-head-clause-memory : goal.returns-in_err-head-clause-memory
returns-in_err-head-clause-memory c =
    let p = err_from_is_err_and c.from_residual.result c.from_residual.ensures.1 in
    λ memory. let e = p.2 in let f = c.in_err-head.ensures in no_refusal c.args.message.now c.args.gateway c.in_err-head.field-0.0 c.in_err-head.ensures.value (cc)

pub returns-clause-askable : goal.returns-clause-askable
returns-clause-askable c =
    answered_askable c.args.message.now c.args.gateway (head_value c.in_ok-head.head) c.payload.result.now c.complete.result c.in_ok-head.ensures.value c.complete.ensures

pub returns-clause-lifetime : goal.returns-clause-lifetime
returns-clause-lifetime c =
    IfOk-weaker c.complete.result IsAskable HasLifetime askable_lifetime
    (answered_askable c.args.message.now c.args.gateway (head_value c.in_ok-head.head) c.payload.result.now c.complete.result c.in_ok-head.ensures.value c.complete.ensures)

pub returns-clause-waits : goal.returns-clause-waits
returns-clause-waits c = answered_waits (head_value c.in_ok-head.head) c.payload.result.now c.complete.result c.complete.ensures
