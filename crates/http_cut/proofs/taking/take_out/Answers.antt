use Rattle.http_cut.specs.Owned.{owned_values}
use Rattle.http_cut.specs.Requests.{request_value}
use Rattle.http_cut.proofs.Takings.{lacking_by, one_open, one_closed}
use Rattle.http_cut.proofs.taking.take_out.Goals as goal

pub returns-in_err-copy-in-Request : goal.returns-in_err-copy-in-Request
returns-in_err-copy-in-Request c =
    lacking_by _ c.requests.stream _ (owned_values c.requests.out) (request_value c.in-Request.request) c.from_residual.result _ c.from_residual.ensures.1 c.requests.invariant c.in-Request.ensures.cut

pub returns-in_err-push-in-Request : goal.returns-in_err-push-in-Request
returns-in_err-push-in-Request c =
    rw (c.in_err-push-in-Request.ensures.err) (
    lacking_by _ c.requests.stream _ (owned_values c.requests.out) (request_value c.in-Request.request) c.from_residual-in_err-push-in-Request.result _ c.from_residual-in_err-push-in-Request.ensures.1 c.requests.invariant
    c.in-Request.ensures.cut
    )

pub returns-then-close : goal.returns-then-close
returns-then-close c =
    one_closed c.args.stream.now c.requests.stream c.discard.new.self _ c.requests.out c.push.new.self c.in_ok-copy-in-Request.copy (request_value c.in-Request.request)
    c.requests.invariant c.in-Request.ensures.cut c.in_ok-push-in-Request.ensures.ok c.in_ok-copy-in-Request.ensures c.discard.ensures c.if-close.true

pub requests-preserved : goal.requests-preserved
requests-preserved c =
    one_open c.args.stream.now c.requests.stream c.discard.new.self _ c.requests.out c.push.new.self c.in_ok-copy-in-Request.copy (request_value c.in-Request.request)
    c.requests.invariant c.in-Request.ensures.cut c.in_ok-push-in-Request.ensures.ok c.in_ok-copy-in-Request.ensures c.discard.ensures c.if-close.false
