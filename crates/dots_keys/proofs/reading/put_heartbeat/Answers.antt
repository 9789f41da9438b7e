use Rattle.std.proofs.Common.{Bool, sym}
use Rattle.std.proofs.lemmas.Result.{err_from_is_err_and}
use Rattle.cbor_profile.specs.ItemTrees.{tree_of}
use Rattle.dots_keys.specs.declared.request.Request.TheVariants as request
use Rattle.dots_keys.specs.Meaning.{put_heartbeat_with}
use Rattle.dots_keys.specs.Heartbeats.{heartbeat_of}
use Rattle.dots_keys.proofs.Answering.{fulfils, refused_payload, answers_value, answers_refusal}
use Rattle.dots_keys.proofs.reading.put_heartbeat.Goals as goal

pub returns-in_err-item : goal.returns-in_err-item
returns-in_err-item c =
    let p = err_from_is_err_and c.from_residual.result c.from_residual.ensures.1 in
    rw (p.1, p.2) (refused_payload c.args.payload.now put_heartbeat_with c.in_err-item.field-0.0 c.in_err-item.ensures.refused)

pub returns-in_err-heard : goal.returns-in_err-heard
returns-in_err-heard c =
    let e = c.in_err-heard.field-0.0 in
    let p = err_from_is_err_and c.from_residual-in_err-heard.result c.from_residual-in_err-heard.ensures.1 in
    rw (p.1, p.2) (fulfils e (answers_refusal c.args.payload.now heartbeat_of (λ (heard : Bool). request.PutHeartbeat heard) (tree_of c.in_ok-item.item) e c.in_ok-item.ensures.found (sym c.in_err-heard.ensures)))

pub returns : goal.returns
returns c =
    answers_value c.args.payload.now heartbeat_of (λ (heard : Bool). request.PutHeartbeat heard) (tree_of c.in_ok-item.item) c.in_ok-heard.heard c.in_ok-item.ensures.found (sym c.in_ok-heard.ensures)
