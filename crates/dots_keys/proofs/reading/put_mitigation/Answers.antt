use Rattle.std.proofs.Common.{◌≡◌, Bool, Ok, Err, subst}
use Rattle.dots_keys.specs.Results.{Fails}
use Rattle.std.specs.Prelude.{is_some}
use Rattle.std.proofs.lemmas.Result.{err_from_is_err_and}
use Rattle.cbor_profile.specs.ItemTrees.{tree_of}
use Rattle.dots_keys.specs.declared.request.MitigationBody.{MitigationBody}
use Rattle.dots_keys.specs.declared.request.Request.TheVariants as request
use Rattle.dots_keys.specs.Meaning.{put_mitigation_with}
use Rattle.dots_keys.specs.Mitigations.{mitigation_of}
use Rattle.dots_keys.proofs.Answering.{fulfils_more, failed, refused_payload, answers_value, answers_refusal}
use Rattle.dots_keys.proofs.reading.put_mitigation.Goals as goal

pub returns-in_err-item : goal.returns-in_err-item
returns-in_err-item c =
    let p = err_from_is_err_and c.from_residual.result c.from_residual.ensures.1 in
    rw (p.1, p.2) (refused_payload c.args.payload.now (put_mitigation_with c.args.path) c.in_err-item.field-0.0 c.in_err-item.ensures.refused)

pub returns-in_err-body : goal.returns-in_err-body
returns-in_err-body c =
    let e = c.in_err-body.field-0.0 in
    let gateway = is_some c.args.path.cdid in
    let tree = tree_of c.in_ok-item.item in
    let p = err_from_is_err_and c.from_residual-in_err-body.result c.from_residual-in_err-body.ensures.1 in
    rw (p.1, p.2) (
    fulfils_more e
    (λ (is : mitigation_of gateway tree ≡ Err e). answers_refusal c.args.payload.now (mitigation_of gateway) (λ (body : MitigationBody). request.PutMitigation c.args.path body) tree e c.in_ok-item.ensures.found is)
    (failed e (mitigation_of gateway tree) (subst (λ (g : Bool). Fails e (mitigation_of g tree)) c.is_some.ensures c.in_err-body.ensures))
    )

pub returns : goal.returns
returns c =
    let gateway = is_some c.args.path.cdid in
    answers_value c.args.payload.now (mitigation_of gateway) (λ (body : MitigationBody). request.PutMitigation c.args.path body) (tree_of c.in_ok-item.item) c.in_ok-body.body c.in_ok-item.ensures.found
    (subst (λ (g : Bool). mitigation_of g (tree_of c.in_ok-item.item) ≡ Ok c.in_ok-body.body) c.is_some.ensures c.in_ok-body.ensures)
