use Rattle.std.proofs.Common.{Ok, ap, ◌∙◌}
use Rattle.serde_json.specs.View.{view}
use Rattle.acl_lists.specs.declared.alias.Alias.{Alias}
use Rattle.list_json.specs.declared.fault.Member.TheVariants as the
use Rattle.list_json.specs.Steps.{◌>>=◌}
use Rattle.data_channel.specs.declared.request.RestRequest.TheVariants as request
use Rattle.data_channel.specs.Bodies.{alias_body, same_name, named_alias}
use Rattle.data_channel.proofs.Putting.{put_checked, fails_on}
use Rattle.data_channel.proofs.bodies.put_alias.Goals as goal

pub returns-in-Ok : goal.returns-in-Ok
returns-in-Ok c =
    let put = request.PutAlias c.args.cuid in
    put_checked put (λ (alias : Alias). same_name the.Name c.args.name.now alias.name) (alias_body (view c.args.body.now)) ∙ ap (λ r. r >>= λ x. Ok (put x)) c.in-Ok.ensures

pub returns-in-Err : goal.returns-in-Err
returns-in-Err c =
    let put = request.PutAlias c.args.cuid in
    rw (put_checked put (λ (alias : Alias). same_name the.Name c.args.name.now alias.name) (alias_body (view c.args.body.now)))
    (fails_on c.in-Err.fault (named_alias c.args.name.now (view c.args.body.now)) (λ x. Ok (put x)) c.in-Err.ensures)
