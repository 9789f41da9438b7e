use Rattle.std.proofs.Common.{ap, sym, subst, ◌∙◌}
use Rattle.std.specs.Prelude.{option_map, slice_get}
use Rattle.dots_client.specs.declared.answers.Answer.{Answer}
use Rattle.dots_client.specs.Answers.{Says}
use Rattle.dots_client.specs.Client.{ClientValue, WaitingValue}
use Rattle.dots_client.specs.Steps.{Sets, Drops}
use Rattle.dots_client.proofs.Ends.{lacks, lifetime_passed, yields_grant, yields_withdrawal, yields_refusal}
use Rattle.dots_client.proofs.client.ClientCore.answered.Goals as goal

pub returns-in-Ok-Granted : goal.returns-in-Ok-Granted
returns-in-Ok-Granted c =
    let seen = sym (ap (λ (k : ClientValue). option_map (λ (x : WaitingValue). x.request) (slice_get k.waiting c.args.place)) c.self.view_is) ∙ c.request.ensures in
    let says = subst (λ (a : Answer). Says c.request.result.now c.args.message.now a) c.in-Ok-Granted.field-0-is c.in-Ok-Granted.ensures.says in
    yields_grant c.args.self.now c.args.message.now c.args.place c.args.now c.in-Ok-Granted.lifetime c.request.result.now _ _ c.requires seen says
    (
    subst (λ z. Sets c.args.self.now c.args.place z c.args.now c.granted.result c.granted.new.self)
    (lifetime_passed c.request.result.now c.args.message.now c.in-Ok-Granted.lifetime says) c.granted.ensures
    )

pub returns-in-Ok-Withdrawn : goal.returns-in-Ok-Withdrawn
returns-in-Ok-Withdrawn c =
    let seen = sym (ap (λ (k : ClientValue). option_map (λ (x : WaitingValue). x.request) (slice_get k.waiting c.args.place)) c.self.view_is) ∙ c.request.ensures in
    let says = subst (λ (a : Answer). Says c.request.result.now c.args.message.now a) c.in-Ok-Withdrawn.field-0-is c.in-Ok-Withdrawn.ensures.says in
    yields_withdrawal c.args.self.now c.args.message.now c.args.place c.args.now c.request.result.now _ _ c.requires seen says c.withdrawn.ensures

pub returns-in-Ok-Refused : goal.returns-in-Ok-Refused
returns-in-Ok-Refused c =
    let seen = sym (ap (λ (k : ClientValue). option_map (λ (x : WaitingValue). x.request) (slice_get k.waiting c.args.place)) c.self.view_is) ∙ c.request.ensures in
    let says = subst (λ (a : Answer). Says c.request.result.now c.args.message.now a) c.in-Ok-Refused.field-0-is c.in-Ok-Refused.ensures.says in
    let leaves = subst (λ code. Drops c.args.self.now c.args.place code c.refused.result c.refused.new.self) c.code.ensures c.refused.ensures in
    yields_refusal c.args.self.now c.args.message.now c.args.place c.args.now c.request.result.now _ _ c.requires seen says leaves

pub returns-in-Err : goal.returns-in-Err
returns-in-Err c =
    let seen = sym (ap (λ (k : ClientValue). option_map (λ (x : WaitingValue). x.request) (slice_get k.waiting c.args.place)) c.self.view_is) ∙ c.request.ensures in
    lacks c.args.self.now c.args.message.now c.args.place c.args.now c.request.result.now c.requires seen c.in-Err.ensures.lacks
