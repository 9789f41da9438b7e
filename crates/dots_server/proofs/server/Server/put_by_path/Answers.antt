use Rattle.std.proofs.Common.{◌||◌, ◌∙◌, ap, subst}
use Rattle.dots_settings.specs.Lookups.{role_of}
use Rattle.dots_history.specs.Calm.{is_client_of}
use Rattle.dots_machine.specs.declared.client_request.ClientRequest.{ClientRequest}
use Rattle.dots_machine.specs.declared.verdict.Verdict.TheVariants as verdict
use Rattle.dots_machine.specs.Deciding.{with_mid, put_in, put_for}
use Rattle.dots_machine.specs.Machine.{facts_in}
use Rattle.dots_server.proofs.Asked.{without_domain, yields_there, may_wait}
use Rattle.dots_history.specs.Entries.{option_any}
use Rattle.dots_server.specs.LackingMemory.{put_in_takes, put_for_takes, Yields}
use Rattle.dots_server.proofs.server.Server.put_by_path.Goals as goal

pub put_with_mid-requires-clause-waits : goal.put_with_mid-requires-clause-waits
put_with_mid-requires-clause-waits c =
    ap (λ (from : ClientRequest). c.args.body.trigger || is_client_of (role_of c.args.self.now.settings from.peer) from.domain) c.in-Some.ensures.some.1
    ∙ may_wait c.args.self.now.settings c.args.peer c.args.own c.requires.own c.args.path.cdid c.args.body.trigger c.in-Some.from.domain c.in-Some.ensures.some.0 c.requires.waits

pub returns-in-Some-clause-decides : goal.returns-in-Some-clause-decides
returns-in-Some-clause-decides c = λ settings state represents.
    let facts = facts_in settings state in
    yields_there c.args.self.now.settings settings c.args.peer c.args.own c.args.path.cdid c.requires.own represents.settings_are c.args.exchange
    (put_for settings facts c.args.peer c.args.exchange c.args.path c.args.body) c.put_with_mid.result
    (put_for_takes settings facts c.args.peer c.args.exchange c.args.path c.args.body) c.in-Some.from.domain c.in-Some.ensures.some.0
    (subst (λ (from : ClientRequest). Yields c.put_with_mid.result (with_mid from.exchange c.args.path.mid (put_in settings facts from c.args.body)) (option_any (put_in_takes settings facts from c.args.body) c.args.path.mid))
    c.in-Some.ensures.some.1 (c.put_with_mid.ensures.decides settings state represents))

pub returns-in-None-clause-decides : goal.returns-in-None-clause-decides
returns-in-None-clause-decides c = λ settings state represents.
    ap verdict.Reply c.bad_parameter.ensures
    ∙ without_domain c.args.self.now.settings settings c.args.peer c.args.own c.args.path.cdid c.requires.own represents.settings_are c.args.exchange
    (put_for settings (facts_in settings state) c.args.peer c.args.exchange c.args.path c.args.body) c.in-None.ensures.none
