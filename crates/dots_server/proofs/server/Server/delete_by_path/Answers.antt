use Rattle.std.proofs.Common.{◌∙◌, ap}
use Rattle.dots_machine.specs.declared.client_request.ClientRequest.{ClientRequest}
use Rattle.dots_machine.specs.declared.verdict.Verdict.TheVariants as verdict
use Rattle.dots_machine.specs.Deciding.{with_mid, delete_in, delete_for}
use Rattle.dots_machine.specs.Machine.{facts_in}
use Rattle.dots_server.proofs.Asked.{without_domain, with_domain}
use Rattle.dots_server.proofs.Yielding.{yields_so}
use Rattle.dots_server.proofs.server.Server.delete_by_path.Goals as goal

pub returns-in-Some-clause-decides : goal.returns-in-Some-clause-decides
returns-in-Some-clause-decides c = λ settings state represents.
    yields_so c.delete_with_mid.result _ _
    (ap (λ (from : ClientRequest). with_mid from.exchange c.args.path.mid (delete_in (facts_in settings state) from)) c.in-Some.ensures.some.1
    ∙ with_domain c.args.self.now.settings settings c.args.peer c.args.own c.args.path.cdid c.requires.own represents.settings_are c.args.exchange
    (delete_for (facts_in settings state) c.args.peer c.args.exchange c.args.path) c.in-Some.from.domain c.in-Some.ensures.some.0)
    (c.delete_with_mid.ensures.decides settings state represents)

pub returns-in-None-clause-decides : goal.returns-in-None-clause-decides
returns-in-None-clause-decides c = λ settings state represents.
    ap verdict.Reply c.bad_parameter.ensures
    ∙ without_domain c.args.self.now.settings settings c.args.peer c.args.own c.args.path.cdid c.requires.own represents.settings_are c.args.exchange
    (delete_for (facts_in settings state) c.args.peer c.args.exchange c.args.path) c.in-None.ensures.none
