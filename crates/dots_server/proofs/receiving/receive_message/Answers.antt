use Rattle.std.proofs.Common.{refl, ap, sym, ◌∙◌, Ok, Err}
use Rattle.dots_machine.specs.declared.received.Received.TheVariants as received
use Rattle.dots_machine.specs.Requests.{asks_nothing, meant}
use Rattle.dots_server.proofs.ReplyReceived.{fulfilled}
use Rattle.dots_server.proofs.receiving.receive_message.Goals as goal

pub returns-in-Some-clause-received : goal.returns-in-Some-clause-received
returns-in-Some-clause-received c = asks_nothing c.args.message.now _ c.requires refl (sym c.dismissed.ensures ∙ c.in-Some.is) refl

pub returns-in-Ok-clause-received : goal.returns-in-Ok-clause-received
returns-in-Ok-clause-received c =
    meant c.args.message.now (Ok c.in-Ok.request) c.requires refl (sym c.dismissed.ensures ∙ c.in_default.is) c.in-Ok.ensures.means (ap (λ x. received.Asked x c.in-Ok.request) c.of-exchange.ensures)

pub returns-in-Ok-clause-grantable : goal.returns-in-Ok-clause-grantable
returns-in-Ok-clause-grantable c = (c.in-Ok.ensures.askable, c.in-Ok.ensures.waits)

pub returns-in_default-reject : goal.returns-in_default-reject
returns-in_default-reject c =
    let reject = c.in-Err.reject in
    let means = fulfilled reject _ c.in_default-reject.not-NoMemory c.in-Err.ensures.means in record {
      received = meant c.args.message.now (Err reject) c.requires refl (sym c.dismissed.ensures ∙ c.in_default.is) means (ap (λ x. received.Refused x reject) c.of-exchange.ensures);
      grantable = tt;
      lacks = tt;
    }
