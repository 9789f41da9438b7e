use Rattle.dots_host.proofs.Sends.{handed_one}
use Rattle.dots_host.proofs.sending.send_to.Goals as goal

pub returns-clause-handed : goal.returns-clause-handed
returns-clause-handed g c = handed_one _ _ _ _ _ _ c.send-sent.ensures.acts
