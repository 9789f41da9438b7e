use Rattle.session_core.proofs.Fixing.{fixed}
use Rattle.session_core.proofs.notice_laws.sends_fix_who_was_notified.Goals as goal

pub returns : goal.returns
returns c = fixed
