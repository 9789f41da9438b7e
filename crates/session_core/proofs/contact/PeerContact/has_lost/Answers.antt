use Rattle.session_core.proofs.Turns.{lost_there}
use Rattle.session_core.proofs.contact.PeerContact.has_lost.Goals as goal

pub returns-clause-session : goal.returns-clause-session
returns-clause-session g c = lost_there _ c.args.now c.args.self.now _ c.has_lost_by.ensures
