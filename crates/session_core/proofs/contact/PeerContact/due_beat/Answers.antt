use Rattle.session_core.proofs.Turns.{due_waited}
use Rattle.session_core.proofs.contact.PeerContact.due_beat.Goals as goal

pub returns-clause-waited : goal.returns-clause-waited
returns-clause-waited g c = due_waited _ c.args.now c.args.self.now _ c.due_beat_by.ensures
