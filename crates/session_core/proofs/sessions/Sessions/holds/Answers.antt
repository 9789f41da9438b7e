use Rattle.std.proofs.Common.{ap, ◌∙◌}
use Rattle.std.specs.Prelude.{is_some}
use Rattle.session_core.specs.Contacts.{is_of}
use Rattle.session_core.proofs.Placing.{any_placed}
use Rattle.session_core.proofs.sessions.Sessions.holds.Goals as goal

pub returns : goal.returns
returns c = c.is_some.ensures ∙ ap is_some c.place.ensures ∙ any_placed (is_of c.args.peer) c.args.self.now
