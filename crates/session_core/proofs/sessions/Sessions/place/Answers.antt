use Rattle.std.proofs.Common.{ap, ◌∙◌}
use Rattle.std.specs.Prelude.{position}
use Rattle.session_core.specs.Contacts.{is_of}
use Rattle.session_core.proofs.Placing.{row_place}
use Rattle.session_core.proofs.sessions.Sessions.place.Goals as goal

pub returns : goal.returns
returns c =
    c.copied.ensures
    ∙ c.get.ensures.value
    ∙ c.self.invariant c.args.peer
    ∙ row_place c.args.peer c.self.inside.rows.items
    ∙ ap (position (is_of c.args.peer)) c.self.view_is
