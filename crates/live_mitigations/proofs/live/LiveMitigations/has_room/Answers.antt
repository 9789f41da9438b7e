use Rattle.std.proofs.Common.{ap, sym, ◌∙◌}
use Rattle.live_mitigations.specs.LiveValues.{LiveValue, rows_for, keeps_limits}
use Rattle.live_mitigations.proofs.Room.{has_room_is}
use Rattle.live_mitigations.proofs.live.LiveMitigations.has_room.Goals as goal

pub returns-clause-kept : goal.returns-clause-kept
returns-clause-kept c =
    c.keep_limits.ensures
    ∙ ap (keeps_limits c.self.inside.limits c.args.entry.now) c.rows.ensures
    ∙ ap (λ (v : LiveValue). keeps_limits v.limits c.args.entry.now (rows_for v c.args.entry.now.domain)) c.self.view_is

pub returns-clause-room : goal.returns-clause-room
returns-clause-room c = λ entries stands.
    returns-clause-kept c ∙ sym (has_room_is c.args.self.now entries c.args.entry.now c.requires.later c.requires.inside stands)
