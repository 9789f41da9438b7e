use Rattle.std.proofs.Common.{ap, ◌∙◌}
use Rattle.live_mitigations.specs.LiveValues.{LiveValue, rows_for}
use Rattle.live_mitigations.proofs.Room.{rows_are_live}
use Rattle.live_mitigations.proofs.live.LiveMitigations.rows.Goals as goal

pub returns-clause-live : goal.returns-clause-live
returns-clause-live c = λ entries stands.
    c.rows.ensures
    ∙ ap (λ (v : LiveValue). rows_for v c.args.domain) c.self.view_is
    ∙ rows_are_live c.args.self.now entries c.args.domain c.requires stands
