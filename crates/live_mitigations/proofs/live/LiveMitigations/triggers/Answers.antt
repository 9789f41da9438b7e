use Rattle.std.proofs.Common.{refl, ap, ◌∙◌}
use Rattle.std.specs.Prelude.{◌==◌, ◌&&◌}
use Rattle.dots_history.specs.declared.entry.Entry.{Entry}
use Rattle.dots_history.specs.Histories.{Mitigation}
use Rattle.dots_history.specs.Rows.{triggers}
use Rattle.live_mitigations.specs.Rows.{any_row}
use Rattle.live_mitigations.specs.LiveValues.{LiveValue}
use Rattle.live_mitigations.proofs.Peers.{any_live_row}
use Rattle.live_mitigations.proofs.live.LiveMitigations.triggers.Goals as goal

pub returns : goal.returns
returns c = λ entries stands.
    c.triggers.ensures
    ∙ ap (λ (v : LiveValue). any_row (λ (m : Mitigation). (m.put.peer == c.args.peer) && triggers m.put.change) v.tables) c.self.view_is
    ∙ any_live_row (λ (e : Entry). (e.peer == c.args.peer) && triggers e.change) c.args.self.now entries (λ e. refl) stands
