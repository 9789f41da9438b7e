use Rattle.std.proofs.Common.{ap, ◌∙◌, ℕ}
use Rattle.conflict_rules.specs.LiveViews.{live_views_of}
use Rattle.live_mitigations.specs.LiveRows.{mitigations_in}
use Rattle.live_mitigations.proofs.Room.{views_are}
use Rattle.live_mitigations.proofs.live.LiveMitigations.mitigations.Goals as goal

pub returns : goal.returns
returns c = λ entries stands.
    c.of.ensures
    ∙ ap (λ (t : ℕ). live_views_of t c.args.cuid.now (mitigations_in c.rows.result.now)) c.time.ensures
    ∙ ap (live_views_of c.args.self.now.time c.args.cuid.now) (c.rows.ensures.live entries stands)
    ∙ views_are c.args.self.now.time c.args.domain c.args.cuid.now entries
