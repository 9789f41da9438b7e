use Rattle.std.proofs.Common.{ap, ◌∙◌, map, List}
use Rattle.dots_history.specs.Histories.{Mitigation}
use Rattle.conflict_rules.specs.declared.live.Live.{Live}
use Rattle.conflict_rules.specs.ByMid.{collides}
use Rattle.conflict_rules.specs.Lives.{live_of}
use Rattle.live_mitigations.proofs.LiveRows.{lives_alike}
use Rattle.live_mitigations.proofs.Room.{lives_are}
use Rattle.live_mitigations.proofs.live.LiveMitigations.collides.Goals as goal

pub returns : goal.returns
returns c = λ entries stands.
    c.collides.ensures
    ∙ ap (λ (ls : List Live). collides ls c.args.peer c.args.cuid.now) (lives_alike c.rows.result.now)
    ∙ ap (λ (ms : List Mitigation). collides (map live_of ms) c.args.peer c.args.cuid.now) (c.rows.ensures.live entries stands)
    ∙ ap (λ (ls : List Live). collides ls c.args.peer c.args.cuid.now) (lives_are c.args.self.now.time c.args.domain entries)
