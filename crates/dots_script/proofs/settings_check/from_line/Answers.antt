use Rattle.std.proofs.Common.{◌∙◌, ◌-◌, sym, arith}
use Rattle.dots_settings.specs.Lines.{lines_of}
use Rattle.dots_script.proofs.Counting.{drop_next, drop_beyond}
use Rattle.dots_script.proofs.settings_check.from_line.Goals as goal

pub loop-turn-preserved : goal.loop-turn-preserved
loop-turn-preserved c = record { left = drop_next c.loop-turn._turn (lines_of c.args.content.now) _ _ _ c.loop-turn.invariant.left c.in-Some.ensures.lines }

pub returns-in-None : goal.returns-in-None
returns-in-None c =
    c.in-None.ensures.lines
    ∙ sym (drop_beyond c.loop-turn._turn (c.args.number - 1) (lines_of c.args.content.now) (sym c.loop-turn.invariant.left ∙ c.in-None.ensures.lines)
    (omega (arith, c.loop-turn-test.true, c.saturating_sub-before.ensures)))
