use Rattle.std.proofs.Common.{◌<◌, length, set, ap, ◌∙◌, arith}
use Rattle.std.proofs.lemmas.List.Edits.{map_over_more}
use Rattle.held_resources.specs.Tables.{signal_with}
use Rattle.held_resources.proofs.Places.{at_any}
use Rattle.held_resources.proofs.signals.note_all.Goals as goal

pub loop-signal-preserved : goal.loop-signal-preserved
loop-signal-preserved c =
    let within : c.loop-signal.signal-index < length c.loop-signal.signals = omega (arith, c.loop-signal-test.true, c.loop-signal.auto.signals) in
    ap (set c.loop-signal.signals c.loop-signal.signal-index) c.note_one.ensures
    ∙ map_over_more (signal_with c.args.entry.now) _ _ _ _ c.loop-signal-test.true c.loop-signal.invariant (at_any c.loop-signal.signals _ _ within)
