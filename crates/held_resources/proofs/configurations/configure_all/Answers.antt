use Rattle.std.proofs.Common.{◌<◌, length, set, ap, ◌∙◌, arith}
use Rattle.std.proofs.lemmas.List.Edits.{map_over_more}
use Rattle.held_resources.specs.Tables.{configuration_with}
use Rattle.held_resources.proofs.Places.{at_any}
use Rattle.held_resources.proofs.configurations.configure_all.Goals as goal

pub loop-configuration-preserved : goal.loop-configuration-preserved
loop-configuration-preserved c =
    let within : c.loop-configuration.configuration-index < length c.loop-configuration.configurations = omega (arith, c.loop-configuration-test.true, c.loop-configuration.auto.configurations) in
    ap (set c.loop-configuration.configurations c.loop-configuration.configuration-index) c.configure_one.ensures
    ∙ map_over_more (configuration_with c.args.entry.now) _ _ _ _ c.loop-configuration-test.true c.loop-configuration.invariant (at_any c.loop-configuration.configurations _ _ within)
