use Rattle.std.proofs.Common.{ap, ◌∙◌}
use Rattle.dots_registry.specs.RegistryValues.{time_of}
use Rattle.dots_machine.specs.ConfiguredPeers.{config_in, configured_by, values_in_force, beat_of}
use Rattle.dots_server.proofs.LostSignals.{mitigated_for}
use Rattle.dots_server.proofs.beating.PeerBeatsConfigs.beat.Goals as goal

pub returns : goal.returns
returns c = λ entries represents own.
    ap beat_of
    (c.values_in_force-values.ensures
    ∙ ap (values_in_force c.mitigating.result) (c.config_in-config.ensures ∙ ap config_in (c.configured_by.ensures entries represents own))
    ∙ ap (λ b. values_in_force b (config_in (configured_by c.args.self.now.settings.now entries c.args.peer)))
    (c.mitigating.ensures entries represents ∙ mitigated_for c.args.self.now.settings.now (time_of c.args.self.now.registry.now) entries c.args.peer own))
