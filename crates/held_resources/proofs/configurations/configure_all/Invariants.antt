use Rattle.std.proofs.Common.{◌≡◌, ◌++◌, map, take, drop}
use Rattle.held_resources.specs.Tables.{configuration_with}
use Rattle.held_resources.proofs.configurations.configure_all.Given as goal

abbrev pub invariant-loop-configuration : goal.invariant-loop-configuration
invariant-loop-configuration l =
    l.configurations ≡ map (configuration_with l.entry) (take l.configuration-index l.fn.configurations) ++ drop l.configuration-index l.fn.configurations
