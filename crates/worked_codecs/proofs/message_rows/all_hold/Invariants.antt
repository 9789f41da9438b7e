-- the registry is of the settings, and in use
use Rattle.dots_registry.specs.RegistryValues.{IsOf}
use Rattle.dots_data.specs.Accepting.{IsInUse}
use Rattle.worked_codecs.proofs.message_rows.all_hold.Given as goal

abbrev pub invariant-loop-row : goal.invariant-loop-row
invariant-loop-row l = record {
  settings : IsOf l.settings l.registry;
  in_use : IsInUse l.settings l.registry;
}
