-- the registry is of the settings, and stands for a history
use Rattle.std.proofs.Common.{List}
use Rattle.dots_history.specs.declared.entry.Entry.{Entry}
use Rattle.dots_registry.specs.RegistryValues.{Represents, IsOf}
use Rattle.worked_rows.proofs.registry.taking.take_all.Given as goal

abbrev pub invariant-loop-text : goal.invariant-loop-text
invariant-loop-text l = record {
  settings : IsOf l.settings l.registry;
  represents : (entries : List Entry) × Represents l.registry entries;
}
