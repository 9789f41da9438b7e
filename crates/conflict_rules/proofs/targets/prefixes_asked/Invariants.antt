use Rattle.std.proofs.Common.{◌≡◌, ◌++◌, flat_map, take}
use Rattle.dots_settings.specs.Lookups.{addresses_of}
use Rattle.conflict_rules.proofs.targets.prefixes_asked.Given as goal

abbrev pub invariant-loop-name : goal.invariant-loop-name
invariant-loop-name l = record {
  so_far : l.prefixes ≡ l.fn.asked.prefixes ++ flat_map (addresses_of l.fn.settings) (take l.name-index l.name-items);
}
