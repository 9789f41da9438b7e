use Rattle.std.proofs.Common.{◌≡◌, ◌+◌, flat_map, drop, length}
use Rattle.dots_settings.specs.Lookups.{addresses_of}
use Rattle.conflict_rules.specs.Targets.{prefixes_asked}
use Rattle.conflict_rules.proofs.targets.room_beside.Given as goal

abbrev pub invariant-loop-name : goal.invariant-loop-name
invariant-loop-name l = record {
  so_far : l.left + length (prefixes_asked l.fn.settings l.fn.asked)
      ≡ l.fn.room + length (flat_map (addresses_of l.fn.settings) (drop l.name-index l.fn.asked.names));
}
