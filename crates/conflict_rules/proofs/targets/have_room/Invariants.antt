use Rattle.std.proofs.Common.{◌≡◌, ◌+◌, flat_map, drop}
use Rattle.dots_history.specs.Bounds.{prefix_count}
use Rattle.conflict_rules.specs.Targets.{alias_target}
use Rattle.conflict_rules.proofs.targets.have_room.Given as goal

abbrev pub invariant-loop-name : goal.invariant-loop-name
invariant-loop-name l = record {
  so_far : l.left + prefix_count (flat_map (alias_target l.fn.settings l.fn.aliases) l.fn.names)
      ≡ l.fn.room + prefix_count (flat_map (alias_target l.fn.settings l.fn.aliases) (drop l.name-index l.fn.names));
}
