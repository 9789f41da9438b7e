use Rattle.std.proofs.Common.{◌≡◌, ◌++◌, flat_map, take}
use Rattle.conflict_rules.specs.Targets.{own_target, alias_target}
use Rattle.conflict_rules.proofs.targets.targets_of.Given as goal

abbrev pub invariant-loop-name : goal.invariant-loop-name
invariant-loop-name l = record {
  so_far : l.targets ≡ own_target l.fn.settings l.fn.asked ++ flat_map (alias_target l.fn.settings l.fn.aliases) (take l.name-index l.name-items);
}
