use Rattle.std.proofs.Common.{◌≡◌, ◌++◌, take}
use Rattle.conflict_rules.proofs.targets.push_all.Given as goal

abbrev pub invariant-loop-prefix : goal.invariant-loop-prefix
invariant-loop-prefix l = record { pushed : l.prefixes ≡ l.fn.prefixes ++ take l.prefix-index l.more }
