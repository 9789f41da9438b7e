use Rattle.std.proofs.Common.{take}
use Rattle.std.specs.List.{AllByRecursion}
use Rattle.ip_scope.specs.Prefix.{IsPrefix}
use Rattle.world_play.proofs.askable.are_prefixes.Given as goal

abbrev pub invariant-loop-prefix : goal.invariant-loop-prefix
invariant-loop-prefix l = record { typed : AllByRecursion IsPrefix (take l.prefix-index l.prefixes) }
