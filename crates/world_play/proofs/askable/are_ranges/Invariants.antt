use Rattle.std.proofs.Common.{take}
use Rattle.std.specs.List.{AllByRecursion}
use Rattle.dots_client.specs.Asked.{IsRange}
use Rattle.world_play.proofs.askable.are_ranges.Given as goal

abbrev pub invariant-loop-range : goal.invariant-loop-range
invariant-loop-range l = record { typed : AllByRecursion IsRange (take l.range-index l.ranges) }
