use Rattle.std.proofs.Common.{◌≡◌, length}
use Rattle.dots_registry.specs.Gathering.{HasGathered}
use Rattle.dots_registry.proofs.taking.take_all.Given as goal

-- the entries so far were taken, each with its place as its slot
abbrev pub invariant-loop-entry : goal.invariant-loop-entry
invariant-loop-entry l = record {
  taken : HasGathered l.settings l.yielded l.gathering;
  place : l.slot ≡ length l.yielded;
}
