use Rattle.std.proofs.Common.{◌≡◌, ◌++◌, drop, length}
use Rattle.host_checks.specs.KeptEntries.{flags_of}
use Rattle.host_checks.proofs.returning.returns.Given as goal

abbrev pub invariant-loop-place : goal.invariant-loop-place
invariant-loop-place l = record {
  flags : l.flags.items ++ flags_of (drop l.place l.list) ≡ flags_of l.list;
  each : length l.flags.items ≡ l.place;
}
