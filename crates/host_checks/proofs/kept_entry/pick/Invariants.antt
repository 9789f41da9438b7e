use Rattle.std.proofs.Common.{◌≡◌, length, map}
use Rattle.host_checks.specs.KeptEntries.{judged, picked}
use Rattle.host_checks.proofs.kept_entry.pick.Given as goal

abbrev pub invariant-loop-entry : goal.invariant-loop-entry
invariant-loop-entry l = record {
  slot : l.slot ≡ length l.yielded;
  picked : l.list.items ≡ map (judged l.old l.new) (picked l.keep 0 l.yielded);
}
