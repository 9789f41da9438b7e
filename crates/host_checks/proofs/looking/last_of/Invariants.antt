use Rattle.std.proofs.Common.{◌≡◌, drop}
use Rattle.host_checks.specs.Journals.{last_behind, last_of}
use Rattle.host_checks.proofs.looking.last_of.Given as goal

abbrev pub invariant-loop-entry : goal.invariant-loop-entry
invariant-loop-entry l = last_behind l.last (drop l.entry-index l.entries) ≡ last_of l.entries
