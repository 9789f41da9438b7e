use Rattle.std.proofs.Common.{◌≡◌, ◌++◌, drop}
use Rattle.host_checks.specs.EntryLines.{entry_lines}
use Rattle.host_checks.proofs.listing.add_entries.Given as goal

abbrev pub invariant-loop-entry : goal.invariant-loop-entry
invariant-loop-entry l = record {
  slot : l.slot ≡ l.entry-index;
  added : l.text.items ++ entry_lines l.settings l.slot (drop l.entry-index l.entries) ≡ l.fn.text.items ++ entry_lines l.settings 0 l.entries;
}
