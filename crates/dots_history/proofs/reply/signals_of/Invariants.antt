-- those counted and those of the rest are all
use Rattle.std.proofs.Common.{◌≡◌, ◌+◌, ◌≤◌, drop}
use Rattle.dots_history.specs.Entries.{signals}
use Rattle.dots_history.specs.Histories.{tally}
use Rattle.dots_history.proofs.reply.signals_of.Given as goal

abbrev pub invariant-loop-entry : goal.invariant-loop-entry
invariant-loop-entry l =
    (l.count ≤ l.entry-index)
    × (l.count + tally (signals l.peer l.domain) (drop l.entry-index l.entries) ≡ tally (signals l.peer l.domain) l.entries)
