-- What is decided on a datagram, as a plain value.
use Rattle.dots_history.specs.declared.entry.Entry.{Entry}
use Rattle.dots_machine.specs.declared.verdict.Verdict.{Verdict as VerdictOf}

abbrev pub Verdict : Type 0
Verdict = VerdictOf Entry
