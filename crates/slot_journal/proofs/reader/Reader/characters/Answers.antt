use Rattle.std.specs.Char.{is_ascii_graphic}
use Rattle.slot_journal.proofs.Loops.{passes_all}
use Rattle.slot_journal.proofs.reader.Reader.characters.Goals as goal

pub returns-clause-visible : goal.returns-clause-visible
returns-clause-visible c = passes_all is_ascii_graphic _ _ _ _ _ c.in_ok-pass_visible.ensures.value
