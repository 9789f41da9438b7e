use Rattle.slot_journal.proofs.Characters.{visible_is_utf8}
use Rattle.slot_journal.proofs.reader.Reader.cuid.Goals as goal

pub unreachable-requires : goal.unreachable-requires
unreachable-requires c = (rw c.in_default.is at c.in_ok-text.ensures.none) (visible_is_utf8 c.in_ok-characters.characters.now c.in_ok-characters.ensures.visible)
