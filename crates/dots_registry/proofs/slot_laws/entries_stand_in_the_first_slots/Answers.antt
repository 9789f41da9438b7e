use Rattle.dots_registry.proofs.Numbering.{filed_entries, filed_rise, filed_more}
use Rattle.dots_registry.proofs.slot_laws.entries_stand_in_the_first_slots.Goals as goal

pub returns : goal.returns
returns c = record { entries = filed_entries; rise = filed_rise; more = filed_more }
