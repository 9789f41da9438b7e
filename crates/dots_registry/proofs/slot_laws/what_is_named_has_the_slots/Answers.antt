use Rattle.dots_registry.proofs.Staying.{kept_stay}
use Rattle.dots_registry.proofs.Numbering.{named_rise, kept_are_first}
use Rattle.dots_registry.proofs.slot_laws.what_is_named_has_the_slots.Goals as goal

pub returns : goal.returns
returns c = record { stay = kept_stay; rise = named_rise; first = kept_are_first }
