use Rattle.std.proofs.Common.{refl, sym, ◌∙◌}
use Rattle.slot_journal.proofs.Places.{one_entry}
use Rattle.slot_journal.proofs.record_laws.one_record.Goals as goal

pub returns-clause-some : goal.returns-clause-some
returns-clause-some c = λ format entry typed within. record { typed = typed; within = within; is = refl }

pub returns-clause-bytes : goal.returns-clause-bytes
returns-clause-bytes c = λ format first second entry a b. a.is ∙ sym b.is

pub returns-clause-entry : goal.returns-clause-entry
returns-clause-entry c = one_entry
