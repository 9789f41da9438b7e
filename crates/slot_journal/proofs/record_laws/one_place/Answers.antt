use Rattle.slot_journal.proofs.Places.{either_of, whole_before, one_place}
use Rattle.slot_journal.proofs.record_laws.one_place.Goals as goal

pub returns-clause-either : goal.returns-clause-either
returns-clause-either c = either_of

pub returns-clause-neither : goal.returns-clause-neither
returns-clause-neither c = λ format bytes at broken some. whole_before format bytes at broken some

pub returns-clause-one : goal.returns-clause-one
returns-clause-one c = one_place
