use Rattle.conflict_rules.proofs.Places.{place_marked, none_beyond}
use Rattle.conflict_rules.proofs.laws.meeting_by_place.Goals as goal

pub returns : goal.returns
returns c = record { bit = place_marked; beyond = none_beyond }
