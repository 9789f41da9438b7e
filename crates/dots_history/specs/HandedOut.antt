-- What the programs hand out of a history, as the definitions say it.
use Rattle.dots_history.specs.declared.views.Mitigation.{Mitigation}
use Rattle.dots_history.specs.Histories as histories

abbrev pub mitigation_of : Mitigation → histories.Mitigation
mitigation_of m = record { put = m.put.now; status = m.status }
