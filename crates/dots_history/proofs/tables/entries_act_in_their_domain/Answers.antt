use Rattle.dots_history.proofs.Local.{own_with, other_with, quiet_with}
use Rattle.dots_history.proofs.tables.entries_act_in_their_domain.Goals as goal

pub returns : goal.returns
returns c = record { own = own_with; others = other_with; quiet = quiet_with }
