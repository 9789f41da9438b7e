use Rattle.host_checks.proofs.Whole.{whole}
use Rattle.host_checks.proofs.migrating_laws.nothing_is_left_out.Goals as goal

pub returns : goal.returns
returns c = whole
