use Rattle.host_checks.proofs.Standing.{entries_kept, lines_keep, stands_there}
use Rattle.host_checks.proofs.migrating_laws.a_domain_is_kept.Goals as goal

pub returns : goal.returns
returns c = record { entries = entries_kept; lines = lines_keep; stands = stands_there }
