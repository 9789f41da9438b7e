use Rattle.slot_journal.proofs.Upgrades.{upgraded_is}
use Rattle.slot_journal.proofs.record_laws.one_upgrade.Goals as goal

pub returns : goal.returns
returns c = upgraded_is
