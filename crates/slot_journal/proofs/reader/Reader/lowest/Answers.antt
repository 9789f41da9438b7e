use Rattle.slot_journal.proofs.Digits.{lowest_is}
use Rattle.slot_journal.proofs.reader.Reader.lowest.Goals as goal

pub returns-clause-valid : goal.returns-clause-valid
returns-clause-valid c = lowest_is c.args.family c.args.bits c.zeros_of-zeros.result c.address-2.result c.zeros_of-zeros.ensures.value c.requires c.address-2.ensures.fits c.address-2.ensures.zeros
