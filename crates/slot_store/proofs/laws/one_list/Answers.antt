use Rattle.slot_store.proofs.SameRecords.{one_list}
use Rattle.slot_store.proofs.laws.one_list.Goals as goal

pub returns : goal.returns
returns c = one_list
