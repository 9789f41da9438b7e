use Rattle.std.specs.Prelude.{◌≡◌, true}
use Rattle.coap_block.proofs.AroundLemmas.{seen_at_first, seen_from, run_inside}
use Rattle.coap_block.proofs.host_laws.run_around.Goals as goal

pub returns-clause-begins : goal.returns-clause-begins
returns-clause-begins c = seen_at_first

pub returns-clause-goes_on : goal.returns-clause-goes_on
returns-clause-goes_on c = seen_from

pub returns-clause-ends : goal.returns-clause-ends
returns-clause-ends c shows old new seen from added = run_inside (λ acts. shows acts ≡ true) old new seen from added
