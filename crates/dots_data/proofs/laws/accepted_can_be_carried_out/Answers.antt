use Rattle.dots_data.proofs.Acceptable.{message_ready}
use Rattle.dots_data.proofs.laws.accepted_can_be_carried_out.Goals as goal

pub returns : goal.returns
returns c = λ settings registry caller message answered is_of used may answers. message_ready settings registry caller is_of used may message answered (answers used.history used.represents)
