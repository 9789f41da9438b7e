use Rattle.list_json.proofs.ListAgain.{acl_again}
use Rattle.list_json.proofs.laws.acl_is_read_again.Goals as goal

pub returns : goal.returns
returns c = acl_again
