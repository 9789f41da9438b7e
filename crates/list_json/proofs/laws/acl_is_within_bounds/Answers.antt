use Rattle.list_json.proofs.Within.{acl_within}
use Rattle.list_json.proofs.laws.acl_is_within_bounds.Goals as goal

pub returns : goal.returns
returns c = acl_within
