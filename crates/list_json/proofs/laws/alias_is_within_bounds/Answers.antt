use Rattle.list_json.proofs.Within.{alias_within}
use Rattle.list_json.proofs.laws.alias_is_within_bounds.Goals as goal

pub returns : goal.returns
returns c = alias_within
