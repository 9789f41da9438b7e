use Rattle.list_json.proofs.AliasAgain.{alias_again}
use Rattle.list_json.proofs.laws.alias_is_read_again.Goals as goal

pub returns : goal.returns
returns c = alias_again
