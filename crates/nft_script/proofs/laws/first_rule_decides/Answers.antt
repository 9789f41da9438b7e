use Rattle.nft_script.proofs.Order.{decides}
use Rattle.nft_script.proofs.laws.first_rule_decides.Goals as goal

pub returns : goal.returns
returns c = decides
