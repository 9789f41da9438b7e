use Rattle.dots_history.proofs.Single.{one_mid, live_apart, one_alias, one_acl, one_setting}
use Rattle.dots_history.proofs.tables.there_is_one_at_most.Goals as goal

pub returns : goal.returns
returns c = record { mid = one_mid; apart = live_apart; alias = one_alias; acl = one_acl; configuration = one_setting }
