use Rattle.filter_table.proofs.Ranked.{are_ranked, all_ranked}
use Rattle.filter_table.proofs.rank_laws.ranks_are_in_order.Goals as goal

pub returns : goal.returns
returns c = record { order = are_ranked; all = all_ranked }
