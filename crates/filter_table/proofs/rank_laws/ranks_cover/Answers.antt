use Rattle.filter_table.proofs.Covered.{cover_by}
use Rattle.filter_table.proofs.rank_laws.ranks_cover.Goals as goal

pub returns : goal.returns
returns c = λ prefix place slot family number whole. cover_by prefix.family family prefix.length prefix.number number place slot whole.length whole.host_bits
