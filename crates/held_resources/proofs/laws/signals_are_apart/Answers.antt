use Rattle.held_resources.proofs.Losses.{lost_alone, lost_changed, lost_still}
use Rattle.held_resources.proofs.HistoryTables.{lost_is}
use Rattle.held_resources.proofs.laws.signals_are_apart.Goals as goal

pub returns : goal.returns
returns c = record {
  alone = lost_alone;
  told = lost_changed;
  still = lost_still;
  tables = λ tables entries peer domain represents. lost_is tables _ represents peer domain;
}
