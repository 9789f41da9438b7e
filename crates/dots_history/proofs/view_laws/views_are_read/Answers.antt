use Rattle.dots_history.proofs.HistoryReading.{read_of_view}
use Rattle.dots_history.proofs.view_laws.views_are_read.Goals as goal

pub returns : goal.returns
returns c = read_of_view
