use Rattle.dots_run.proofs.Loads.{one_report as law_of}
use Rattle.dots_run.proofs.laws.one_load_text.Goals as goal

pub returns : goal.returns
returns c = law_of
