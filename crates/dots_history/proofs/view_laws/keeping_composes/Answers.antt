use Rattle.dots_history.proofs.Composing.{kept_refl, kept_trans, kept_later, kept_more}
use Rattle.dots_history.proofs.view_laws.keeping_composes.Goals as goal

pub returns : goal.returns
returns c = record { itself = kept_refl; twice = kept_trans; later = kept_later; appended = kept_more }
