use Rattle.std.proofs.Common.{sym, ◌∙◌}
use Rattle.held_resources.proofs.HistoryTables.{accepted_by}
use Rattle.held_resources.proofs.Lawful.{accepts_own, accepts_fitting}
use Rattle.held_resources.proofs.laws.what_fits_is_accepted.Goals as goal

pub returns : goal.returns
returns c = record {
  fits = accepts_fitting;
  own = accepts_own;
  same = λ tables xs ys e represents too. accepted_by tables xs e represents ∙ sym (accepted_by tables ys e too);
}
