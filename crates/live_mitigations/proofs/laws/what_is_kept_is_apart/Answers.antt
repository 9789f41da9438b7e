use Rattle.live_mitigations.proofs.LiveValues.{one_row_each, rows_apart}
use Rattle.live_mitigations.proofs.laws.what_is_kept_is_apart.Goals as goal

pub returns : goal.returns
returns c = record { mid = one_row_each; apart = rows_apart }
