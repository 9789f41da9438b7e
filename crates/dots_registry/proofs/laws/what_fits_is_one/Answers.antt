use Rattle.dots_registry.proofs.Conditions.{same_fits, fits_some}
use Rattle.dots_registry.proofs.laws.what_fits_is_one.Goals as goal

pub returns : goal.returns
returns c = record { same = same_fits; some = fits_some }
