use Rattle.dots_registry.proofs.Inside.{own_loss}
use Rattle.dots_registry.proofs.Bounded.{bounded_loss}
use Rattle.dots_registry.proofs.FittingEntries.{fits_loss, limits_loss}
use Rattle.dots_registry.proofs.judgement_laws.what_is_lost_is_own_and_fits.Goals as goal

pub returns : goal.returns
returns c = record { own = own_loss; bounded = bounded_loss; fits = fits_loss; limits = limits_loss }
