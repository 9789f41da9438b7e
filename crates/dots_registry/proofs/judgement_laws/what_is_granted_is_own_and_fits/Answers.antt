use Rattle.dots_registry.proofs.Inside.{own_granted}
use Rattle.dots_registry.proofs.Bounded.{bounded_granted}
use Rattle.dots_registry.proofs.FittingEntries.{fits_granted, limits_granted}
use Rattle.dots_registry.proofs.judgement_laws.what_is_granted_is_own_and_fits.Goals as goal

pub returns : goal.returns
returns c = record { own = own_granted; bounded = bounded_granted; fits = fits_granted; limits = limits_granted }
