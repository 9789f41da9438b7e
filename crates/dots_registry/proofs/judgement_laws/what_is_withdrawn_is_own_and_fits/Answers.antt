use Rattle.dots_registry.proofs.Inside.{own_withdrawal}
use Rattle.dots_registry.proofs.Bounded.{bounded_withdrawal}
use Rattle.dots_registry.proofs.FittingEntries.{fits_withdrawal, limits_withdrawal}
use Rattle.dots_registry.proofs.judgement_laws.what_is_withdrawn_is_own_and_fits.Goals as goal

pub returns : goal.returns
returns c = record { own = own_withdrawal; bounded = bounded_withdrawal; fits = fits_withdrawal; limits = limits_withdrawal }
