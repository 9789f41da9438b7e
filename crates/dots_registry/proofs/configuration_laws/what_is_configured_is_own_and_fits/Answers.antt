use Rattle.dots_registry.proofs.Configured.{own_configured, bounded_configured, fits_configured, configured_limits}
use Rattle.dots_registry.proofs.configuration_laws.what_is_configured_is_own_and_fits.Goals as goal

pub returns : goal.returns
returns c = record { own = own_configured; bounded = bounded_configured; fits = fits_configured; limits = configured_limits }
