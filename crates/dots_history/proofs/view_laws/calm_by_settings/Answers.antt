use Rattle.dots_history.proofs.BySettings.{empty_calm, named_calm, calm_few}
use Rattle.dots_history.proofs.view_laws.calm_by_settings.Goals as goal

pub returns : goal.returns
returns c = record { empty = empty_calm; named = named_calm; few = calm_few }
