use Rattle.dots_data.proofs.Acceptable.{new_in_use, still_in_use}
use Rattle.dots_data.proofs.laws.registries_stay_in_use.Goals as goal

pub returns : goal.returns
returns c = record { new = new_in_use; taking = still_in_use }
