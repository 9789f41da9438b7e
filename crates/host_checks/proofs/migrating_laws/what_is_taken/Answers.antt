use Rattle.std.proofs.Common.{[], refl}
use Rattle.host_checks.proofs.Takings.{taken_calm, taken_part}
use Rattle.host_checks.proofs.migrating_laws.what_is_taken.Goals as goal

pub returns : goal.returns
returns c = record { calm = λ old new entries. taken_calm old new [] entries refl; part = λ old new entries. taken_part old new [] entries }
