-- What a status of a gateway's run says of its words, of what the settings' source gives, of its disk and of what failed.
use Rattle.std.specs.Prelude.{◌≡◌, ◌≢◌, ◌⊎◌, ◌↔◌, ℕ, List, true, false}
use Rattle.dots_machine.specs.Outside.{Outside, SourceFailed, WireFailed, DiskFailed, ReportFailed}
use Rattle.gateway_command.specs.declared.ending.CommandEnding.{CommandEnding}
use Rattle.gateway_command.specs.Commands.{is_gateway}
use Rattle.gateway_command.specs.Running.{status_of, has_hosted, Behaves, GivesFault, IsReady}

-- A run of a gateway with this status: what it has done, by the ending that the status is of. Where it didn't come to its host, that was not
-- called.
pub record RunsGateway (status : ℕ) (before now : Outside) (uncalled : Type 0) : Type 0 where
  pub ending : CommandEnding
  pub status_is : status ≡ status_of ending
  pub behaves : Behaves ending before now
  pub idle : has_hosted ending ≡ false → uncalled

pub record GatewayOutcome (words : List (List ℕ)) (status : ℕ) (before now : Outside) : Type 0 where
  -- when the words ask for no gateway; which faults there must have been, and where none was
  pub commands : (status ≡ 2) ↔ (is_gateway words ≡ false)
  pub read : status ≡ 5 → SourceFailed before now ⊎ WireFailed before now
  pub source_read : status ≢ 4 → status ≢ 5 → now.source_faults ≡ before.source_faults
  pub disk : status ≡ 6 → DiskFailed before now
  pub written : status ≡ 9 → ReportFailed before now
  -- when the settings are refused, and when a run must go well, want of memory and 2^40 events without End aside: where the disk holds what a
  -- gateway leaves there
  pub refused : is_gateway words ≡ true → GivesFault before.left
      → ((status ≡ 3) × (now.source_faults ≡ before.source_faults)) ⊎ (status ≡ 4) ⊎ ((status ≡ 5) × SourceFailed before now)
  pub complete : is_gateway words ≡ true → IsReady before.left before.media before.extent
      → ¬ (SourceFailed before now) → ¬ (WireFailed before now) → ¬ (DiskFailed before now) → ¬ (ReportFailed before now) → (status ≡ 0) ⊎ (status ≡ 4) ⊎ (status ≡ 11)
