-- What a status of a client's run says of its words, of what the settings' source gives, and of what failed.
use Rattle.std.specs.Prelude.{◌≡◌, ◌≢◌, ◌⊎◌, ◌↔◌, ℕ, List, true, false}
use Rattle.ask_agent.specs.declared.ending.AskEnding.{AskEnding}
use Rattle.ask_agent.specs.declared.firsts.Firsts.{Firsts}
use Rattle.ask_agent.specs.Commands.{is_ask}
use Rattle.ask_agent.specs.Running.{Around, SourceFailed, WireFailed, ReportFailed, status_of, has_asked, Behaves, GivesSettings, GivesFault}

-- A run of a client with this status: what it has done, by the ending that the status is of. Where it didn't come to its wire, that was
-- not called.
pub record RunsAsk (status : ℕ) (firsts : Firsts) (before now : Around) (uncalled : Type 0) : Type 0 where
  pub ending : AskEnding
  pub status_is : status ≡ status_of ending
  pub behaves : Behaves ending firsts before now
  pub idle : has_asked ending ≡ false → uncalled

pub record AskOutcome (words : List (List ℕ)) (status : ℕ) (before now : Around) : Type 0 where
  -- when the words ask for no client; which faults there must have been, and where none was
  pub commands : (status ≡ 2) ↔ (is_ask words ≡ false)
  pub read : status ≡ 5 → SourceFailed before now ⊎ WireFailed before now
  pub source_read : status ≢ 4 → status ≢ 5 → now.source_faults ≡ before.source_faults
  pub written : status ≡ 9 → ReportFailed before now
  -- when the settings are refused, and when a run must go well, want of memory and 2^40 events without End aside
  pub refused : is_ask words ≡ true → GivesFault before.left → ¬ (SourceFailed before now) → (status ≡ 3) ⊎ (status ≡ 4)
  pub complete : is_ask words ≡ true → GivesSettings before.left → ¬ (SourceFailed before now) → ¬ (WireFailed before now) → ¬ (ReportFailed before now)
      → (status ≡ 0) ⊎ (status ≡ 4) ⊎ (status ≡ 11)
