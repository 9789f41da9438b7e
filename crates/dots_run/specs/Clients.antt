-- What a run of a client over real sockets has done, and what is told of a client's settings.
use Rattle.std.specs.Prelude.{◌≡◌, ℕ, ◌<◌, ◌^◌, false, List, Option, Result}
use Rattle.dots_edge.specs.Edge.{Edge, acts_told}
use Rattle.dots_script.specs.declared.checked.Checked.{Checked}
use Rattle.dots_script.specs.declared.checked.Unchecked.{Unchecked}
use Rattle.ask_agent.specs.Checking.{ChecksAsk}
use Rattle.ask_agent.specs.declared.firsts.Firsts.{Firsts}
use Rattle.ask_agent.specs.Numbers.{mid_at, number_at}
use Rattle.ask_agent.specs.Outcomes.{RunsAsk, AskOutcome}
use Rattle.ask_agent.specs.Running.{Around}
use Rattle.ask_agent.specs.declared.protect_ending.ProtectEnding.{ProtectEnding}
use Rattle.ask_agent.specs.Protecting.{protect_status, has_protected, HasDone, NamesWord, ReachesVerdict}
use Rattle.dots_run.specs.declared.topic_outcome.TopicOutcome.{TopicOutcome}
use Rattle.dots_run.specs.Reporting.{outcome_status, Checks, Reports}

-- What stands around a run over sockets: the host tells its acts.
abbrev pub around_at : Option (List ℕ) → ℕ → Edge → Option (List ℕ) → ℕ → Around
around_at left source_faults host written report_faults = record {
  left = left;
  source_faults = source_faults;
  acts = acts_told host;
  wire_faults = host.wire;
  written = written;
  report_faults = report_faults;
}

-- the first mid and the first number of a client that begins at this second
abbrev pub firsts_at : ℕ → Firsts
firsts_at second = record { mid = mid_at second; number = number_at second }

-- A run of words that ask for a client, with this status, from what stood around before to what stands there now, and from the host as it was
-- to what it is. Where the settings don't say the first mid and the first number, these are those of a second, below 2^48: what the wall
-- clock was read to be, or 0 where it couldn't be read.
pub record AsksOver (words : List (List ℕ)) (status : ℕ) (before now : Around) (first host : Edge) : Type 0 where
  pub second : ℕ
  pub early : second < 2 ^ 48
  pub runs : RunsAsk status (firsts_at second) before now (host ≡ first)
  pub outcome : AskOutcome words status before now

-- A run of words that ask once, with this status, from what stood around before to what stands there now, and from the host as it was to
-- what it is. The first mid and the first number are those of a second, as above.
pub record ProtectsOver (words : List (List ℕ)) (status : ℕ) (before now : Around) (first host : Edge) : Type 0 where
  pub second : ℕ
  pub early : second < 2 ^ 48
  pub ending : ProtectEnding
  pub status_is : status ≡ protect_status ending
  pub does : HasDone words ending (firsts_at second) before now
  pub idle : has_protected ending ≡ false → host ≡ first
  -- when the words are refused, and when what became of the ask must be told
  pub refused : NamesWord words ending
  pub complete : ReachesVerdict words ending before now

-- Telling of a client's settings ended with this status, from what the source had left and what the report held to what it holds now; and
-- what must have failed.
pub record ReportsClient (status : ℕ) (left old new : Option (List ℕ)) (unread unwritten : Type 0) : Type 0 where
  pub found : Result Checked Unchecked
  pub finds : Checks ChecksAsk left unread found
  pub how : TopicOutcome
  pub is_status : status ≡ outcome_status how
  pub reports : Reports found how old new unwritten
