-- What a run over a script has done, and over which file.
use Rattle.std.specs.Prelude.{◌≡◌, ℕ, true, false, List, Option, Some, None}
use Rattle.dots_host.specs.Acts.{Timed}
use Rattle.coap_block.specs.Around.{IsSeenFrom}
use Rattle.dots_script.specs.Accounts.{Outer}
use Rattle.dots_machine.specs.declared.ending.Ending.{Ending}
use Rattle.dots_machine.specs.Commands.{second_of}
use Rattle.dots_machine.specs.Endings.{status_of, Behaves, GivesSettings, IsReady}
use Rattle.dots_machine.specs.Outside.{Outside, SourceFailed, ReportFailed}
use Rattle.dots_run.specs.declared.topic_outcome.TopicOutcome.{TopicOutcome}
use Rattle.dots_run.specs.declared.topic.Topic.{Topic}
use Rattle.dots_run.specs.Reporting.{outcome_status, ReportsTopic}
use Rattle.dots_run.specs.Outcomes.{Outcome}
use Rattle.dots_run.specs.Blocks.{seeing}
use Rattle.dots_run.specs.Scripted.{JoinsTexts}
use Rattle.dots_run.specs.Topics.{topic_of, names_settings}

-- A run that told of a topic with this status: nothing was taken from the script's host or sent by it.
pub record HasReported (topic : Topic) (status : ℕ) (before now : Outside) (start end : Outer) : Type 0 where
  pub how : TopicOutcome
  pub status_is : status ≡ outcome_status how
  pub reported : ReportsTopic topic how before.left before.written now.written (SourceFailed before now) (ReportFailed before now)
  pub no_acts : now.acts ≡ before.acts
  pub stays : end ≡ start

-- A run of these words with this status, from what stood outside before to what stands there now, and from where the script and the
-- sink of its sends stood to where they stand.
pub record Runs (words : List (List ℕ)) (status : ℕ) (before now : Outside) (start end : Outer) : Type 0 where
  -- What it has done, of the acts as the server saw them, by the ending that its status is of; the acts of the host are the same ones as they were
  -- handed on. From text to text: what the machine sends on the events of the script's lines stands line by line in the sink, as it was handed
  -- on, and the machine's report in the report.
  pub machine : topic_of words ≡ None → (ending : Ending) × (seen : List Timed) × (status ≡ status_of ending) × IsSeenFrom before.acts now.acts (Some seen)
      × Behaves ending words before (seeing now (Some seen)) × JoinsTexts ending before (seeing now (Some seen)) now.acts start end
  -- what is told without serving
  pub told : (topic : Topic) → topic_of words ≡ Some topic → HasReported topic status before now start end
  -- what the status says of the words, of the settings and of what failed
  pub outcome : Outcome words status before now
  -- the disk of a script's host holds nothing at first, and has the size that any settings need
  pub ready : GivesSettings before.left → IsReady before.left before.media before.extent

-- The file of the settings is what opening it by the second word gave, where that names one, and else there is none.
pub record IsOpened {F : Type 0} (opening : List ℕ → Option F → Type 0) (words : List (List ℕ)) (file : Option F) : Type 0 where
  pub named : names_settings words ≡ true → opening (second_of words) file
  pub nameless : names_settings words ≡ false → file ≡ None
