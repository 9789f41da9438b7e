-- What is found of a topic, and what was written of it.
use Rattle.std.specs.Prelude.{◌≡◌, ◌⊎◌, ℕ, Bool, true, false, List, Option, Some, IfSome, Result, Ok, Err, ⊤}
use Rattle.std.specs.Io.KnownBytes.{Appends}
use Rattle.dots_host.specs.Writing.{AppendsBeginning, Writes}
use Rattle.dots_script.specs.declared.checked.Checked.{Checked}
use Rattle.dots_script.specs.declared.checked.Checked.TheVariants as checked
use Rattle.dots_script.specs.declared.checked.Unchecked.{Unchecked}
use Rattle.dots_script.specs.declared.checked.Unchecked.TheVariants as unchecked
use Rattle.dots_script.specs.Checks.{ChecksSettings, ChecksScript}
use Rattle.dots_run.specs.declared.topic.Topic.{Topic}
use Rattle.dots_run.specs.declared.topic.Topic.TheVariants as topic
use Rattle.dots_run.specs.declared.topic_outcome.TopicOutcome.{TopicOutcome}
use Rattle.dots_run.specs.declared.topic_outcome.TopicOutcome.TheVariants as outcomes
use Rattle.dots_run.specs.Load.{ReportsLoad, FindsLoad}
use Rattle.dots_run.specs.Usage.{usage_text, version_text}

abbrev pub outcome_status : TopicOutcome → ℕ
outcome_status outcomes.Written = 0
outcome_status outcomes.AtFault = 3
outcome_status outcomes.NoMemory = 4
outcome_status outcomes.Unread = 5
outcome_status outcomes.Failed = 9

-- whether a source is read for it
abbrev pub has_source : Topic → Bool
has_source topic.Settings = true
has_source topic.Script = true
has_source topic.Usage = false
has_source topic.Version = false
has_source (topic.Load number) = false

-- a check of the bytes that the source has left, where it tells them; no answer where a read failed, or for want of memory
abbrev pub Checks : (List ℕ → Checked → Type 0) → Option (List ℕ) → Type 0 → Result Checked Unchecked → Type 0
Checks check left failed (Ok found) = IfSome left (λ bytes. check bytes found)
Checks check left failed (Err unchecked.ReadFailed) = failed
Checks check left failed (Err unchecked.NoMemory) = ⊤

-- what is found of a topic; the others look at no source
abbrev pub Finds : Topic → Option (List ℕ) → Type 0 → Result Checked Unchecked → Type 0
Finds topic.Settings left failed found = Checks ChecksSettings left failed found
Finds topic.Script left failed found = Checks ChecksScript left failed found
Finds topic.Usage left failed found = found ≡ Ok (checked.Good usage_text)
Finds topic.Version left failed found = found ≡ Ok (checked.Good version_text)
Finds (topic.Load number) left failed found = FindsLoad number found

-- What was written of what is found: all of its text, or for this cause only a beginning of it. A fault stays one where its text can't be written.
abbrev pub Reports : Result Checked Unchecked → TopicOutcome → Option (List ℕ) → Option (List ℕ) → Type 0 → Type 0
Reports (Ok (checked.Good text)) end old new failed = ((end ≡ outcomes.Written) × Appends old new text) ⊎ ((end ≡ outcomes.Failed) × AppendsBeginning old new text × failed)
Reports (Ok (checked.AtFault text)) end old new failed = (end ≡ outcomes.AtFault) × Writes old new text failed
Reports (Err unchecked.ReadFailed) end old new failed = (end ≡ outcomes.Unread) × (new ≡ old)
Reports (Err unchecked.NoMemory) end old new failed = (end ≡ outcomes.NoMemory) × (new ≡ old)

-- Telling of a topic ended so, from what the source had left and what the report held to what it holds now; and what must have failed.
pub record ReportsTopic (topic : Topic) (end : TopicOutcome) (left old new : Option (List ℕ)) (unread unwritten : Type 0) : Type 0 where
  pub found : Result Checked Unchecked
  pub finds : Finds topic left unread found
  pub reports : Reports found end old new unwritten

-- the source tells its bytes, and this is to be told of them
pub record Comes (check : List ℕ → Checked → Type 0) (left : Option (List ℕ)) (found : Checked) : Type 0 where
  pub bytes : List ℕ
  pub told : left ≡ Some bytes
  pub is : check bytes found

-- this is to be told of the topic
abbrev pub IsOf : Topic → Option (List ℕ) → Checked → Type 0
IsOf topic.Settings left found = Comes ChecksSettings left found
IsOf topic.Script left found = Comes ChecksScript left found
IsOf topic.Usage left found = found ≡ checked.Good usage_text
IsOf topic.Version left found = found ≡ checked.Good version_text
IsOf (topic.Load number) left found = ReportsLoad number found

-- there is no fault, and there is one
abbrev pub IsSound : Topic → Option (List ℕ) → Type 0
IsSound topic left = (text : List ℕ) × IsOf topic left (checked.Good text)

abbrev pub IsAtFault : Topic → Option (List ℕ) → Type 0
IsAtFault topic left = (text : List ℕ) × IsOf topic left (checked.AtFault text)
