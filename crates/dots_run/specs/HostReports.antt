-- What is told of a settings file and a host file, and what was written of it.
use Rattle.std.specs.Prelude.{◌≡◌, ◌⊎◌, ℕ, Bool, false, ◌&&◌, if◌then◌else◌, List, [], ◌∷◌, bytes_eq, codes, Option, Some, None, IfSome, Result, Ok, Err, ⊤}
use Rattle.dots_script.specs.declared.checked.Checked.{Checked}
use Rattle.dots_script.specs.declared.checked.Unchecked.{Unchecked}
use Rattle.dots_script.specs.declared.checked.Unchecked.TheVariants as unchecked
use Rattle.host_checks.specs.declared.files.Task.{Task}
use Rattle.host_checks.specs.declared.files.Task.TheVariants as task
use Rattle.host_checks.specs.declared.filtering.FilterForm.TheVariants as form
use Rattle.host_checks.specs.HostChecks.{ChecksFiles, front_of}
use Rattle.dots_machine.specs.Commands.{is_word}
use Rattle.dots_run.specs.declared.topic_outcome.TopicOutcome.{TopicOutcome}
use Rattle.dots_run.specs.Reporting.{outcome_status, Reports}

-- what these ask for in front of a settings file and a host file
abbrev pub task_of : List ℕ → Option Task
task_of name =
    if bytes_eq name (codes "check") then Some task.Check
    else if bytes_eq name (codes "journal") then Some task.List
    else if bytes_eq name (codes "filters") then Some (task.Filters form.Report)
    else None

-- and `filters` with `nft` behind both
abbrev pub task_for : List ℕ → List ℕ → Option Task
task_for name last = if bytes_eq name (codes "filters") && bytes_eq last (codes "nft") then Some (task.Filters form.Script) else None

-- what `check SETTINGS HOSTFILE`, `journal SETTINGS HOSTFILE`, `filters SETTINGS HOSTFILE` and `filters SETTINGS HOSTFILE nft` ask for
abbrev pub host_task : List (List ℕ) → Option Task
host_task (name ∷ settings ∷ host ∷ []) = if is_word settings && is_word host then task_of name else None
host_task (name ∷ settings ∷ host ∷ last ∷ []) = if is_word settings && is_word host then task_for name last else None
host_task _ = None

-- what is found of both files, where they tell their bytes; no answer where a read of one failed, or for want of memory
abbrev pub FindsHost : Task → Option (List ℕ) → Option (List ℕ) → Type 0 → Type 0 → Result Checked Unchecked → Type 0
FindsHost asked left named unread unnamed (Ok found) = IfSome left (λ file. IfSome named (λ host. ChecksFiles asked (front_of file) (front_of host) found))
FindsHost asked left named unread unnamed (Err unchecked.ReadFailed) = unread ⊎ unnamed
FindsHost asked left named unread unnamed (Err unchecked.NoMemory) = ⊤

-- Telling ended with this status, from what both files had and what the report held to what it holds now; and what must have failed.
pub record ReportsHost (asked : Task) (status : ℕ) (left named old new : Option (List ℕ)) (unread unnamed unwritten : Type 0) : Type 0 where
  pub found : Result Checked Unchecked
  pub finds : FindsHost asked left named unread unnamed found
  pub how : TopicOutcome
  pub is_status : status ≡ outcome_status how
  pub reports : Reports found how old new unwritten
