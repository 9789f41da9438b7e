-- What is told of a settings file and a host file.
use Rattle.std.proofs.Common.{◌≡◌, ◌⊎◌, ℕ, List, Option, Result, Ok, Err, refl}
use Rattle.std.specs.Prelude.{IfOk, IfSome}
use Rattle.dots_script.specs.declared.checked.Checked.{Checked}
use Rattle.dots_script.specs.declared.checked.Unchecked.{Unchecked}
use Rattle.dots_script.specs.declared.checked.Unchecked.TheVariants as unchecked
use Rattle.host_checks.specs.declared.files.Task.{Task}
use Rattle.host_checks.specs.HostChecks.{ChecksFiles, front_of}
use Rattle.dots_run.specs.declared.topic_outcome.TopicOutcome.{TopicOutcome}
use Rattle.dots_run.specs.HostReports.{FindsHost, ReportsHost}
use Rattle.dots_run.specs.Reporting.{outcome_status, Reports}

finds_host : (asked : Task) (left named : Option (List ℕ)) (unread unnamed : Type 0) (found : Result Checked Unchecked)
    → IfOk found (λ told. IfSome left (λ file. IfSome named (λ host. ChecksFiles asked (front_of file) (front_of host) told)))
    → (found ≡ Err unchecked.ReadFailed → unread ⊎ unnamed) → FindsHost asked left named unread unnamed found
finds_host asked left named unread unnamed (Ok told) checks cause = checks
finds_host asked left named unread unnamed (Err unchecked.ReadFailed) checks cause = cause refl
finds_host asked left named unread unnamed (Err unchecked.NoMemory) checks cause = tt

pub reports_host : (asked : Task) (left named old new : Option (List ℕ)) (unread unnamed unwritten : Type 0) (found : Result Checked Unchecked) (how : TopicOutcome) (status : ℕ)
    → IfOk found (λ told. IfSome left (λ file. IfSome named (λ host. ChecksFiles asked (front_of file) (front_of host) told)))
    → (found ≡ Err unchecked.ReadFailed → unread ⊎ unnamed) → Reports found how old new unwritten → status ≡ outcome_status how
    → ReportsHost asked status left named old new unread unnamed unwritten
reports_host asked left named old new unread unnamed unwritten found how status checks cause wrote is = record {
  found = found;
  finds = finds_host asked left named unread unnamed found checks cause;
  how = how;
  is_status = is;
  reports = wrote;
}
