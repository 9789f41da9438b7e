-- What is told of the settings of a client, and the numbers with which one begins.
use Rattle.std.proofs.Common.{◌≡◌, ℕ, List, Option, Result, Ok, Err, refl, subst}
use Rattle.std.specs.Prelude.{IfOk, IfSome}
use Rattle.dots_script.specs.declared.checked.Checked.{Checked}
use Rattle.dots_script.specs.declared.checked.Unchecked.{Unchecked}
use Rattle.dots_script.specs.declared.checked.Unchecked.TheVariants as unchecked
use Rattle.ask_agent.specs.declared.firsts.Firsts.{Firsts}
use Rattle.ask_agent.specs.Checking.{ChecksAsk}
use Rattle.dots_run.specs.declared.topic_outcome.TopicOutcome.{TopicOutcome}
use Rattle.dots_run.specs.Clients.{ReportsClient}
use Rattle.dots_run.specs.Reporting.{outcome_status, Checks, Reports}

finds_client : (left : Option (List ℕ)) (unread : Type 0) (found : Result Checked Unchecked) → IfOk found (λ told. IfSome left (λ file. ChecksAsk file told))
    → (found ≡ Err unchecked.ReadFailed → unread) → Checks ChecksAsk left unread found
finds_client left unread (Ok told) checks cause = checks
finds_client left unread (Err unchecked.ReadFailed) checks cause = cause refl
finds_client left unread (Err unchecked.NoMemory) checks cause = tt

pub reports_client : (left old new : Option (List ℕ)) (unread unwritten : Type 0) (found : Result Checked Unchecked) (how : TopicOutcome) (status : ℕ)
    → IfOk found (λ told. IfSome left (λ file. ChecksAsk file told)) → (found ≡ Err unchecked.ReadFailed → unread) → Reports found how old new unwritten → status ≡ outcome_status how
    → ReportsClient status left old new unread unwritten
reports_client left old new unread unwritten found how status checks cause wrote is = record {
  found = found;
  finds = finds_client left unread found checks cause;
  how = how;
  is_status = is;
  reports = wrote;
}

pub firsts_are : (firsts : Firsts) (mid number : ℕ) → firsts.mid ≡ mid → firsts.number ≡ number → firsts ≡ record { mid = mid; number = number }
firsts_are firsts mid number first second =
    subst (λ (m : ℕ). firsts ≡ record { mid = m; number = number }) first (subst (λ (n : ℕ). firsts ≡ record { mid = firsts.mid; number = n }) second refl)
