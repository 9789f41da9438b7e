-- How telling ends, by what is to be told.
use Rattle.std.proofs.Common.{◌≡◌, ℕ, ◌⊎◌, inl, inr, List, Option, Result, Ok, Err, refl, sym, ◌∙◌, subst}
use Rattle.std.specs.Prelude.{IfOk, OnOk, IfSome}
use Rattle.dots_script.specs.declared.checked.Checked.{Checked}
use Rattle.dots_script.specs.declared.checked.Checked.TheVariants as checked
use Rattle.dots_script.specs.declared.checked.Unchecked.{Unchecked}
use Rattle.dots_script.specs.declared.checked.Unchecked.TheVariants as unchecked
use Rattle.dots_script.specs.Checks.{ChecksSettings, ChecksScript}
use Rattle.dots_run.specs.declared.topic.Topic.{Topic}
use Rattle.dots_run.specs.declared.topic.Topic.TheVariants as topic
use Rattle.dots_run.specs.declared.topic_outcome.TopicOutcome.{TopicOutcome}
use Rattle.dots_run.specs.declared.topic_outcome.TopicOutcome.TheVariants as outcomes
use Rattle.dots_run.specs.Usage.{usage_text, version_text}
use Rattle.dots_run.specs.Reporting.{Checks, Finds, Reports, ReportsTopic, Comes, IsOf, IsSound, IsAtFault}
use Rattle.dots_run.proofs.Once.{one_text}

-- what a call that checks says of its answer
pub checks : (check : List ℕ → Checked → Type 0) (left : Option (List ℕ)) (failed : Type 0) (found : Result Checked Unchecked) → IfOk found (λ told. IfSome left (λ bytes. check bytes told))
    → (found ≡ Err unchecked.ReadFailed → failed) → Checks check left failed found
checks check left failed (Ok told) is cause = is
checks check left failed (Err unchecked.ReadFailed) is cause = cause refl
checks check left failed (Err unchecked.NoMemory) is cause = tt

-- memory ran out, the file couldn't be read, or no read of it failed
pub source_read : (found : Result Checked Unchecked) (end : TopicOutcome) (old new : Option (List ℕ)) (failed P : Type 0) → OnOk found P → Reports found end old new failed → (end ≡ outcomes.NoMemory) ⊎ ((end ≡ outcomes.Unread) ⊎ P)
source_read (Ok found) end old new failed P same reports = inr (inr same)
source_read (Err unchecked.ReadFailed) end old new failed P same reports = inr (inl reports.0)
source_read (Err unchecked.NoMemory) end old new failed P same reports = inl reports.0

ok_once : (x y : Checked) (found : Result Checked Unchecked) → found ≡ Ok x → found ≡ Ok y → x ≡ y
ok_once x y found a b = cc (sym a ∙ b)

module _ (end : TopicOutcome) (left old new : Option (List ℕ)) (unread unwritten : Type 0) where
  come : (check : List ℕ → Checked → Type 0) (one other : Checked) → Comes check left one → IfSome left (λ bytes. check bytes other) → Comes check left other
  come check one other comes is = record { bytes = comes.bytes; told = comes.told; is = subst (λ left. IfSome left (λ bytes. check bytes other)) comes.told is }

  -- what was found is what is to be told
  found_is : (topic : Topic) (one found : Checked) → IsOf topic left one → Finds topic left unread (Ok found) → one ≡ found
  found_is topic.Settings one found is finds = one_text topic.Settings left one found is (come ChecksSettings one found is finds)
  found_is topic.Script one found is finds = one_text topic.Script left one found is (come ChecksScript one found is finds)
  found_is topic.Usage one found is finds = is ∙ sym (ok_once found (checked.Good usage_text) (Ok found) refl finds)
  found_is topic.Version one found is finds = is ∙ sym (ok_once found (checked.Good version_text) (Ok found) refl finds)
  found_is (topic.Load number) one found is finds = one_text (topic.Load number) left one found is finds

  -- a read failed where none of its bytes is judged
  must_read : (topic : Topic) → Finds topic left unread (Err unchecked.ReadFailed) → (unread → ⊥) → ⊥
  must_read topic.Settings finds read = read finds
  must_read topic.Script finds read = read finds
  must_read topic.Usage finds read = absurd (cc finds)
  must_read topic.Version finds read = absurd (cc finds)
  must_read (topic.Load number) finds read = finds

  pub has_read : (asked : Topic) → ReportsTopic asked end left old new unread unwritten → end ≡ outcomes.Unread → unread
  has_read asked reported is = by reported.found reported.finds reported.reports
    where
      of_topic : (topic : Topic) → Finds topic left unread (Err unchecked.ReadFailed) → unread
      of_topic topic.Settings finds = finds
      of_topic topic.Script finds = finds
      of_topic topic.Usage finds = absurd (cc finds)
      of_topic topic.Version finds = absurd (cc finds)
      of_topic (topic.Load number) finds = absurd finds

      by : (found : Result Checked Unchecked) → Finds asked left unread found → Reports found end old new unwritten → unread
      by (Ok (checked.Good text)) finds (inl ended) = absurd (cc (sym is ∙ ended.0))
      by (Ok (checked.Good text)) finds (inr ended) = absurd (cc (sym is ∙ ended.0))
      by (Ok (checked.AtFault text)) finds ended = absurd (cc (sym is ∙ ended.0))
      by (Err unchecked.ReadFailed) finds ended = of_topic asked finds
      by (Err unchecked.NoMemory) finds ended = absurd (cc (sym is ∙ ended.0))

  pub has_written : (topic : Topic) → ReportsTopic topic end left old new unread unwritten → end ≡ outcomes.Failed → unwritten
  has_written topic reported is = by reported.found reported.reports
    where
      by : (found : Result Checked Unchecked) → Reports found end old new unwritten → unwritten
      by (Ok (checked.Good text)) (inl ended) = absurd (cc (sym is ∙ ended.0))
      by (Ok (checked.Good text)) (inr ended) = ended.2
      by (Ok (checked.AtFault text)) ended = absurd (cc (sym is ∙ ended.0))
      by (Err unchecked.ReadFailed) ended = absurd (cc (sym is ∙ ended.0))
      by (Err unchecked.NoMemory) ended = absurd (cc (sym is ∙ ended.0))

  good_end : (text : List ℕ) (found : Checked) → checked.Good text ≡ found → (unwritten → ⊥) → Reports (Ok found) end old new unwritten → (end ≡ outcomes.Written) ⊎ (end ≡ outcomes.NoMemory)
  good_end text (checked.Good other) is written (inl ended) = inl ended.0
  good_end text (checked.Good other) is written (inr ended) = absurd (written ended.2)
  good_end text (checked.AtFault other) is written ended = absurd (cc is)

  fault_end : (text : List ℕ) (found : Checked) → checked.AtFault text ≡ found → Reports (Ok found) end old new unwritten → (end ≡ outcomes.AtFault) ⊎ (end ≡ outcomes.NoMemory)
  fault_end text (checked.Good other) is ended = absurd (cc is)
  fault_end text (checked.AtFault other) is ended = inl ended.0

  pub ends_well : (topic : Topic) → ReportsTopic topic end left old new unread unwritten → IsSound topic left → (unread → ⊥) → (unwritten → ⊥) → (end ≡ outcomes.Written) ⊎ (end ≡ outcomes.NoMemory)
  ends_well topic reported sound read written = by reported.found reported.finds reported.reports
    where
      by : (found : Result Checked Unchecked) → Finds topic left unread found → Reports found end old new unwritten → (end ≡ outcomes.Written) ⊎ (end ≡ outcomes.NoMemory)
      by (Ok found) finds reports = good_end sound.0 found (found_is topic (checked.Good sound.0) found sound.1 finds) written reports
      by (Err unchecked.ReadFailed) finds reports = absurd (must_read topic finds read)
      by (Err unchecked.NoMemory) finds reports = inr reports.0

  pub ends_at_fault : (topic : Topic) → ReportsTopic topic end left old new unread unwritten → IsAtFault topic left → (unread → ⊥) → (end ≡ outcomes.AtFault) ⊎ (end ≡ outcomes.NoMemory)
  ends_at_fault topic reported fault read = by reported.found reported.finds reported.reports
    where
      by : (found : Result Checked Unchecked) → Finds topic left unread found → Reports found end old new unwritten → (end ≡ outcomes.AtFault) ⊎ (end ≡ outcomes.NoMemory)
      by (Ok found) finds reports = fault_end fault.0 found (found_is topic (checked.AtFault fault.0) found fault.1 finds) reports
      by (Err unchecked.ReadFailed) finds reports = absurd (must_read topic finds read)
      by (Err unchecked.NoMemory) finds reports = inr reports.0
