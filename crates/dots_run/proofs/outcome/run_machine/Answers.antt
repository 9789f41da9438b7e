use Rattle.std.proofs.Common.{◌∙◌}
use Rattle.dots_run.proofs.Completeness.{ends_refused, ends_well, ends_printed, ends_unreadable, wrong_words, no_command, has_read, has_written, has_failed, only_six, is_too_small, has_source_read, not_served}
use Rattle.dots_run.proofs.outcome.run_machine.Goals as goal

pub returns-clause-words : goal.returns-clause-words
returns-clause-words g c = (
  λ is. wrong_words _ _ _ c.ending_of.result (rw c.status.ensures at is) c.ending_of.ensures.machine,
  λ none. rw c.status.ensures (no_command _ _ _ c.ending_of.result none c.ending_of.ensures.machine),
)

pub returns-clause-read : goal.returns-clause-read
returns-clause-read g c = λ is. has_read _ _ _ c.ending_of.result (rw c.status.ensures at is) c.ending_of.ensures.machine

pub returns-clause-heard : goal.returns-clause-heard
returns-clause-heard g c = λ four five. has_source_read _ _ c.ending_of.result (λ is. four (c.status.ensures ∙ is)) (λ is. five (c.status.ensures ∙ is)) c.ending_of.ensures.heard

pub returns-clause-written : goal.returns-clause-written
returns-clause-written g c = λ is. has_written _ _ _ c.ending_of.result (rw c.status.ensures at is) c.ending_of.ensures.machine

pub returns-clause-refused : goal.returns-clause-refused
returns-clause-refused g c = λ served given. rw c.status.ensures (ends_refused _ _ _ c.ending_of.result served given c.ending_of.ensures.heard c.ending_of.ensures.machine)

pub returns-clause-complete : goal.returns-clause-complete
returns-clause-complete g c = λ served ready read came kept written.
    rw c.status.ensures (ends_well _ _ _ ready read came kept written c.ending_of.result served c.ending_of.ensures.machine)

pub returns-clause-disk : goal.returns-clause-disk
returns-clause-disk g c = λ is. has_failed _ _ _ c.ending_of.result (rw c.status.ensures at is) c.ending_of.ensures.machine

pub returns-clause-unfailed : goal.returns-clause-unfailed
returns-clause-unfailed g c = λ six. only_six c.ending_of.result _ _ (λ is. six (c.status.ensures ∙ is)) c.ending_of.ensures.counts

pub returns-clause-small : goal.returns-clause-small
returns-clause-small g c = λ ten. is_too_small _ _ _ c.ending_of.result (rw c.status.ensures at ten) c.ending_of.ensures.machine

pub returns-clause-readable : goal.returns-clause-readable
returns-clause-readable g c = λ show readable written. rw c.status.ensures (ends_printed _ _ _ c.ending_of.result show readable written c.ending_of.ensures.machine)

pub returns-clause-unreadable : goal.returns-clause-unreadable
returns-clause-unreadable g c = λ show none. rw c.status.ensures (ends_unreadable _ _ _ c.ending_of.result show none c.ending_of.ensures.machine)

pub returns-clause-uncalled : goal.returns-clause-uncalled
returns-clause-uncalled g c = λ low high.
    c.ending_of.ensures.uncalled (not_served c.ending_of.result (rw c.status.ensures at low) (rw c.status.ensures at high))
