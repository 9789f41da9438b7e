use Rattle.std.proofs.Common.{◌∙◌, map, string_bytes, inl, refl, sym, subst}
use Rattle.dots_host.specs.Causes.{Rose}
use Rattle.dots_run.specs.Reporting.{ReportsTopic, IsSound, IsAtFault}
use Rattle.dots_run.proofs.Asking.{never_served, no_show, no_source, one_topic, topic_is_known, known_without, no_topic, never_two, never_ten, status_unread, status_unwritten, status_sound, status_at_fault, status_source_read}
use Rattle.dots_run.proofs.running.run_shown.Goals as goal

-- ---- what is told without serving

pub returns-in-Some-clause-machine : goal.returns-in-Some-clause-machine
returns-in-Some-clause-machine g c = λ none. no_topic (map string_bytes c.args.words.now) c.in-Some.topic _ none (sym c.in-Some.ensures)

pub returns-in-Some-clause-told : goal.returns-in-Some-clause-told
returns-in-Some-clause-told g c = λ topic is.
    let same = one_topic (map string_bytes c.args.words.now) c.in-Some.topic topic (sym c.in-Some.ensures) is in (
      c.report_topic.result,
      c.status.ensures,
      subst (λ topic. ReportsTopic topic c.report_topic.result (g.S.Source.left c.args.settings.now) (g.K.Sink.holds c.args.report.now) (g.K.Sink.holds c.report_topic.new.report)
          (Rose (g.S.Source.faults c.args.settings.now) (g.S.Source.faults c.report_topic.new.source)) (Rose (g.K.Sink.faults c.args.report.now) (g.K.Sink.faults c.report_topic.new.report)))
          same c.report_topic.ensures.reported,
    )

pub returns-in-Some-clause-words : goal.returns-in-Some-clause-words
returns-in-Some-clause-words g c = (λ two. absurd (never_two c.report_topic.result (sym c.status.ensures ∙ two)), λ none. absurd (topic_is_known (map string_bytes c.args.words.now) c.in-Some.topic (sym c.in-Some.ensures) none))

pub returns-in-Some-clause-read : goal.returns-in-Some-clause-read
returns-in-Some-clause-read g c = λ five. inl (c.report_topic.ensures.read (status_unread c.report_topic.result (sym c.status.ensures ∙ five)))

pub returns-in-Some-clause-heard : goal.returns-in-Some-clause-heard
returns-in-Some-clause-heard g c = λ four five. status_source_read c.report_topic.result _ c.report_topic.ensures.heard (λ is. four (c.status.ensures ∙ is)) (λ is. five (c.status.ensures ∙ is))

pub returns-in-Some-clause-written : goal.returns-in-Some-clause-written
returns-in-Some-clause-written g c = λ nine. c.report_topic.ensures.written (status_unwritten c.report_topic.result (sym c.status.ensures ∙ nine))

pub returns-in-Some-clause-unfailed : goal.returns-in-Some-clause-unfailed
returns-in-Some-clause-unfailed g c = λ six. refl

pub returns-in-Some-clause-small : goal.returns-in-Some-clause-small
returns-in-Some-clause-small g c = λ ten. absurd (never_ten c.report_topic.result (sym c.status.ensures ∙ ten))

pub returns-in-Some-clause-unread : goal.returns-in-Some-clause-unread
returns-in-Some-clause-unread g c = λ served check script. c.report_topic.ensures.unread (no_source (map string_bytes c.args.words.now) c.in-Some.topic (sym c.in-Some.ensures) check script)

pub returns-in-Some-clause-refused : goal.returns-in-Some-clause-refused
returns-in-Some-clause-refused g c = λ served. absurd (never_served (map string_bytes c.args.words.now) c.in-Some.topic (sym c.in-Some.ensures) served)

pub returns-in-Some-clause-complete : goal.returns-in-Some-clause-complete
returns-in-Some-clause-complete g c = λ served. absurd (never_served (map string_bytes c.args.words.now) c.in-Some.topic (sym c.in-Some.ensures) served)

pub returns-in-Some-clause-readable : goal.returns-in-Some-clause-readable
returns-in-Some-clause-readable g c = λ show. absurd (no_show (map string_bytes c.args.words.now) c.in-Some.topic (sym c.in-Some.ensures) show)

pub returns-in-Some-clause-unreadable : goal.returns-in-Some-clause-unreadable
returns-in-Some-clause-unreadable g c = λ show. absurd (no_show (map string_bytes c.args.words.now) c.in-Some.topic (sym c.in-Some.ensures) show)

pub returns-in-Some-clause-sound : goal.returns-in-Some-clause-sound
returns-in-Some-clause-sound g c = λ topic is sound read written.
    let same = one_topic (map string_bytes c.args.words.now) topic c.in-Some.topic is (sym c.in-Some.ensures) in
    rw c.status.ensures (status_sound c.report_topic.result (c.report_topic.ensures.sound (subst (λ topic. IsSound topic (g.S.Source.left c.args.settings.now)) same sound) read written))

pub returns-in-Some-clause-at_fault : goal.returns-in-Some-clause-at_fault
returns-in-Some-clause-at_fault g c = λ topic is fault read.
    let same = one_topic (map string_bytes c.args.words.now) topic c.in-Some.topic is (sym c.in-Some.ensures) in
    rw c.status.ensures (status_at_fault c.report_topic.result (c.report_topic.ensures.at_fault (subst (λ topic. IsAtFault topic (g.S.Source.left c.args.settings.now)) same fault) read))

-- ---- the machine's commands

pub returns-in-None-clause-told : goal.returns-in-None-clause-told
returns-in-None-clause-told g c = λ topic is. no_topic (map string_bytes c.args.words.now) topic _ (sym c.in-None.ensures) is

pub returns-in-None-clause-words : goal.returns-in-None-clause-words
returns-in-None-clause-words g c = (
  λ two. known_without (map string_bytes c.args.words.now) (sym c.in-None.ensures) ∙ c.run_machine.ensures.words.0 two,
  λ none. c.run_machine.ensures.words.1 (sym (known_without (map string_bytes c.args.words.now) (sym c.in-None.ensures)) ∙ none),
)

pub returns-in-None-clause-sound : goal.returns-in-None-clause-sound
returns-in-None-clause-sound g c = λ topic is. no_topic (map string_bytes c.args.words.now) topic _ (sym c.in-None.ensures) is

pub returns-in-None-clause-at_fault : goal.returns-in-None-clause-at_fault
returns-in-None-clause-at_fault g c = λ topic is. no_topic (map string_bytes c.args.words.now) topic _ (sym c.in-None.ensures) is
