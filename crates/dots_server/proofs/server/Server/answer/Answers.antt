use Rattle.std.proofs.Common.{◌≡◌, ◌++◌, List, None, refl, sym, ap, ◌∙◌, subst}
use Rattle.coap_observe.specs.Observed.{ObservedValue}
use Rattle.slot_store.specs.StoreValues.{JournalValue}
use Rattle.slot_journal.specs.DiskEntries as journal
use Rattle.dots_machine.specs.Verdict.{Verdict}
use Rattle.dots_machine.specs.Observing.{number_of, observing}
use Rattle.dots_machine.specs.Machine.{State, Decides, sends_of, after, watched}
use Rattle.dots_machine.proofs.Hearing.{after_observers}
use Rattle.dots_machine.proofs.Observing.{notified_history, notified_time}
use Rattle.dots_machine.proofs.Surviving.{verdict_grows}
use Rattle.dots_server.specs.Observing.{changed}
use Rattle.dots_server.specs.ServerValues.{ServerValue, RestartsWith}
use Rattle.dots_server.specs.Turning.{TurnedTo, Broke}
use Rattle.dots_server.proofs.Notifying.{observed_restarts}
use Rattle.dots_server.proofs.Turning.{notices_behind}
use Rattle.dots_server.proofs.Watching.{spoken_sends, spoken_after, spoken_accepts}
use Rattle.dots_server.proofs.server.Server.answer.Goals as goal

pub returns-in-Err-clause-failed : goal.returns-in-Err-clause-failed
returns-in-Err-clause-failed g c = λ settings here entries datagram kept came.
    let said = c.decide-decision.result.verdict in
    let host = c.args.host.now in
    let left = c.carry_out.new.host in
    let does = c.decide-decision.ensures.does settings here datagram kept.represents.represents came in
    let (accepted, broke) = c.in-Err.ensures.failed settings here entries kept in
    let (reply, entry, is) = accepted in
    record {
      reply = reply;
      entry = entry;
      decides = subst (λ v. Decides settings here c.args.peer datagram v)
          (spoken_accepts (number_of settings does.asked here.observers) does.decided reply entry (sym does.does.verdict_is ∙ is)) does.decides;
      broke = subst
          (λ (v : Verdict). Broke settings here (after v here) (journal.Represents c.args.self.now.journal settings entries) (g.H.Disk.media host) (g.H.Disk.media left) (g.H.Wire.acts host) (g.H.Wire.acts left))
          is
          broke;
    }

pub returns-clause-done : goal.returns-clause-done
returns-clause-done g c = λ settings state here entries datagram kept came hears.
    let peer = c.args.peer in
    let said = c.decide-decision.result.verdict in
    let watching = c.decide-decision.result.watching in
    let host = c.args.host.now in
    let between = c.carry_out.new.host in
    let left = c.notify.new.host in
    let does = c.decide-decision.ensures.does settings here datagram kept.represents.represents came in
    let number = number_of settings does.asked here.observers in
    let replies = sends_of None said peer in
    let carried = c.in-Ok.ensures.done settings here entries kept in
    let few = carried.0 in
    let same_after : after said here ≡ after does.decided here = ap (λ v. after v here) does.does.verdict_is ∙ spoken_after number does.decided here in
    let after_kept = subst (λ (now : State). RestartsWith c.carry_out.new.self settings now few) same_after carried.1 in
    let observed_now =
    observed_restarts c.carry_out.new.self peer watching settings (after does.decided here) few does.asked does.decided replies after_kept
    (λ lists.
    subst (λ (os : List ObservedValue). observing settings lists peer does.asked does.decided replies os ≡ changed settings.limits.observers lists peer watching os) (sym (after_observers does.decided here))
    (does.does.observers lists)) in
    let from : State = watched settings peer does.asked does.decided replies (after does.decided here) in
    let told = c.notify.ensures.notified settings from few (subst (λ (server : ServerValue). RestartsWith server settings from few) (sym c.observe.ensures) observed_now) in
    let notices = told.0 in
    let new = told.1 in
    let history_is : new.history ≡ (after does.decided here).history = notified_history settings from new notices told.2 in
    let time_is : new.time ≡ (after does.decided here).time = notified_time settings from new notices told.2 in
    let grown = verdict_grows does.decided here in
    record {
      sends = replies ++ notices;
      new = new;
      few = few;
      answers = record {
        met = here;
        hears = hears;
        decided = does.decided;
        decides = does.decides;
        asked = does.asked;
        watches = does.watches;
        replies = replies;
        replies_are = ap (λ v. sends_of None v peer) does.does.verdict_is ∙ sym (spoken_sends number does.decided peer);
        notices = notices;
        notified = told.2;
        sends_are = refl;
      };
      kept = told.3;
      turned = notices_behind settings here (after does.decided here) new replies notices (journal.Represents c.args.self.now.journal settings entries) (journal.Represents c.notify.new.self.journal settings few) (g.H.Disk.media host)
          (g.H.Disk.media between) (g.H.Disk.media left) (g.H.Wire.moment between) (g.H.Wire.moment left) (g.H.Wire.acts host) (g.H.Wire.acts between) (g.H.Wire.acts left)
          (subst
          (λ (now : State). TurnedTo (g.H.Wire.moment between) settings here now replies (journal.Represents c.args.self.now.journal settings entries) (journal.Represents c.notify.new.self.journal settings few) (g.H.Disk.media host)
          (g.H.Disk.media between) (g.H.Wire.acts host) (g.H.Wire.acts between))
          same_after
          (subst
          (λ (j : JournalValue). TurnedTo (g.H.Wire.moment between) settings here (after said here) replies (journal.Represents c.args.self.now.journal settings entries) (journal.Represents j settings few) (g.H.Disk.media host)
          (g.H.Disk.media between) (g.H.Wire.acts host) (g.H.Wire.acts between))
          (sym (c.notify.ensures.journal ∙ ap (λ (server : ServerValue). server.journal) c.observe.ensures))
          carried.2))
          history_is time_is told.4 c.notify.ensures.media;
      grows = (grown.0, history_is ∙ grown.1);
    }

pub returns-clause-observers : goal.returns-clause-observers
returns-clause-observers g c = c.notify.ensures.known

pub returns-clause-all : goal.returns-clause-all
returns-clause-all g c = c.notify.ensures.all
