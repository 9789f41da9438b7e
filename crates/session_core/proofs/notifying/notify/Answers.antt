use Rattle.std.proofs.Common.{[], ◌++◌, ◌∙◌, refl, sym, ap, subst, length}
use Rattle.std.proofs.lemmas.Bool.{false≢true}
use Rattle.session_core.proofs.Sends.{sent_then, sent_none, keeps_still, keeps_then}
use Rattle.coap_observe.specs.Observing.{NoneIsDue}
use Rattle.session_core.proofs.Quiet.{quiet_first, went_so, quiet_then, owed_then, notified_still, known_behind}
use Rattle.session_core.proofs.Unheard.{still_so}
use Rattle.session_core.proofs.Excused.{excuse, only_first, only_then, only_behind}
use Rattle.session_core.specs.Contacts.{number_of}
use Rattle.session_core.proofs.Ordering.{far_first, far_last, far_on, fewer, made_of}
use Rattle.session_core.proofs.notifying.notify.Goals as goal

pub loop-due-init : goal.loop-due-init
loop-due-init g c = record {
  notified = ([], far_first _ _ _ _, sent_none (g.H.Wire.acts c.args.host.now) (g.H.Wire.moment c.args.host.now));
  quiet = λ none. quiet_first (g.S.Views.lists c.args.view_bodies.now) c.args.watch.now.due c.args.watch.now.observers.observed;
  owed = λ passed. absurd (false≢true passed);
  all = λ none. only_first (g.S.Views.lists c.args.view_bodies.now) c.args.watch.now.due c.args.watch.now.sessions c.args.watch.now.observers.observed;
  due = refl;
  room = refl;
  pairs = refl;
  media = keeps_still (g.H.Disk.media c.args.host.now);
  extent = refl;
  disk = refl;
  wire = refl;
  leads = g.met.H.Wire.leads_same c.args.host.now;
}

pub notify_one-from-requires : goal.notify_one-from-requires
notify_one-from-requires g c =
    let next = c.in-Some.ensures.next in
    record { within = next.2; few = c.in-Some.ensures.few; made = λ one there. made_of (g.S.Views.lists c.args.view_bodies.now) (g.S.ViewBodies.bodies c.args.view_bodies.now) c.loop-due.watch.sessions c.loop-due.watch.observers.observed c.in-Some.due.place _ _ _ _ _ next.1 there next.5 }

pub loop-due-smaller : goal.loop-due-smaller
loop-due-smaller g c =
    let next = c.in-Some.ensures.next in
    let one = c.notify_one-from.ensures.notified next.0 next.1 in
    fewer _ _ _ _ _ _ _ _ c.loop-due.invariant.notified.1 _ next.0 next.1 next.2 next.3 next.4 _ _ _ _ _ one.1

pub loop-due-preserved : goal.loop-due-preserved
loop-due-preserved g c =
    let next = c.in-Some.ensures.next in
    let one = c.notify_one-from.ensures.notified next.0 next.1 in
    let kept = c.loop-due.invariant in
    let lists = g.S.Views.lists c.args.view_bodies.now in
    let rows = c.loop-due.watch.observers.observed in
    let new = c.notify_one-from.new.watch.observers.observed in
    let went = went_so _ _ _ _ _ _ _ _ _ _ _ one.1 in
    record {
      notified = (
        kept.notified.0 ++ one.0,
        far_on _ _ _ _ _ _ _ _ kept.notified.1 _ next.0 next.1 next.2 next.3 next.4 _ _ _ _ _ one.1,
        sent_then _ _ _ _ _ _ _ _ kept.notified.2 one.2,
      );
      quiet = quiet_then lists c.args.watch.now.due rows c.loop-due.from c.in-Some.due.place next.0 next.1 next.3 next.4 new c.notify_one-from.result
          c.in-Some.due.bytes c.is_none-passed_over.result c.loop-due.passed_over c.is_none-passed_over.ensures went kept.quiet (subst (λ among. NoneIsDue lists among c.loop-due.from c.in-Some.due.place rows) kept.due next.6);
      owed = owed_then lists c.args.watch.now.due rows c.loop-due.from c.in-Some.due.place next.0 next.1 next.3 next.4 new c.notify_one-from.result
          c.in-Some.due.bytes c.is_none-passed_over.result c.loop-due.passed_over c.is_none-passed_over.ensures went kept.owed;
      all = λ none.
          let both = c.last_refused-refused.ensures none in
          only_then lists c.args.watch.now.due rows c.loop-due.from c.in-Some.due.place next.0 next.1 next.3 new c.notify_one-from.result c.loop-due.watch.sessions c.notify_one-from.new.watch.sessions
          c.in-Some.due.bytes went
          (λ unmade. ap (λ p. number_of p c.loop-due.watch.sessions) (sym next.5.peer_is) ∙ excuse c.loop-due.watch.sessions c.in-Some.due.peer c.in-Some.due.bytes c.in-Some.due.refused both.1 unmade c.in-Some.ensures.excused)
          (λ peer. still_so _ _ _ _ _ _ _ _ _ _ _ one.1 peer) (kept.all both.0) (subst (λ among. NoneIsDue lists among c.loop-due.from c.in-Some.due.place rows) kept.due next.6);
      due = c.notify_one-from.ensures.due ∙ kept.due;
      room = c.notify_one-from.ensures.room ∙ kept.room;
      pairs = c.notify_one-from.ensures.pairs ∙ kept.pairs;
      media = keeps_then _ _ _ kept.media c.notify_one-from.ensures.media;
      extent = c.notify_one-from.ensures.extent ∙ kept.extent;
      disk = c.notify_one-from.ensures.disk ∙ kept.disk;
      wire = c.notify_one-from.ensures.wire ∙ kept.wire;
      leads = g.met.H.Wire.leads_then _ _ _ kept.leads c.notify_one-from.ensures.leads;
    }

pub returns-clause-notified : goal.returns-clause-notified
returns-clause-notified g c =
    let kept = c.loop-due.invariant in
    (kept.notified.0, far_last _ _ _ _ _ _ _ _ kept.notified.1, kept.notified.2)

pub returns-clause-due : goal.returns-clause-due
returns-clause-due g c = λ are.
    let lists = g.S.Views.lists c.args.view_bodies.now in
    let kept = c.loop-due.invariant in
    let rows = c.loop-due.watch.observers.observed in
    let all = far_last _ _ _ _ _ _ _ _ kept.notified.1 in
    known_behind lists c.args.watch.now.due rows c.loop-due.from c.loop-due.passed_over c.due_behind-watch.result c.due_behind-watch.ensures
    (notified_still lists (g.S.ViewBodies.bodies c.args.view_bodies.now) c.args.watch.now.due c.args.watch.now.observers.observed c.args.watch.now.sessions kept.notified.0 rows c.loop-due.watch.sessions all are)
    kept.quiet (subst (λ among. NoneIsDue lists among c.loop-due.from (length rows) rows) kept.due c.in_default.ensures.next) kept.owed

pub returns-clause-all : goal.returns-clause-all
returns-clause-all g c = λ are none.
    let lists = g.S.Views.lists c.args.view_bodies.now in
    let kept = c.loop-due.invariant in
    let rows = c.loop-due.watch.observers.observed in
    let all = far_last _ _ _ _ _ _ _ _ kept.notified.1 in
    only_behind lists c.args.watch.now.due c.loop-due.watch.sessions rows c.loop-due.from
    (notified_still lists (g.S.ViewBodies.bodies c.args.view_bodies.now) c.args.watch.now.due c.args.watch.now.observers.observed c.args.watch.now.sessions kept.notified.0 rows c.loop-due.watch.sessions all are)
    (kept.all none) (subst (λ among. NoneIsDue lists among c.loop-due.from (length rows) rows) kept.due c.in_default.ensures.next)
