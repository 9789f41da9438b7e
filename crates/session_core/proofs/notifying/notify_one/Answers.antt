use Rattle.std.proofs.Common.{sym, ap, ◌+◌}
use Rattle.std.proofs.lemmas.Bool.{cond-true, cond-false}
use Rattle.coap_observe.specs.Observing.{ObserversValue}
use Rattle.session_core.proofs.Ordering.{has_number, one_notified}
use Rattle.session_core.proofs.notifying.notify_one.Goals as goal

pub number-id-requires : goal.number-id-requires
number-id-requires g c =
    has_number (g.S.Views.lists c.args.view_bodies.now) (g.S.ViewBodies.bodies c.args.view_bodies.now) c.args.watch.now.sessions c.args.watch.now.observers.observed c.args.due.place c.args.due.peer c.args.due.gone
    c.args.due.bytes c.in-Some.bytes c.requires.within c.requires.made c.in-Some.is

pub returns-then-gone-clause-notified : goal.returns-then-gone-clause-notified
returns-then-gone-clause-notified g c one there =
    one_notified (g.S.Views.lists c.args.view_bodies.now) (g.S.ViewBodies.bodies c.args.view_bodies.now) c.args.watch.now.observers.observed c.notified.new.self.observed c.args.watch.now.sessions c.number-id.new.self
    c.args.due.place one c.args.due.peer c.number-id.result c.args.due.gone c.items.result.now c.in-Some.bytes c.args.due.bytes c.args.due.place
    (g.H.Wire.acts c.args.host.now) (g.H.Wire.acts c.send_to.new.host) (g.H.Wire.moment c.args.host.now) (g.H.Wire.moment c.send_to.new.host)
    (c.requires.made one there) c.in-Some.is
    c.number-id.ensures.number c.number-id.ensures.after (ap (λ (o : ObserversValue). o.observed) c.notified.ensures) c.items.ensures c.send_to.ensures.acts
    (sym (cond-true c.args.due.gone c.args.due.place (c.args.due.place + 1) c.if-gone.true))

pub returns-in-Some-clause-notified : goal.returns-in-Some-clause-notified
returns-in-Some-clause-notified g c one there =
    one_notified (g.S.Views.lists c.args.view_bodies.now) (g.S.ViewBodies.bodies c.args.view_bodies.now) c.args.watch.now.observers.observed c.notified.new.self.observed c.args.watch.now.sessions c.number-id.new.self
    c.args.due.place one c.args.due.peer c.number-id.result c.args.due.gone c.items.result.now c.in-Some.bytes c.args.due.bytes (c.args.due.place + 1)
    (g.H.Wire.acts c.args.host.now) (g.H.Wire.acts c.send_to.new.host) (g.H.Wire.moment c.args.host.now) (g.H.Wire.moment c.send_to.new.host)
    (c.requires.made one there) c.in-Some.is
    c.number-id.ensures.number c.number-id.ensures.after (ap (λ (o : ObserversValue). o.observed) c.notified.ensures) c.items.ensures c.send_to.ensures.acts
    (sym (cond-false c.args.due.gone c.args.due.place (c.args.due.place + 1) c.if-gone.false))
