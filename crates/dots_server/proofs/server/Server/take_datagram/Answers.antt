use Rattle.std.proofs.Common.{sym, subst}
use Rattle.dots_registry.proofs.Answering.{ok_as, err_as}
use Rattle.dots_machine.specs.Machine.{Hears}
use Rattle.dots_server.specs.Asking.{IsCome}
use Rattle.dots_server.specs.HearingPeers.{met}
use Rattle.dots_server.proofs.HearingPeers.{came_heard}
use Rattle.dots_server.proofs.EventTurns.{met_grows, datagram_taken, datagram_failed, meeting_failed}
use Rattle.dots_server.proofs.server.Server.take_datagram.Goals as goal

pub answer-requires-clause-came : goal.answer-requires-clause-came
answer-requires-clause-came g c =
    (c.args.datagram.now, subst (λ s. IsCome s c.args.peer c.args.datagram.now c.receive-came.result) (sym c.meet.ensures.settings) c.receive-came.ensures)

pub returns-in-Ok-clause-done : goal.returns-in-Ok-clause-done
returns-in-Ok-clause-done g c =
    ok_as c.answer.result _ _ (λ goes settings state entries kept.
    let peer = c.args.peer in
    let host = c.args.host.now in
    let there = c.meet.new.host in
    let left = c.answer.new.host in
    let here = met settings c.hears-heard.result peer state in
    let come = subst (λ s. IsCome s peer c.args.datagram.now c.receive-came.result) kept.represents.represents.settings_are c.receive-came.ensures in
    let hears = subst (λ heard. Hears settings state peer c.args.datagram.now (met settings heard peer state)) (sym c.hears-heard.ensures) (came_heard settings state peer c.args.datagram.now c.receive-came.result come) in
    let (few, met_kept, wrote) = c.in-Ok.ensures.done settings state entries kept in
    datagram_taken settings state here peer c.args.datagram.now hears (met_grows settings c.hears-heard.result peer state) c.args.self.now c.meet.new.self entries few
    (g.H.Disk.media host) (g.H.Disk.media there) (g.H.Wire.acts host) (g.H.Wire.acts there) met_kept (g.H.Wire.moment there) (g.met.H.Host.one_moment there) wrote
    c.answer.new.self (g.H.Disk.media left) (g.H.Wire.acts left) (goes settings state here few c.args.datagram.now met_kept come hears))
    c.answer.ensures.done

pub returns-in-Ok-clause-failed : goal.returns-in-Ok-clause-failed
returns-in-Ok-clause-failed g c =
    err_as c.answer.result _ _ (λ goes settings state entries kept.
    let peer = c.args.peer in
    let host = c.args.host.now in
    let there = c.meet.new.host in
    let left = c.answer.new.host in
    let here = met settings c.hears-heard.result peer state in
    let come = subst (λ s. IsCome s peer c.args.datagram.now c.receive-came.result) kept.represents.represents.settings_are c.receive-came.ensures in
    let hears = subst (λ heard. Hears settings state peer c.args.datagram.now (met settings heard peer state)) (sym c.hears-heard.ensures) (came_heard settings state peer c.args.datagram.now c.receive-came.result come) in
    let (few, met_kept, wrote) = c.in-Ok.ensures.done settings state entries kept in
    datagram_failed settings state here peer c.args.datagram.now hears (met_grows settings c.hears-heard.result peer state) c.args.self.now c.meet.new.self entries few
    (g.H.Disk.media host) (g.H.Disk.media there) (g.H.Wire.acts host) (g.H.Wire.acts there) met_kept (g.H.Wire.moment there) (g.met.H.Host.one_moment there) wrote
    (g.H.Disk.media left) (g.H.Wire.acts left) (goes settings here few c.args.datagram.now met_kept come))
    c.answer.ensures.failed

pub returns-in-Err-clause-failed : goal.returns-in-Err-clause-failed
returns-in-Err-clause-failed g c = λ settings state entries kept.
    let peer = c.args.peer in
    let host = c.args.host.now in
    let left = c.meet.new.host in
    let here = met settings c.hears-heard.result peer state in
    let come = subst (λ s. IsCome s peer c.args.datagram.now c.receive-came.result) kept.represents.represents.settings_are c.receive-came.ensures in
    let hears = subst (λ heard. Hears settings state peer c.args.datagram.now (met settings heard peer state)) (sym c.hears-heard.ensures) (came_heard settings state peer c.args.datagram.now c.receive-came.result come) in
    let (adds, broke) = c.in-Err.ensures.failed settings state entries kept in
    meeting_failed settings state here peer c.args.datagram.now hears (met_grows settings c.hears-heard.result peer state) c.args.self.now c.meet.new.self entries entries
    (g.H.Disk.media host) (g.H.Disk.media left) (g.H.Wire.acts host) (g.H.Wire.acts left) adds broke
