use Rattle.std.proofs.Common.{◌++◌, refl, sym, ap}
use Rattle.dots_history.specs.declared.change.Change.TheVariants as change
use Rattle.dots_registry.proofs.Answering.{ok_as, err_as}
use Rattle.dots_server.specs.Signals.{with_turn, lapsed_at}
use Rattle.dots_server.proofs.LostSignals.{is_loss_lost}
use Rattle.dots_server.proofs.Meeting.{nothing_restarts, one_restarts, one_broke}
use Rattle.dots_server.proofs.server.Server.lapse_at.Goals as goal

pub keep_signal-requires-clause-loss : goal.keep_signal-requires-clause-loss
keep_signal-requires-clause-loss g c = is_loss_lost

pub returns-in-Some-clause-done : goal.returns-in-Some-clause-done
returns-in-Some-clause-done g c =
    ok_as c.keep_signal.result _ _ (λ goes settings state entries kept.
    let peer = c.peer_at-peer.result in
    let place = c.args.place in
    let host = c.args.host.now in
    let left = c.keep_signal.new.host in
    let base = with_turn settings place state in
    let mid_kept = c.turn.ensures.kept settings state entries kept in
    let (few, new_kept, wrote) = goes settings base entries mid_kept in
    one_restarts settings state base (lapsed_at settings place state) peer change.Lost c.turn.result refl
    (ap (λ more. record (with_turn settings place state) { history = state.history ++ more }) (sym (c.turn.ensures.lost settings state kept.represents.represents)))
    c.args.self.now c.turn.new.self entries c.turn.ensures.journal c.in-Some.domain c.in-Some.is
    c.keep_signal.new.self (g.H.Disk.media host) (g.H.Disk.media left) (g.H.Wire.acts host) (g.H.Wire.acts left) few new_kept wrote)
    c.keep_signal.ensures.done

pub returns-in-Some-clause-failed : goal.returns-in-Some-clause-failed
returns-in-Some-clause-failed g c =
    err_as c.keep_signal.result _ _ (λ goes settings state entries kept.
    let peer = c.peer_at-peer.result in
    let place = c.args.place in
    let host = c.args.host.now in
    let left = c.keep_signal.new.host in
    let base = with_turn settings place state in
    let mid_kept = c.turn.ensures.kept settings state entries kept in
    one_broke settings state base (lapsed_at settings place state) peer change.Lost c.turn.result refl
    (ap (λ more. record (with_turn settings place state) { history = state.history ++ more }) (sym (c.turn.ensures.lost settings state kept.represents.represents)))
    c.args.self.now c.turn.new.self entries c.turn.ensures.journal c.in-Some.domain c.in-Some.is
    c.keep_signal.new.self (g.H.Disk.media host) (g.H.Disk.media left) (g.H.Wire.acts host) (g.H.Wire.acts left) (goes settings base entries mid_kept))
    c.keep_signal.ensures.failed

pub returns-in-None-clause-done : goal.returns-in-None-clause-done
returns-in-None-clause-done g c = λ settings state entries kept.
    let peer = c.peer_at-peer.result in
    let place = c.args.place in
    let host = c.args.host.now in
    let base = with_turn settings place state in
    let mid_kept = c.turn.ensures.kept settings state entries kept in
    nothing_restarts settings state base (lapsed_at settings place state) peer change.Lost c.turn.result refl
    (ap (λ more. record (with_turn settings place state) { history = state.history ++ more }) (sym (c.turn.ensures.lost settings state kept.represents.represents)))
    c.args.self.now c.turn.new.self entries c.turn.ensures.journal c.in-None.is
    mid_kept (g.H.Disk.media host) (g.H.Wire.acts host)
