use Rattle.std.proofs.Common.{refl, sym, ap, subst}
use Rattle.dots_history.specs.declared.change.Change.TheVariants as change
use Rattle.dots_registry.proofs.Answering.{ok_as, err_as}
use Rattle.dots_server.specs.ServerValues.{ServerValue, RestartsWith}
use Rattle.dots_server.specs.HearingPeers.{as_heard, met}
use Rattle.dots_server.specs.Signals.{returned}
use Rattle.dots_server.proofs.HearingPeers.{heard_restarts}
use Rattle.dots_server.proofs.LostSignals.{is_loss_back}
use Rattle.dots_server.proofs.Meeting.{met_is, nothing_restarts, one_restarts, one_broke}
use Rattle.dots_server.proofs.server.Server.meet.Goals as goal

pub keep_signal-requires-clause-loss : goal.keep_signal-requires-clause-loss
keep_signal-requires-clause-loss g c = is_loss_back

pub returns-in-Some-clause-done : goal.returns-in-Some-clause-done
returns-in-Some-clause-done g c =
    ok_as c.keep_signal.result _ _ (λ goes settings state entries kept.
    let peer = c.args.peer in
    let heard = c.args.heard in
    let host = c.args.host.now in
    let left = c.keep_signal.new.host in
    let base = as_heard heard peer state in
    let mid_kept = subst (λ (server : ServerValue). RestartsWith server settings base entries) (sym c.hear.ensures) (heard_restarts heard peer c.args.self.now settings state entries kept) in
    let (few, new_kept, wrote) = goes settings base entries mid_kept in
    one_restarts settings state base (met settings heard peer state) peer change.Back (returned heard settings state.history peer) refl (met_is settings heard peer state)
    c.args.self.now c.hear.new.self entries (ap (λ (server : ServerValue). server.journal) c.hear.ensures) c.in-Some.domain (sym (c.in-Some.ensures.domain settings base mid_kept.represents.represents))
    c.keep_signal.new.self (g.H.Disk.media host) (g.H.Disk.media left) (g.H.Wire.acts host) (g.H.Wire.acts left) few new_kept wrote)
    c.keep_signal.ensures.done

pub returns-in-Some-clause-failed : goal.returns-in-Some-clause-failed
returns-in-Some-clause-failed g c =
    err_as c.keep_signal.result _ _ (λ goes settings state entries kept.
    let peer = c.args.peer in
    let heard = c.args.heard in
    let host = c.args.host.now in
    let left = c.keep_signal.new.host in
    let base = as_heard heard peer state in
    let mid_kept = subst (λ (server : ServerValue). RestartsWith server settings base entries) (sym c.hear.ensures) (heard_restarts heard peer c.args.self.now settings state entries kept) in
    one_broke settings state base (met settings heard peer state) peer change.Back (returned heard settings state.history peer) refl (met_is settings heard peer state)
    c.args.self.now c.hear.new.self entries (ap (λ (server : ServerValue). server.journal) c.hear.ensures) c.in-Some.domain (sym (c.in-Some.ensures.domain settings base mid_kept.represents.represents))
    c.keep_signal.new.self (g.H.Disk.media host) (g.H.Disk.media left) (g.H.Wire.acts host) (g.H.Wire.acts left) (goes settings base entries mid_kept))
    c.keep_signal.ensures.failed

pub returns-in-None-clause-done : goal.returns-in-None-clause-done
returns-in-None-clause-done g c = λ settings state entries kept.
    let peer = c.args.peer in
    let heard = c.args.heard in
    let host = c.args.host.now in
    let base = as_heard heard peer state in
    let mid_kept = subst (λ (server : ServerValue). RestartsWith server settings base entries) (sym c.hear.ensures) (heard_restarts heard peer c.args.self.now settings state entries kept) in
    nothing_restarts settings state base (met settings heard peer state) peer change.Back (returned heard settings state.history peer) refl (met_is settings heard peer state)
    c.args.self.now c.hear.new.self entries (ap (λ (server : ServerValue). server.journal) c.hear.ensures) (sym (c.in-None.ensures.domain settings base mid_kept.represents.represents))
    mid_kept (g.H.Disk.media host) (g.H.Wire.acts host)
