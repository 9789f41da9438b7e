use Rattle.std.proofs.Common.{take, refl, sym, ap, ◌∙◌, [], ◌∷◌, subst, append-nil, arith}
use Rattle.dots_host.specs.Runs.{Added, Gives, each_telling}
use Rattle.dots_host.proofs.RunLemmas.{added_weaker}
use Rattle.slot_store.specs.StoreValues.{JournalValue}
use Rattle.slot_journal.specs.DiskEntries as journal
use Rattle.dots_registry.proofs.Answering.{ok_as, err_as, err_of}
use Rattle.session_core.specs.Beats.{beats}
use Rattle.std.specs.Prelude.{slice_get}
use Rattle.coap_observe.specs.Observed.{is_due}
use Rattle.session_core.specs.declared.watch.Watch.{Watch}
use Rattle.dots_registry.specs.RegistryValues.{RegistryValue}
use Rattle.dots_registry.specs.ObserverViews.{views_of}
use Rattle.session_core.specs.Notifying.{SentTo, IsKnown}
use Rattle.session_core.proofs.Sends.{sent_then, keeps_then}
use Rattle.stream_table.specs.Lines.{opened, opening, forgotten}
use Rattle.dots_machine.specs.Machine.{later, lapsed, beating, connected, disconnected, turned_away}
use Rattle.dots_server.specs.ServerValues.{ServerValue, RestartsWith}
use Rattle.dots_server.specs.Observing.{MayNotify}
use Rattle.dots_server.specs.Turning.{Turned}
use Rattle.dots_server.specs.Taking.{stored_of}
use Rattle.dots_server.proofs.Looping.{restarts_stored}
use Rattle.dots_server.proofs.Connecting.{lines_restarts}
use Rattle.dots_server.proofs.Turning.{unwritten}
use Rattle.dots_server.proofs.Following.{added_on}
use Rattle.dots_server.proofs.TakingPieces.{piece_took, piece_broke_off}
use Rattle.dots_server.proofs.EventTurns.{datagram_took, datagram_broke_off, tick_took, tick_broke_off}
use Rattle.dots_server.proofs.server.Server.handle.Goals as goal

pub returns-in-Datagram-clause-done : goal.returns-in-Datagram-clause-done
returns-in-Datagram-clause-done g c =
    ok_as c.take_datagram.result _ _ (λ goes settings state entries kept.
    let at = c.args.got.now.at in
    let host = c.args.host.now in
    let left = c.take_datagram.new.host in
    rw c.in-Datagram.is (
    datagram_took settings at state c.args.self.now c.move_time.new.self entries c.move_time.ensures.journal (g.H.Disk.media host) (g.H.Disk.media left) (g.H.Wire.acts host) (g.H.Wire.acts left)
    c.in-Datagram.from (take c.in-Datagram.len c.args.room.now) c.take_datagram.new.self (goes settings (later state at) entries (c.move_time.ensures.kept settings state entries kept))
    ))
    c.take_datagram.ensures.done

pub returns-in-Datagram-clause-failed : goal.returns-in-Datagram-clause-failed
returns-in-Datagram-clause-failed g c =
    err_as c.take_datagram.result _ _ (λ goes settings state entries kept.
    let at = c.args.got.now.at in
    let host = c.args.host.now in
    let left = c.take_datagram.new.host in
    rw c.in-Datagram.is (
    datagram_broke_off settings at state c.args.self.now c.move_time.new.self entries c.move_time.ensures.journal (g.H.Disk.media host) (g.H.Disk.media left) (g.H.Wire.acts host) (g.H.Wire.acts left)
    c.in-Datagram.from (take c.in-Datagram.len c.args.room.now) (goes settings (later state at) entries (c.move_time.ensures.kept settings state entries kept))
    ))
    c.take_datagram.ensures.failed

pub returns-in-Tick-clause-done : goal.returns-in-Tick-clause-done
returns-in-Tick-clause-done g c = λ settings state entries kept.
    let at = c.args.got.now.at in
    let now = later state at in
    let host = c.args.host.now in
    let there = c.lapse.new.host in
    let between = c.notify.new.host in
    let left = c.send_heartbeats.new.host in
    let moved = c.move_time-in-Tick.ensures.kept settings state entries kept in
    let taken = c.in_ok-lapse-in-Tick.ensures.done settings now entries moved in
    let tells = c.notify.ensures.notified settings (lapsed settings now) taken.few taken.kept in
    let notices = tells.0 in
    let told = tells.1 in
    let heartbeats = beats (beating settings told) told.time told.contacts in
    let sent =
    sent_then (g.H.Wire.acts there) (g.H.Wire.acts between) (g.H.Wire.acts left) (g.H.Wire.moment there) (g.H.Wire.moment between) (g.H.Wire.moment left) notices heartbeats tells.4
    (c.send_heartbeats.ensures.sent settings told tells.3.represents.represents) in
    rw c.in-Tick.is (
    tick_took settings at state c.args.self.now c.move_time-in-Tick.new.self entries c.move_time-in-Tick.ensures.journal c.lapse.new.self c.send_heartbeats.new.self
    (g.H.Disk.media host) (g.H.Disk.media there) (g.H.Disk.media left) (g.H.Wire.acts host) (g.H.Wire.acts there) (g.H.Wire.acts left) (g.H.Wire.moment there) (g.H.Wire.moment left)
    taken notices told tells.2 (c.send_heartbeats.ensures.kept settings told taken.few tells.3) (c.send_heartbeats.ensures.journal ∙ c.notify.ensures.journal) (g.met.H.Host.one_moment there) sent
    (keeps_then (g.H.Disk.media there) (g.H.Disk.media between) (g.H.Disk.media left) c.notify.ensures.media c.send_heartbeats.ensures.media)
    )

pub returns-in_err-lapse-in-Tick-clause-failed : goal.returns-in_err-lapse-in-Tick-clause-failed
returns-in_err-lapse-in-Tick-clause-failed g c =
    err_of c.from_residual.result _ (λ settings state entries kept.
    let at = c.args.got.now.at in
    let host = c.args.host.now in
    let left = c.lapse.new.host in
    rw c.in-Tick.is (
    tick_broke_off settings at state c.args.self.now c.move_time-in-Tick.new.self entries c.move_time-in-Tick.ensures.journal
    (g.H.Disk.media host) (g.H.Disk.media left) (g.H.Wire.acts host) (g.H.Wire.acts left)
    (c.in_err-lapse-in-Tick.ensures.failed settings (later state at) entries (c.move_time-in-Tick.ensures.kept settings state entries kept))
    ))

pub returns-in-Piece-clause-done : goal.returns-in-Piece-clause-done
returns-in-Piece-clause-done g c = λ settings state entries kept.
    let at = c.args.got.now.at in
    let now = later state at in
    let host = c.args.host.now in
    let between = c.take_piece.new.host in
    let left = c.notify-in-Piece.new.host in
    let moved = c.move_time-in-Piece.ensures.kept settings state entries kept in
    let taken = c.in_ok-take_piece-in-Piece.ensures.done settings now entries moved in
    let notified = c.notify-in-Piece.ensures.notified settings taken.rested taken.few taken.kept in
    rw c.in-Piece.is (
    piece_took settings c.in-Piece.conn at (take c.in-Piece.len c.args.room.now) state c.args.self.now c.move_time-in-Piece.new.self entries c.move_time-in-Piece.ensures.journal c.take_piece.new.self c.notify-in-Piece.new.self
    (g.H.Disk.media host) (g.H.Disk.media between) (g.H.Disk.media left) (g.H.Wire.acts host) (g.H.Wire.acts between) (g.H.Wire.acts left) (g.H.Wire.moment between) (g.H.Wire.moment left)
    taken notified.0 notified.1 notified.2 notified.3 c.notify-in-Piece.ensures.journal (g.met.H.Host.one_moment between) notified.4 c.notify-in-Piece.ensures.media
    )

pub returns-in_err-take_piece-in-Piece-clause-failed : goal.returns-in_err-take_piece-in-Piece-clause-failed
returns-in_err-take_piece-in-Piece-clause-failed g c =
    err_of c.from_residual-in_err-take_piece-in-Piece.result _ (λ settings state entries kept.
    let at = c.args.got.now.at in
    let host = c.args.host.now in
    let left = c.take_piece.new.host in
    let moved = c.move_time-in-Piece.ensures.kept settings state entries kept in
    rw c.in-Piece.is (
    piece_broke_off settings c.in-Piece.conn at (take c.in-Piece.len c.args.room.now) state c.args.self.now c.move_time-in-Piece.new.self entries c.move_time-in-Piece.ensures.journal
    (g.H.Disk.media host) (g.H.Disk.media left) (g.H.Wire.acts host) (g.H.Wire.acts left) (c.in_err-take_piece-in-Piece.ensures.failed settings (later state at) entries moved)
    ))

pub returns-in-Piece-clause-adds : goal.returns-in-Piece-clause-adds
returns-in-Piece-clause-adds g c = added_on (g.H.Wire.acts c.args.host.now) (g.H.Wire.acts c.take_piece.new.host) (g.H.Wire.acts c.notify-in-Piece.new.host) c.take_piece.ensures.adds c.notify-in-Piece.ensures.adds

pub returns-in-Piece-clause-slots : goal.returns-in-Piece-clause-slots
returns-in-Piece-clause-slots g c =
    ap (λ (j : JournalValue). j.slots) c.notify-in-Piece.ensures.journal ∙ c.take_piece.ensures.slots ∙ ap (λ (j : JournalValue). j.slots) c.move_time-in-Piece.ensures.journal

pub returns-in-Piece-clause-cause : goal.returns-in-Piece-clause-cause
returns-in-Piece-clause-cause g c =
    let same = c.notify-in-Piece.ensures.disk ∙ c.in_ok-take_piece-in-Piece.ensures.cause.same in
    record { later = omega (arith, same); same = same; rose = tt }

pub returns-in-Piece-clause-leads : goal.returns-in-Piece-clause-leads
returns-in-Piece-clause-leads g c = g.met.H.Wire.leads_then _ _ _ c.take_piece.ensures.leads c.notify-in-Piece.ensures.leads

pub returns-in-Opened-clause-done : goal.returns-in-Opened-clause-done
returns-in-Opened-clause-done g c = λ settings state entries kept.
    let now = later state c.args.got.now.at in
    let peer = c.in-Opened.from in
    let conn = c.in-Opened.conn in
    let host = c.args.host.now in
    let left = c.open_connection.new.host in
    let between = c.move_time-in-Opened.new.self in
    let moved = c.move_time-in-Opened.ensures.kept settings state entries kept in
    let sends = turned_away conn (opening peer conn state.lines) in
    let new = connected peer conn now in
    let kept_so : RestartsWith c.open_connection.new.self settings new entries =
    subst (λ server. RestartsWith server settings new entries) (sym c.open_connection.ensures.lines) (lines_restarts (opened peer conn) between settings now entries moved) in
    let sent : Added (g.H.Wire.acts host) (g.H.Wire.acts left) (SentTo (g.H.Wire.moment host) (g.H.Wire.moment left) sends) =
    subst (λ lines. Added (g.H.Wire.acts host) (g.H.Wire.acts left) (SentTo (g.H.Wire.moment host) (g.H.Wire.moment left) (turned_away conn (opening peer conn lines))))
    moved.represents.represents.lines c.open_connection.ensures.sent in
    let gives = added_weaker (g.H.Wire.acts host) (g.H.Wire.acts left) (SentTo (g.H.Wire.moment host) (g.H.Wire.moment left) sends) (Gives (g.H.Wire.moment host) sends) sent (λ acts is. is.0) in
    record {
      turns = (record { sends = sends; left = new }) ∷ [];
      new = new;
      few = entries;
      step = rw c.in-Opened.is (sends, append-nil (each_telling new sends), (refl, refl));
      kept = kept_so;
      chained = (
        stored_of c.open_connection.new.self entries,
        g.H.Disk.media left,
        g.H.Wire.acts left,
        refl,
        ([], sym (append-nil state.history)),
        restarts_stored c.open_connection.new.self settings new entries kept_so,
        subst
            (λ (j : JournalValue). Turned settings state new sends (journal.Represents c.args.self.now.journal settings entries) (journal.Represents j settings entries) (g.H.Disk.media host) (g.H.Disk.media left)
            (g.H.Wire.acts host) (g.H.Wire.acts left))
            (sym (ap (λ (server : ServerValue). server.journal) c.open_connection.ensures.lines ∙ c.move_time-in-Opened.ensures.journal))
            (unwritten settings state new sends (journal.Represents c.args.self.now.journal settings entries) (g.H.Disk.media host) (g.H.Disk.media left) (g.H.Wire.moment host) (g.H.Wire.acts host) (g.H.Wire.acts left)
            (g.met.H.Host.one_moment host) gives c.open_connection.ensures.media),
        (refl, refl, refl),
      );
      left = refl;
    }

pub returns-in-Closed-clause-done : goal.returns-in-Closed-clause-done
returns-in-Closed-clause-done g c = λ settings state entries kept.
    let now = later state c.args.got.now.at in
    let conn = c.in-Closed.conn in
    let between = c.move_time-in-Closed.new.self in
    let new = disconnected conn now in
    record {
      turns = [];
      new = new;
      few = entries;
      step = rw c.in-Closed.is (refl, refl);
      kept = subst (λ server. RestartsWith server settings new entries) (sym c.forget_connection.ensures)
          (lines_restarts (forgotten conn) between settings now entries (c.move_time-in-Closed.ensures.kept settings state entries kept));
      chained = (
        ap (λ (j : JournalValue). record { journal = j; entries = entries })
            (ap (λ (server : ServerValue). server.journal) c.forget_connection.ensures ∙ c.move_time-in-Closed.ensures.journal),
        refl,
        refl,
      );
      left = refl;
    }

-- ---- who is due behind it

pub returns-in-Datagram-clause-observers : goal.returns-in-Datagram-clause-observers
returns-in-Datagram-clause-observers g c = ok_as c.take_datagram.result _ _ (λ known tells. known) c.take_datagram.ensures.observers

pub returns-in-Tick-clause-observers : goal.returns-in-Tick-clause-observers
returns-in-Tick-clause-observers g c = λ tells.
    let told = c.notify.new.self in
    let new = c.send_heartbeats.new.self in
    subst (λ (tables : RegistryValue). IsKnown (views_of tables) new.watch.due new.watch.observers.observed) (sym c.send_heartbeats.ensures.registry)
    (subst (λ (w : Watch). IsKnown (views_of told.registry) w.due w.observers.observed) (sym c.send_heartbeats.ensures.watch) c.notify.ensures.known)

pub returns-in-Piece-clause-observers : goal.returns-in-Piece-clause-observers
returns-in-Piece-clause-observers g c = λ tells. c.notify-in-Piece.ensures.known

pub returns-in-Opened-clause-observers : goal.returns-in-Opened-clause-observers
returns-in-Opened-clause-observers g c = λ tells. absurd (subst MayNotify c.in-Opened.is tells)

pub returns-in-Closed-clause-observers : goal.returns-in-Closed-clause-observers
returns-in-Closed-clause-observers g c = λ tells. absurd (subst MayNotify c.in-Closed.is tells)

-- ---- and where no memory was refused

pub returns-in-Datagram-clause-all : goal.returns-in-Datagram-clause-all
returns-in-Datagram-clause-all g c =
    ok_as c.take_datagram.result _ _ (λ all tells none. all none) c.take_datagram.ensures.all

pub returns-in-Tick-clause-all : goal.returns-in-Tick-clause-all
returns-in-Tick-clause-all g c = λ tells none place o there due.
    let told = c.notify.new.self in
    let beats = c.send_heartbeats.ensures in
    beats.unheard o.observer.peer
    (c.notify.ensures.all (ap (λ (w : Watch). w.refused) (sym beats.watch) ∙ none) place o
    (ap (λ (w : Watch). slice_get w.observers.observed place) (sym beats.watch) ∙ there)
    (ap (λ (tables : RegistryValue). is_due (views_of tables) o) (sym beats.registry) ∙ due))

pub returns-in-Piece-clause-all : goal.returns-in-Piece-clause-all
returns-in-Piece-clause-all g c = λ tells. c.notify-in-Piece.ensures.all

pub returns-in-Opened-clause-all : goal.returns-in-Opened-clause-all
returns-in-Opened-clause-all g c = λ tells. absurd (subst MayNotify c.in-Opened.is tells)

pub returns-in-Closed-clause-all : goal.returns-in-Closed-clause-all
returns-in-Closed-clause-all g c = λ tells. absurd (subst MayNotify c.in-Closed.is tells)
