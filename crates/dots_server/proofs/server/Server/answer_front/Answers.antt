use Rattle.std.proofs.Common.{◌<◌, ◌≤◌, List, arith, [], ◌∷◌, refl, sym, ap, ◌∙◌, subst}
use Rattle.std.proofs.lemmas.Bool.{false≢true}
use Rattle.dots_host.specs.declared.out.OwnedOut.TheVariants as owned
use Rattle.dots_host.proofs.RunLemmas.{added_none}
use Rattle.session_core.specs.Notifying.{SentTo}
use Rattle.slot_store.specs.Layout.{needed_of}
use Rattle.slot_journal.specs.DiskEntries as journal
use Rattle.stream_table.specs.Lines.{PeerLines, forgotten}
use Rattle.stream_table.specs.Places.{IsAt, line_at}
use Rattle.rest_answers.specs.Replies.{refusal}
use Rattle.rest_answers.specs.Turns.{reply_in, closing}
use Rattle.dots_registry.proofs.Answering.{err_of}
use Rattle.dots_server.specs.ServerValues.{ServerValue, RestartsWith}
use Rattle.dots_server.specs.Turning.{TurnedTo, Broke}
use Rattle.dots_server.specs.Pieces.{CanAnswer, having, bytes_on}
use Rattle.dots_server.proofs.Rows.{lines_behind_request, bytes_gone, bytes_behind}
use Rattle.dots_server.proofs.Following.{added_any, added_on}
use Rattle.dots_server.proofs.Fronts.{front_rests, refused_answered, request_answered, request_broke}
use Rattle.dots_server.proofs.server.Server.answer_front.Goals as goal

pub front_at-requires : goal.front_at-requires
front_at-requires g c = (c.args.conn, c.requires.there)

-- ---- more is waited for

pub returns-in-Waits-clause-done : goal.returns-in-Waits-clause-done
returns-in-Waits-clause-done g c = λ settings state entries kept.
    let at = c.requires.there in
    let host = c.args.host.now in
    front_rests settings c.args.conn c.args.place c.args.self.now at state entries kept (c.in-Waits.ensures.stands c.args.conn at settings state kept.represents.represents)
    c.front_at.new.self c.front_at.ensures.same (g.H.Disk.media host) (g.H.Wire.acts host)

pub returns-in-Waits-clause-room : goal.returns-in-Waits-clause-room
returns-in-Waits-clause-room g c = λ waits line there. c.in-Waits.ensures.room line there refl

pub returns-in-Waits-clause-fewer : goal.returns-in-Waits-clause-fewer
returns-in-Waits-clause-fewer g c = λ more. absurd (false≢true more)

pub returns-in-Waits-clause-adds : goal.returns-in-Waits-clause-adds
returns-in-Waits-clause-adds g c = added_none (g.H.Wire.acts c.args.host.now) (λ _. Unit {0}) tt

pub returns-in-Waits-clause-settings : goal.returns-in-Waits-clause-settings
returns-in-Waits-clause-settings g c = ap (λ (server : ServerValue). server.settings) c.front_at.ensures.same

pub returns-in-Waits-clause-slots : goal.returns-in-Waits-clause-slots
returns-in-Waits-clause-slots g c = ap (λ (server : ServerValue). server.journal.slots) c.front_at.ensures.same

pub returns-in-Waits-clause-cause : goal.returns-in-Waits-clause-cause
returns-in-Waits-clause-cause g c = record { later = omega arith; same = refl; rose = tt }

pub returns-in-Waits-clause-leads : goal.returns-in-Waits-clause-leads
returns-in-Waits-clause-leads g c = g.met.H.Wire.leads_same c.args.host.now

-- ---- no request stands there

pub returns-in-Refused-clause-done : goal.returns-in-Refused-clause-done
returns-in-Refused-clause-done g c = λ settings state entries kept.
    let conn = c.args.conn in
    let at = c.requires.there in
    let host = c.args.host.now in
    let left = c.refuse_front.new.host in
    let is = c.refuse_front.ensures.lines ∙ ap (λ (server : ServerValue). record server { lines = forgotten conn server.lines }) c.front_at.ensures.same in
    refused_answered settings conn c.args.place c.args.self.now at state entries kept c.in-Refused.fault (c.in-Refused.ensures.stands conn at settings state kept.represents.represents) c.refuse_front.new.self is
    (g.H.Disk.media host) (g.H.Disk.media left) (g.H.Wire.moment host) (g.H.Wire.moment left) (g.H.Wire.acts host) (g.H.Wire.acts left) (g.met.H.Host.one_moment host) c.refuse_front.ensures.sent c.refuse_front.ensures.media

pub returns-in-Refused-clause-fewer : goal.returns-in-Refused-clause-fewer
returns-in-Refused-clause-fewer g c = λ more.
    let conn = c.args.conn in
    let is = c.refuse_front.ensures.lines ∙ ap (λ (server : ServerValue). record server { lines = forgotten conn server.lines }) c.front_at.ensures.same in
    subst (λ (server : ServerValue). bytes_on conn server.lines < bytes_on conn c.args.self.now.lines) (sym is) (bytes_gone conn c.args.place c.args.self.now.lines c.requires.there)

pub returns-in-Refused-clause-room : goal.returns-in-Refused-clause-room
returns-in-Refused-clause-room g c = λ waits. absurd (false≢true (sym waits))

pub returns-in-Refused-clause-adds : goal.returns-in-Refused-clause-adds
returns-in-Refused-clause-adds g c =
    let host = c.args.host.now in
    let left = c.refuse_front.new.host in
    added_any (g.H.Wire.acts host) (g.H.Wire.acts left)
    (SentTo (g.H.Wire.moment host) (g.H.Wire.moment left) (owned.Conn c.args.conn (refusal c.in-Refused.fault) ∷ owned.Close c.args.conn ∷ [])) c.refuse_front.ensures.sent

pub returns-in-Refused-clause-settings : goal.returns-in-Refused-clause-settings
returns-in-Refused-clause-settings g c = ap (λ (server : ServerValue). server.settings) (c.refuse_front.ensures.lines ∙ ap (λ (server : ServerValue). record server { lines = forgotten c.args.conn server.lines }) c.front_at.ensures.same)

pub returns-in-Refused-clause-slots : goal.returns-in-Refused-clause-slots
returns-in-Refused-clause-slots g c = ap (λ (server : ServerValue). server.journal.slots) (c.refuse_front.ensures.lines ∙ ap (λ (server : ServerValue). record server { lines = forgotten c.args.conn server.lines }) c.front_at.ensures.same)

pub returns-in-Refused-clause-cause : goal.returns-in-Refused-clause-cause
returns-in-Refused-clause-cause g c = record { later = omega (arith, c.refuse_front.ensures.disk); same = c.refuse_front.ensures.disk; rose = tt }

-- ---- a request stands there

pub send_answer-requires-clause-ready : goal.send_answer-requires-clause-ready
send_answer-requires-clause-ready g c = subst (CanAnswer c.in-Answered.answer) (sym c.front_at.ensures.same) c.in-Answered.ensures.ready

pub send_answer-requires-clause-size : goal.send_answer-requires-clause-size
send_answer-requires-clause-size g c = subst (λ (server : ServerValue). needed_of server.journal.slots ≤ g.H.Disk.extent c.args.host.now) (sym c.front_at.ensures.same) c.requires.size

-- the disk failed
pub returns-in_err-send_answer-in-Answered-clause-failed : goal.returns-in_err-send_answer-in-Answered-clause-failed
returns-in_err-send_answer-in-Answered-clause-failed g c =
    err_of c.from_residual.result _ (λ settings state entries kept.
    let conn = c.args.conn in
    let at = c.requires.there in
    let host = c.args.host.now in
    let left = c.send_answer.new.host in
    let same = c.front_at.ensures.same in
    let failed = c.in_err-send_answer-in-Answered.ensures.failed settings state entries (subst (λ (server : ServerValue). RestartsWith server settings state entries) (sym same) kept) in
    request_broke settings conn c.args.place c.args.self.now at state entries kept c.in-Answered.size c.in-Answered.close c.in-Answered.answer
    (c.in-Answered.ensures.stands conn at settings state kept.represents.represents) (g.H.Disk.media host) (g.H.Disk.media left) (g.H.Wire.acts host) (g.H.Wire.acts left) failed.0
    (subst
    (λ (server : ServerValue). Broke settings state (having c.in-Answered.answer state) (journal.Represents server.journal settings entries) (g.H.Disk.media host) (g.H.Disk.media left) (g.H.Wire.acts host) (g.H.Wire.acts left))
    same failed.1))

-- it was answered
pub end_request-requires-clause-there : goal.end_request-requires-clause-there
end_request-requires-clause-there g c =
    subst (IsAt c.args.conn c.args.place) (sym (c.send_answer.ensures.lines ∙ ap (λ (server : ServerValue). server.lines) c.front_at.ensures.same)) c.requires.there

pub end_request-requires-clause-size : goal.end_request-requires-clause-size
end_request-requires-clause-size g c = λ line there.
    (c.in-Answered.ensures.size line (ap (line_at c.args.place) (sym (c.send_answer.ensures.lines ∙ ap (λ (server : ServerValue). server.lines) c.front_at.ensures.same)) ∙ there)).1

pub returns-in-Answered-clause-done : goal.returns-in-Answered-clause-done
returns-in-Answered-clause-done g c = λ settings state entries kept.
    let conn = c.args.conn in
    let at = c.requires.there in
    let host = c.args.host.now in
    let between = c.send_answer.new.host in
    let left = c.end_request.new.host in
    let same = c.front_at.ensures.same in
    let said = c.in_ok-send_answer-in-Answered.ensures.done settings state entries (subst (λ (server : ServerValue). RestartsWith server settings state entries) (sym same) kept) in
    request_answered settings conn c.args.place c.args.self.now at state entries kept c.in-Answered.size c.in-Answered.close c.in-Answered.answer
    (c.in-Answered.ensures.stands conn at settings state kept.represents.represents) c.send_answer.new.self c.end_request.new.self said.0 (g.H.Disk.media host) (g.H.Disk.media between) (g.H.Disk.media left)
    (g.H.Wire.moment between) (g.H.Wire.moment left) (g.H.Wire.acts host) (g.H.Wire.acts between) (g.H.Wire.acts left) said.1
    (subst
    (λ (server : ServerValue). TurnedTo (g.H.Wire.moment between) settings state (having c.in-Answered.answer state) (owned.Conn conn (reply_in c.in-Answered.answer) ∷ [])
    (journal.Represents server.journal settings entries)
    (journal.Represents c.send_answer.new.self.journal settings said.0) (g.H.Disk.media host) (g.H.Disk.media between) (g.H.Wire.acts host) (g.H.Wire.acts between))
    same said.2)
    c.end_request.ensures.lines c.end_request.ensures.sent c.end_request.ensures.media

pub returns-in-Answered-clause-fewer : goal.returns-in-Answered-clause-fewer
returns-in-Answered-clause-fewer g c = λ more.
    let conn = c.args.conn in
    let at = c.requires.there in
    let lines_are = c.send_answer.ensures.lines ∙ ap (λ (server : ServerValue). server.lines) c.front_at.ensures.same in
    let has = c.in-Answered.ensures.size at.line at.there in
    subst (λ (server : ServerValue). bytes_on conn server.lines < bytes_on conn c.args.self.now.lines) (sym c.end_request.ensures.lines)
    (subst (λ (lines : List PeerLines). bytes_on conn (lines_behind_request conn c.in-Answered.size c.in-Answered.close lines) < bytes_on conn c.args.self.now.lines) (sym lines_are)
    (bytes_behind conn c.args.place c.in-Answered.size c.in-Answered.close c.args.self.now.lines at has.0 has.1))

pub returns-in-Answered-clause-room : goal.returns-in-Answered-clause-room
returns-in-Answered-clause-room g c = λ waits. absurd (false≢true (sym waits))

pub returns-in-Answered-clause-adds : goal.returns-in-Answered-clause-adds
returns-in-Answered-clause-adds g c =
    let host = c.args.host.now in
    let between = c.send_answer.new.host in
    let left = c.end_request.new.host in
    added_on (g.H.Wire.acts host) (g.H.Wire.acts between) (g.H.Wire.acts left) c.send_answer.ensures.adds (added_any (g.H.Wire.acts between) (g.H.Wire.acts left) (SentTo (g.H.Wire.moment between) (g.H.Wire.moment left) (closing c.args.conn c.in-Answered.close)) c.end_request.ensures.sent)

pub returns-in-Answered-clause-settings : goal.returns-in-Answered-clause-settings
returns-in-Answered-clause-settings g c =
    ap (λ (server : ServerValue). server.settings) c.end_request.ensures.lines ∙ c.send_answer.ensures.settings ∙ ap (λ (server : ServerValue). server.settings) c.front_at.ensures.same

pub returns-in-Answered-clause-slots : goal.returns-in-Answered-clause-slots
returns-in-Answered-clause-slots g c =
    ap (λ (server : ServerValue). server.journal.slots) c.end_request.ensures.lines ∙ c.send_answer.ensures.slots ∙ ap (λ (server : ServerValue). server.journal.slots) c.front_at.ensures.same

pub returns-in-Answered-clause-cause : goal.returns-in-Answered-clause-cause
returns-in-Answered-clause-cause g c =
    let same = c.end_request.ensures.disk ∙ c.in_ok-send_answer-in-Answered.ensures.cause.same in
    record { later = omega (arith, same); same = same; rose = tt }

pub returns-in-Answered-clause-leads : goal.returns-in-Answered-clause-leads
returns-in-Answered-clause-leads g c = g.met.H.Wire.leads_then _ _ _ c.send_answer.ensures.leads c.end_request.ensures.leads
