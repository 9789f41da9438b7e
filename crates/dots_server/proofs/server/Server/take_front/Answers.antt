use Rattle.std.proofs.Common.{◌≤◌, take, arith, refl, sym, subst, length-take}
use Rattle.dots_host.proofs.RunLemmas.{added_none}
use Rattle.slot_store.specs.Layout.{needed_of}
use Rattle.stream_table.specs.Places.{buffered_by, with_more}
use Rattle.dots_machine.specs.Machine.{receiving}
use Rattle.dots_registry.proofs.Answering.{err_of}
use Rattle.dots_server.specs.ServerValues.{ServerValue}
use Rattle.dots_server.proofs.Rows.{still_at, bytes_more}
use Rattle.dots_server.proofs.Fronts.{is_answered, is_resting, all_held, rests_nowhere, held_restarts, piece_rests, piece_answered, piece_broke}
use Rattle.dots_server.proofs.server.Server.take_front.Goals as goal

-- ---- the connection isn't there

pub returns-in_default-clause-done : goal.returns-in_default-clause-done
returns-in_default-clause-done g c = λ settings state entries kept.
    let media = g.H.Disk.media c.args.host.now in
    let acts = g.H.Wire.acts c.args.host.now in
    rests_nowhere settings c.args.conn c.args.rest.now state c.args.self.now entries kept media media acts acts c.in_default.ensures.place

pub returns-in_default-clause-adds : goal.returns-in_default-clause-adds
returns-in_default-clause-adds g c = added_none (g.H.Wire.acts c.args.host.now) (λ _. Unit {0}) tt

pub returns-in_default-clause-cause : goal.returns-in_default-clause-cause
returns-in_default-clause-cause g c = record { later = omega arith; same = refl; rose = tt }

pub returns-in_default-clause-leads : goal.returns-in_default-clause-leads
returns-in_default-clause-leads g c = g.met.H.Wire.leads_same c.args.host.now

-- ---- its bytes are held

pub answer_front-requires-clause-there : goal.answer_front-requires-clause-there
answer_front-requires-clause-there g c =
    let at = c.in-Some.ensures.place in
    still_at c.args.conn c.in-Some.place (with_more (take c.hold-taken.result c.args.rest.now)) c.args.self.now.lines c.hold-taken.new.self.lines at (c.hold-taken.ensures.held at.line at.there)

pub answer_front-requires-clause-size : goal.answer_front-requires-clause-size
answer_front-requires-clause-size g c =
    subst (λ (server : ServerValue). needed_of server.journal.slots ≤ g.H.Disk.extent c.args.host.now) (sym c.hold-taken.ensures.others) c.requires.size

-- the disk failed
pub returns-in_err-answer_front-clause-failed : goal.returns-in_err-answer_front-clause-failed
returns-in_err-answer_front-clause-failed g c =
    err_of c.from_residual.result _ (λ settings state entries kept.
    let conn = c.args.conn in
    let rest = c.args.rest.now in
    let n = c.hold-taken.result in
    let at = c.in-Some.ensures.place in
    let holds = c.hold-taken.ensures.held at.line at.there in
    let media = g.H.Disk.media c.args.host.now in
    let media_new = g.H.Disk.media c.answer_front.new.host in
    let acts = g.H.Wire.acts c.args.host.now in
    let acts_new = g.H.Wire.acts c.answer_front.new.host in
    let here = held_restarts settings conn rest state c.args.self.now entries kept media media_new acts acts_new n c.in-Some.place at c.hold-taken.new.self holds c.hold-taken.ensures.others in
    piece_broke settings conn rest state c.args.self.now entries kept media media_new acts acts_new n c.in-Some.place at c.hold-taken.new.self holds c.hold-taken.ensures.others c.place.ensures.apart
    (c.in_err-answer_front.ensures.failed settings (receiving conn (take n rest) state) entries here))

-- the front was answered
pub returns-then-branch-clause-done : goal.returns-then-branch-clause-done
returns-then-branch-clause-done g c = λ settings state entries kept.
    let conn = c.args.conn in
    let rest = c.args.rest.now in
    let n = c.hold-taken.result in
    let at = c.in-Some.ensures.place in
    let holds = c.hold-taken.ensures.held at.line at.there in
    let media = g.H.Disk.media c.args.host.now in
    let media_new = g.H.Disk.media c.answer_front.new.host in
    let acts = g.H.Wire.acts c.args.host.now in
    let acts_new = g.H.Wire.acts c.answer_front.new.host in
    let here = held_restarts settings conn rest state c.args.self.now entries kept media media_new acts acts_new n c.in-Some.place at c.hold-taken.new.self holds c.hold-taken.ensures.others in
    piece_answered settings conn rest state c.args.self.now entries kept media media_new acts acts_new n c.in-Some.place at c.hold-taken.new.self holds c.hold-taken.ensures.others c.place.ensures.apart
    c.answer_front.new.self
    (is_answered _ settings conn (receiving conn (take n rest) state) c.hold-taken.new.self c.answer_front.new.self entries media media_new acts acts_new c.if-branch.true
    (c.in_ok-answer_front.ensures.done settings (receiving conn (take n rest) state) entries here))

pub returns-then-branch-clause-fewer : goal.returns-then-branch-clause-fewer
returns-then-branch-clause-fewer g c =
    let n = c.hold-taken.result in
    let rest = c.args.rest.now in
    let at = c.in-Some.ensures.place in
    let holds = c.hold-taken.ensures.held at.line at.there in
    let count = c.hold-taken.ensures.count at.line at.there in
    let more = bytes_more c.args.conn c.in-Some.place (take n rest) c.args.self.now.lines c.hold-taken.new.self.lines at holds in
    let some = length-take n rest in
    let less = c.in_ok-answer_front.ensures.fewer c.if-branch.true in
    (omega (arith, count), omega (arith, count, more, some, less))

-- the connection waits
pub returns-clause-done : goal.returns-clause-done
returns-clause-done g c = λ settings state entries kept.
    let conn = c.args.conn in
    let rest = c.args.rest.now in
    let n = c.hold-taken.result in
    let at = c.in-Some.ensures.place in
    let holds = c.hold-taken.ensures.held at.line at.there in
    let media = g.H.Disk.media c.args.host.now in
    let media_new = g.H.Disk.media c.answer_front.new.host in
    let acts = g.H.Wire.acts c.args.host.now in
    let acts_new = g.H.Wire.acts c.answer_front.new.host in
    let here = held_restarts settings conn rest state c.args.self.now entries kept media media_new acts acts_new n c.in-Some.place at c.hold-taken.new.self holds c.hold-taken.ensures.others in
    let room = c.in_ok-answer_front.ensures.room c.if-branch.false (buffered_by (with_more (take n rest)) at.line) holds.there in
    piece_rests settings conn rest state c.args.self.now entries kept media media_new acts acts_new n c.in-Some.place at c.hold-taken.new.self holds c.hold-taken.ensures.others
    c.answer_front.new.self (all_held n rest at.line.buffered (c.hold-taken.ensures.count at.line at.there) room)
    (is_resting _ settings conn (receiving conn (take n rest) state) c.hold-taken.new.self c.answer_front.new.self entries media media_new acts acts_new c.if-branch.false
    (c.in_ok-answer_front.ensures.done settings (receiving conn (take n rest) state) entries here))
