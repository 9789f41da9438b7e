use Rattle.std.proofs.Common.{refl, subst, length}
use Rattle.dots_host.specs.Acts.{owned_of, wire_acts}
use Rattle.dots_script.specs.Lines.{to_come}
use Rattle.dots_script.specs.Accounts.{Outer, AccountsSince, Accounts}
use Rattle.dots_script.proofs.Accounting.{Piece, piece_done, piece_lost, accounts_given}
use Rattle.dots_script.proofs.script_host.ScriptHostWire.send.Goals as goal
use Rattle.dots_script.proofs.script_host.ScriptHostWire.send.Goals.{in-Ok, in-Err}

pub returns-clause-leads : goal.returns-clause-leads
returns-clause-leads g c = λ start.
    let left = g.S.Source.left in
    let faults = g.S.Source.faults in
    let holds = g.K.Sink.holds in
    let inside = c.self.inside in
    let old : Outer = record { script = to_come inside.block (left inside.source); written = holds inside.sink; failures = faults inside.source } in
    let new : Outer = record { script = to_come inside.block (left inside.source); written = holds c.write_line.new.sink; failures = faults inside.source } in
    let disk = c.note_given.new.self in
    let out = owned_of c.args.out.now in
    let sent = c.match-write_line.sent in
    let one : Piece old.written new.written out sent = elim c.match-write_line.branch [
      | in-Ok w ↦ piece_done old.written new.written out sent w.sent-is w.in-Ok.ensures.ok
      | in-Err w ↦ piece_lost old.written new.written out sent w.sent-is w.in-Err.ensures.err
    ] in
    let step = accounts_given start old new (wire_acts 0 inside.disk.acts) (wire_acts 0 disk.acts) (length inside.disk.acts) (length disk.acts) out sent c.note_given.ensures.adds refl refl one in
    subst (λ host. AccountsSince left faults holds start host → Accounts start new (wire_acts 0 disk.acts)) c.self.view_is step
