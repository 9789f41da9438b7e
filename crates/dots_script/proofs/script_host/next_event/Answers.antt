use Rattle.std.proofs.Common.{List, ℕ, sym, subst, take}
use Rattle.dots_host.specs.declared.event.Event.{Event}
use Rattle.dots_host.specs.Acts.{event_of}
use Rattle.dots_host.specs.Causes.{Rose}
use Rattle.dots_script.specs.Script.{IsEventLine}
use Rattle.dots_script.specs.Lines.{NextIs, to_come}
use Rattle.dots_script.proofs.LineReading.{answers_line, answers_other}
use Rattle.dots_script.proofs.script_host.next_event.Goals as goal

pub returns-in_default-clause-answer : goal.returns-in_default-clause-answer
returns-in_default-clause-answer g c =
    let left = g.S.Source.left in
    let rose = Rose (g.S.Source.faults c.args.source.now) (g.S.Source.faults c.find_unskipped.new.source) in
    let none = subst (λ (bytes : List ℕ). (event : Event) (at : ℕ) → ¬ (IsEventLine (take c.in-Line.len bytes) event at)) c.bytes.ensures c.in_default.ensures.none in
    answers_other (to_come c.args.block.now (left c.args.source.now)) (left c.find_unskipped.new.source) c.find_unskipped.new.block c.in-Line.len rose c.in-Line.ensures.found none

pub returns-in-Line-clause-answer : goal.returns-in-Line-clause-answer
returns-in-Line-clause-answer g c =
    let left = g.S.Source.left in
    let rose = Rose (g.S.Source.faults c.args.source.now) (g.S.Source.faults c.find_unskipped.new.source) in
    let old = to_come c.args.block.now (left c.args.source.now) in
    let event = event_of c.in-Some.got.what c.parse_event.new.into in
    let is = subst (λ (bytes : List ℕ). IsEventLine (take c.in-Line.len bytes) event c.in-Some.got.at) c.bytes.ensures c.in-Some.ensures.some in
    let answer = answers_line old (left c.find_unskipped.new.source) c.find_unskipped.new.block c.in-Line.len event c.in-Some.got.at rose c.in-Line.ensures.found is in
    subst (λ (ahead : List ℕ). NextIs old (to_come ahead (left c.find_unskipped.new.source)) event c.in-Some.got.at rose) (sym c.pass.ensures) answer
