use Rattle.std.proofs.Common.{◌≡◌, ℕ, List, ◌++◌, take, flat_map}
use Rattle.dots_machine.specs.Report.{any_or, texts_of, ports_text}
use Rattle.dots_server.specs.Gathering.{sunk, Puts}
use Rattle.dots_server.proofs.CommaTexts.{behind_comma}
use Rattle.dots_server.proofs.report.put_ports.Given as goal

abbrev pub invariant-loop-range : goal.invariant-loop-range
invariant-loop-range g l = record {
  before : List ℕ;
  whole : any_or (texts_of ports_text l.ports) ≡ before ++ flat_map (behind_comma ports_text) l.others;
  puts : Puts (sunk g.K.Sink.holds g.K.Sink.faults l.fn.sink) l.fn.report (sunk g.K.Sink.holds g.K.Sink.faults l.sink) l.report (before ++ flat_map (behind_comma ports_text) (take l.range-index l.others));
}
