use Rattle.std.proofs.Common.{◌≡◌, ℕ, List, ◌++◌, take, flat_map, decimal}
use Rattle.dots_machine.specs.Report.{any_or, texts_of}
use Rattle.dots_server.specs.Gathering.{sunk, Puts}
use Rattle.dots_server.proofs.CommaTexts.{behind_comma}
use Rattle.dots_server.proofs.report.put_protocols.Given as goal

abbrev pub invariant-loop-protocol : goal.invariant-loop-protocol
invariant-loop-protocol g l = record {
  before : List ℕ;
  whole : any_or (texts_of decimal l.protocols) ≡ before ++ flat_map (behind_comma decimal) l.others;
  puts : Puts (sunk g.K.Sink.holds g.K.Sink.faults l.fn.sink) l.fn.report (sunk g.K.Sink.holds g.K.Sink.faults l.sink) l.report (before ++ flat_map (behind_comma decimal) (take l.protocol-index l.others));
}
