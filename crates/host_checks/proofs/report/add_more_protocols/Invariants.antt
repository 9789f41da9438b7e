use Rattle.std.proofs.Common.{◌≡◌, ◌++◌, drop, decimal}
use Rattle.dots_machine.specs.Report.{behind_commas, texts_of}
use Rattle.host_checks.proofs.report.add_more_protocols.Given as goal

abbrev pub invariant-loop-protocol : goal.invariant-loop-protocol
invariant-loop-protocol l = record {
  added : l.text.items ++ behind_commas (texts_of decimal (drop l.protocol-index l.protocols)) ≡ l.fn.text.items ++ behind_commas (texts_of decimal l.protocols);
}
