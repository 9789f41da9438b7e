use Rattle.std.proofs.Common.{◌≡◌, ◌++◌, drop}
use Rattle.dots_machine.specs.Report.{behind_commas, texts_of, ports_text}
use Rattle.host_checks.proofs.report.add_more_ports.Given as goal

abbrev pub invariant-loop-range : goal.invariant-loop-range
invariant-loop-range l = record {
  added : l.text.items ++ behind_commas (texts_of ports_text (drop l.range-index l.ports)) ≡ l.fn.text.items ++ behind_commas (texts_of ports_text l.ports);
}
