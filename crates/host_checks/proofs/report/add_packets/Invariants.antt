use Rattle.std.proofs.Common.{◌≡◌, ◌+◌, ◌++◌, drop}
use Rattle.dots_machine.specs.Report.{packet_lines}
use Rattle.host_checks.specs.Lines.{fate_in}
use Rattle.host_checks.proofs.report.add_packets.Given as goal

abbrev pub invariant-loop-packet : goal.invariant-loop-packet
invariant-loop-packet l = record {
  number : l.number ≡ l.packet-index + 1;
  added : l.text.items ++ packet_lines (fate_in l.settings l.table) l.number (drop l.packet-index l.packets)
      ≡ l.fn.text.items ++ packet_lines (fate_in l.settings l.table) 1 l.packets;
}
