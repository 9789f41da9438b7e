use Rattle.std.proofs.Common.{◌≡◌, map, take}
use Rattle.acl_lists.specs.Fates.{fate_by_rows}
use Rattle.filter_table.specs.TableRows.{row_of_scrub, row_of_acl}
use Rattle.dots_settings.specs.Lookups.{prefixes_of}
use Rattle.dots_machine.specs.Report.{packet_lines}
use Rattle.dots_server.specs.Gathering.{sunk, Puts}
use Rattle.dots_server.proofs.report.put_packets.Given as goal

abbrev pub invariant-loop-packet : goal.invariant-loop-packet
invariant-loop-packet g l = record {
  numbered : l.number ≡ l.packet-index;
  puts : Puts (sunk g.K.Sink.holds g.K.Sink.faults l.fn.sink) l.fn.report (sunk g.K.Sink.holds g.K.Sink.faults l.sink) l.report
      (packet_lines (fate_by_rows (prefixes_of l.fn.settings) (map row_of_scrub l.fn.table.scrubs) (map row_of_acl l.fn.table.acls)) 1 (take l.packet-index l.packets));
}
