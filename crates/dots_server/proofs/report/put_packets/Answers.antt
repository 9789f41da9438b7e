use Rattle.std.proofs.Common.{◌+◌, map, ap, add-one, arith}
use Rattle.acl_lists.specs.Fates.{fate_by_rows}
use Rattle.filter_table.specs.TableRows.{row_of_scrub, row_of_acl}
use Rattle.dots_settings.specs.Lookups.{prefixes_of}
use Rattle.dots_server.proofs.ReportTexts.{puts_packet}
use Rattle.dots_server.proofs.report.put_packets.Goals as goal

pub loop-packet-preserved : goal.loop-packet-preserved
loop-packet-preserved g c =
    let i = c.loop-packet.packet-index in
    let fate = fate_by_rows (prefixes_of c.args.settings.now) (map row_of_scrub c.args.table.now.scrubs) (map row_of_acl c.args.table.now.acls) in record {
      numbered = ap (λ n. n + 1) c.loop-packet.invariant.numbered;
      puts = rw (add-one i) (
          puts_packet fate _ _ _ _ _ _ c.packets-packets.result.now i c.packet-item.result _ c.loop-packet-test.true c.packet-item.is c.loop-packet.invariant.puts c.put_packet.ensures
          (omega (arith, c.loop-packet.invariant.numbered))
          );
    }
