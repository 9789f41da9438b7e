use Rattle.std.proofs.Common.{◌≡◌, map, string_bytes, sym, ◌∙◌}
use Rattle.dots_machine.specs.Outside.{Outside}
use Rattle.dots_run.proofs.Looks.{saw_given}
use Rattle.dots_run.proofs.Serving.{behaves_hosted}
use Rattle.dots_run.proofs.outcome.ending_of.Goals as goal

pub returns-in-Ok-read_settings-clause-machine : goal.returns-in-Ok-read_settings-clause-machine
returns-in-Ok-read_settings-clause-machine g c =
    let source = c.args.settings.now in
    let read = c.read_settings.new.source in
    let host = c.args.host.now in
    let left = c.host_events.new.host in
    let before : Outside = record {
      left = g.S.Source.left source;
      source_faults = g.S.Source.faults source;
      acts = g.H.Wire.acts host;
      wire_faults = g.H.Wire.faults host;
      media = g.H.Disk.media host;
      extent = g.H.Disk.extent host;
      disk_faults = g.H.Disk.faults host;
      written = g.K.Sink.holds c.args.report.now;
      report_faults = g.K.Sink.faults c.args.report.now;
    } in
    let now : Outside = record {
      left = g.S.Source.left read;
      source_faults = g.S.Source.faults read;
      acts = g.H.Wire.acts left;
      wire_faults = g.H.Wire.faults left;
      media = g.H.Disk.media left;
      extent = g.H.Disk.extent left;
      disk_faults = g.H.Disk.faults left;
      written = g.K.Sink.holds c.host_events.new.report;
      report_faults = g.K.Sink.faults c.host_events.new.report;
    } in
    behaves_hosted (map string_bytes c.args.words.now) before now c.host_events.result c.host_events.ensures.hosted (sym c.is_served.ensures ∙ c.if-not-is_served.false) c.in-Ok-read_settings.settings
    c.in-Ok-read_settings.ensures.ok (c.host_events.ensures.machine before.left now.left before.source_faults now.source_faults)

pub returns-in-Ok-read_settings-clause-seen : goal.returns-in-Ok-read_settings-clause-seen
returns-in-Ok-read_settings-clause-seen g c =
    let source = c.args.settings.now in
    let read = c.read_settings.new.source in
    let host = c.args.host.now in
    let left = c.host_events.new.host in
    let before : Outside = record {
      left = g.S.Source.left source;
      source_faults = g.S.Source.faults source;
      acts = g.H.Wire.acts host;
      wire_faults = g.H.Wire.faults host;
      media = g.H.Disk.media host;
      extent = g.H.Disk.extent host;
      disk_faults = g.H.Disk.faults host;
      written = g.K.Sink.holds c.args.report.now;
      report_faults = g.K.Sink.faults c.args.report.now;
    } in
    let now : Outside = record {
      left = g.S.Source.left read;
      source_faults = g.S.Source.faults read;
      acts = g.H.Wire.acts left;
      wire_faults = g.H.Wire.faults left;
      media = g.H.Disk.media left;
      extent = g.H.Disk.extent left;
      disk_faults = g.H.Disk.faults left;
      written = g.K.Sink.holds c.host_events.new.report;
      report_faults = g.K.Sink.faults c.host_events.new.report;
    } in
    saw_given c.host_events.result before now c.in-Ok-read_settings.settings (c.host_events.new.onlooker ≡ c.args.onlooker.now) (g.W.Onlooker.sees c.args.onlooker.now c.host_events.new.onlooker)
    c.in-Ok-read_settings.ensures.ok (c.host_events.ensures.seen before.left now.left before.source_faults now.source_faults)
