use Rattle.std.specs.List.{list_all}
use Rattle.std.proofs.Common.{◌≡◌, true, refl, sym, subst}
use Rattle.dots_host.specs.Becoming.{RestsWith}
use Rattle.slot_journal.specs.DiskEntries as journal
use Rattle.dots_machine.specs.Machine.{begun_from}
use Rattle.dots_machine.specs.Outside.{Outside}
use Rattle.dots_history.specs.Calm.{is_own}
use Rattle.dots_server.specs.ServerValues.{ServerValue, RestartsWith}
use Rattle.dots_run.specs.Refusals.{Counts, Wrote, FailsOnly}
use Rattle.dots_machine.specs.Endings.{IsKnown}
use Rattle.dots_run.specs.Onlooking.{SawRun}
use Rattle.dots_run.proofs.Looks.{saw_from, saw_served}
use Rattle.dots_run.proofs.Serving.{begun_zero, followed_by, sees_of, serves_to, unrecovered_counts}
use Rattle.dots_run.proofs.outcome.host_events.Goals as goal

pub returns-in-Ok-clause-machine : goal.returns-in-Ok-clause-machine
returns-in-Ok-clause-machine g c = λ left left_now faults faults_now.
    let old = c.args.host.now in
    let mid = c.begin.new.host in
    let new = c.serve.new.host in
    let report = c.args.report.now in
    let written = c.serve.new.report in
    let (stored, kept, calm, disk) = c.in-Ok.ensures.begun in
    let keeps = g.met.H.Host.disk_keeps old mid c.begin.ensures.beside in
    let before : Outside = record {
      left = left;
      source_faults = faults;
      acts = g.H.Wire.acts old;
      wire_faults = g.H.Wire.faults old;
      media = g.H.Disk.media old;
      extent = g.H.Disk.extent old;
      disk_faults = g.H.Disk.faults old;
      written = g.K.Sink.holds report;
      report_faults = g.K.Sink.faults report;
    } in
    let between : Outside = record {
      left = left;
      source_faults = faults;
      acts = g.H.Wire.acts mid;
      wire_faults = g.H.Wire.faults mid;
      media = g.H.Disk.media mid;
      extent = g.H.Disk.extent mid;
      disk_faults = g.H.Disk.faults mid;
      written = g.K.Sink.holds report;
      report_faults = g.K.Sink.faults report;
    } in
    let after : Outside = record {
      left = left_now;
      source_faults = faults_now;
      acts = g.H.Wire.acts new;
      wire_faults = g.H.Wire.faults new;
      media = g.H.Disk.media new;
      extent = g.H.Disk.extent new;
      disk_faults = g.H.Disk.faults new;
      written = g.K.Sink.holds written;
      report_faults = g.K.Sink.faults written;
    } in
    let counted : Counts before (g.K.Sink.holds report) (g.K.Sink.faults report) (g.H.Wire.faults mid) (g.H.Disk.faults mid) = record { written = refl; report = refl; wire = sym keeps.1; disk = sym c.in-Ok.ensures.cause } in
    let counts : Counts after (g.K.Sink.holds written) (g.K.Sink.faults written) (g.H.Wire.faults new) (g.H.Disk.faults new) = record { written = refl; report = refl; wire = refl; disk = refl } in
    serves_to c.args.settings stored before between after calm keeps.0
    (λ seen rests. c.begin.ensures.moments seen stored rests (disk seen (sees_of (g.H.Disk.media old) seen rests)).0)
    (λ seen sees. (disk seen sees).0)
    (RestsWith (g.H.Disk.media mid) (journal.Represents c.in-Ok.server.journal c.args.settings stored))
    (λ seen rests. (disk seen (sees_of (g.H.Disk.media old) seen rests)).1)
    c.serve.result
    c.serve.ensures.sized
    (λ told.
    let (how, end, came, wrote) = c.serve.ensures.came c.args.settings (begun_from c.args.settings stored) stored
    (subst (λ state. RestartsWith c.in-Ok.server c.args.settings state stored) (begun_zero c.args.settings stored) kept)
    (followed_by (RestsWith (g.H.Disk.media mid) (journal.Represents c.in-Ok.server.journal c.args.settings stored)) before after (g.H.Wire.acts mid) keeps.0 c.serve.ensures.adds (λ seen sees. (disk seen sees).1) told) in
    (how, end, came, wrote before after counted counts))
    (let (how, state, own, wrote) = c.serve.ensures.any in (
      how,
      state,
      subst (λ s. list_all (is_own s) state.history ≡ true) c.in-Ok.ensures.settings own,
      subst (λ s. Wrote c.serve.result how s state before after) c.in-Ok.ensures.settings (wrote before after counted counts),
    ))

pub returns-in-Ok-clause-seen : goal.returns-in-Ok-clause-seen
returns-in-Ok-clause-seen g c = λ left left_now faults faults_now.
    let old = c.args.host.now in
    let mid = c.begin.new.host in
    let new = c.serve.new.host in
    let report = c.args.report.now in
    let written = c.serve.new.report in
    let (stored, kept, calm, disk) = c.in-Ok.ensures.begun in
    let keeps = g.met.H.Host.disk_keeps old mid c.begin.ensures.beside in
    let before : Outside = record {
      left = left;
      source_faults = faults;
      acts = g.H.Wire.acts old;
      wire_faults = g.H.Wire.faults old;
      media = g.H.Disk.media old;
      extent = g.H.Disk.extent old;
      disk_faults = g.H.Disk.faults old;
      written = g.K.Sink.holds report;
      report_faults = g.K.Sink.faults report;
    } in
    let between : Outside = record {
      left = left;
      source_faults = faults;
      acts = g.H.Wire.acts mid;
      wire_faults = g.H.Wire.faults mid;
      media = g.H.Disk.media mid;
      extent = g.H.Disk.extent mid;
      disk_faults = g.H.Disk.faults mid;
      written = g.K.Sink.holds report;
      report_faults = g.K.Sink.faults report;
    } in
    let after : Outside = record {
      left = left_now;
      source_faults = faults_now;
      acts = g.H.Wire.acts new;
      wire_faults = g.H.Wire.faults new;
      media = g.H.Disk.media new;
      extent = g.H.Disk.extent new;
      disk_faults = g.H.Disk.faults new;
      written = g.K.Sink.holds written;
      report_faults = g.K.Sink.faults written;
    } in
    let Rests : Type 0 = RestsWith (g.H.Disk.media mid) (journal.Represents c.in-Ok.server.journal c.args.settings stored) in
    saw_served c.serve.result (IsKnown before after) _ (λ how. SawRun c.args.settings (g.H.Wire.acts old) (g.H.Wire.acts new) how (g.W.Onlooker.sees c.args.onlooker.now c.serve.new.onlooker)) _ c.serve.ensures.served
    (λ known. c.serve.ensures.seen c.args.settings (begun_from c.args.settings stored) stored
    (subst (λ state. RestartsWith c.in-Ok.server c.args.settings state stored) (begun_zero c.args.settings stored) kept)
    (followed_by Rests before after (g.H.Wire.acts mid) keeps.0 c.serve.ensures.adds (λ seen sees. (disk seen sees).1) known))
    (saw_from c.args.settings stored (g.H.Wire.acts old) (g.H.Wire.acts mid) (g.H.Wire.acts new) calm keeps.0 (g.W.Onlooker.sees c.args.onlooker.now c.serve.new.onlooker))

pub returns-in-Err-clause-seen : goal.returns-in-Err-clause-seen
returns-in-Err-clause-seen g c = λ left left_now faults faults_now. refl

pub returns-in-Ok-clause-counts : goal.returns-in-Ok-clause-counts
returns-in-Ok-clause-counts g c = subst (λ count. FailsOnly c.serve.result count (g.H.Disk.faults c.serve.new.host)) c.in-Ok.ensures.cause c.serve.ensures.counts

pub returns-in-Err-clause-counts : goal.returns-in-Err-clause-counts
returns-in-Err-clause-counts g c = unrecovered_counts ServerValue c.in-Err.fault (g.H.Disk.faults c.args.host.now) (g.H.Disk.faults c.begin.new.host) c.in-Err.ensures.cause
