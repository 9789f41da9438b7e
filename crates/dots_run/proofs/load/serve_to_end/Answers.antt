use Rattle.std.proofs.Common.{◌∙◌, inl, List, [], length, filter, sym, ap, subst}
use Rattle.dots_host.specs.Acts.{wire_acts}
use Rattle.dots_host.specs.Memory.{told}
use Rattle.dots_host.specs.Media.{byte_of}
use Rattle.dots_host.specs.HostedLaws.{hands_out_then, disk_leads}
use Rattle.dots_host.specs.StoredLaws.{keeps_acts}
use Rattle.acl_lists.specs.declared.rows.ScrubRow.{ScrubRow}
use Rattle.filter_table.specs.TableRows.{is_active}
use Rattle.dots_history.specs.Rows.{plain_rows}
use Rattle.dots_registry.specs.RegistryValues as registry
use Rattle.dots_machine.specs.Machine.{begun_from, restarted}
use Rattle.dots_machine.proofs.Surviving.{ended_story}
use Rattle.dots_run.proofs.Generating.{sees_zeros, all_told, runs_to_end}
use Rattle.dots_run.proofs.Serving.{begun_zero}
use Rattle.dots_run.proofs.load.serve_to_end.Goals as goal

pub returns-in_default-clause-hands : goal.returns-in_default-clause-hands
returns-in_default-clause-hands c = disk_leads c.args.host.now c.begin.new.host c.begin.ensures.beside

pub returns-in_default-take_events-clause-hands : goal.returns-in_default-take_events-clause-hands
returns-in_default-take_events-clause-hands c =
    hands_out_then c.args.host.now c.begin.new.host c.take_events.new.host (disk_leads c.args.host.now c.begin.new.host c.begin.ensures.beside) c.take_events.ensures.leads

pub returns-in-Ok-count_rows-clause-hands : goal.returns-in-Ok-count_rows-clause-hands
returns-in-Ok-count_rows-clause-hands c =
    hands_out_then c.args.host.now c.begin.new.host c.take_events.new.host (disk_leads c.args.host.now c.begin.new.host c.begin.ensures.beside) c.take_events.ensures.leads

pub returns-in-Err-clause-hands : goal.returns-in-Err-clause-hands
returns-in-Err-clause-hands c =
    hands_out_then c.args.host.now c.begin.new.host c.take_events.new.host (disk_leads c.args.host.now c.begin.new.host c.begin.ensures.beside) c.take_events.ensures.leads

pub returns-in-Ok-count_rows-clause-served : goal.returns-in-Ok-count_rows-clause-served
returns-in-Ok-count_rows-clause-served c = λ whole.
    let old = c.args.host.now in
    let mid = c.begin.new.host in
    let new = c.take_events.new.host in
    let settings = c.in_ok-settings.settings in
    let (stored, kept, calm, disk) = c.in-Ok.ensures.begun in
    let holds = disk (byte_of []) (sees_zeros old.disk c.requires.disk c.requires.acts) in
    let (end, came, stands) = rw c.in-Ok-take_events.is at (c.take_events.ensures.came settings (restarted settings (begun_from settings stored) 0) stored kept (inl holds.1)) in
    let keeps = keeps_acts old.disk mid.disk c.begin.ensures.beside.disk in
    let ran = all_told old.disk new.disk (told mid.disk.whole mid.disk.acts) _ c.requires.acts c.requires.whole whole keeps came.told in
    let history = end.last.history in
    let rows = c.filters.ensures.scrubs history (subst (λ r. registry.Represents r history) (sym c.registry.ensures) stands.registry)
    ∙ ap (λ r. plain_rows (registry.time_of r) history) c.registry.ensures ∙ ap (λ t. plain_rows t history) stands.time_is in
    runs_to_end settings c.in_ok-settings.ensures stored holds.0 (restarted settings (begun_from settings stored) 0) (begun_zero settings stored) (wire_acts 0 new.disk.acts) came.trace end c.in-Ok-count_rows.rows came.settled (ended_story settings _ end _ _ ran.0) ran.0.stops
    (c.in-Ok-count_rows.ensures ∙ ap (λ (listed : List ScrubRow). length (filter is_active listed)) rows)
