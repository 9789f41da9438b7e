use Rattle.std.proofs.Common.{map, string_bytes, option_and_then, refl, sym, ap, subst}
use Rattle.std.specs.Fn.{FnReturnsAt}
use Rattle.std.proofs.lemmas.Fn.{says_at}
use Rattle.dots_host.specs.Causes.{Rose}
use Rattle.dots_machine.specs.Outside.{Outside}
use Rattle.dots_run.specs.OverSockets.{AreOpenedFrom, outside_at, RunsOver}
use Rattle.dots_run.proofs.Asking.{served_no_topic}
use Rattle.dots_run.proofs.Commands.{serve_is_served}
use Rattle.dots_run.specs.declared.server_files.ServerFiles.{ServerFiles}
use Rattle.wire_figures.specs.Tallied.{Tallied}
use Rattle.dots_edge.specs.Edge.{Edge}
use Rattle.dots_run.proofs.Looks.{saw_unseen}
use Rattle.dots_run.proofs.OverSockets.{known_seen}
use Rattle.dots_run.proofs.sockets.run_sockets.Goals as goal

pub returns-in_default : goal.returns-in_default
returns-in_default g c = (
  c.opening.result,
  c.opening-2.result,
  subst (λ name. FnReturnsAt g.Open.Fn c.args.opening name c.opening.result) c.names_of.ensures.settings (says_at g.Open.Fn c.opening.ensures refl),
  subst (λ name. FnReturnsAt g.Open.Fn c.args.opening name c.opening-2.result) c.names_of.ensures.host (says_at g.Open.Fn c.opening-2.ensures refl),
  (
    refl,
    ap (λ source. option_and_then g.F.Read.remaining source.reader) c.new-settings.ensures,
    ap (λ source. source.faults) c.new-settings.ensures,
    ap (λ sink. g.K.Write.contents sink.writer) c.new-report.ensures,
    ap (λ sink. sink.faults) c.new-report.ensures,
  ),
)

pub returns : goal.returns
returns g c =
    let words = map string_bytes c.args.words.now in
    let said = c.run_blocks-status.ensures in
    let tallied = c.in-Ok.host in
    let tallied_now = c.run_blocks-status.result.host in
    let host = tallied.inner in
    let status = c.run_blocks-status.result.status in
    let settings = c.new-settings.result in
    let report = c.new-report.result in
    let left = option_and_then g.F.Read.remaining in
    let before : Outside = outside_at (left settings.reader) settings.faults host (g.K.Write.contents report.writer) report.faults in
    let after : (h : Edge) → Outside =
    λ h. outside_at (left c.run_blocks-status.new.settings.reader) c.run_blocks-status.new.settings.faults h (g.K.Write.contents c.run_blocks-status.new.report.writer) c.run_blocks-status.new.report.faults in
    let files_first = c.in-Ok.files.filters.named in
    let files = c.run_blocks-status.new.onlooker.filters.named in
    let figures_first = c.in-Ok.files.figures in
    let figures = c.run_blocks-status.new.onlooker.figures in
    let shown = said.machine (served_no_topic words (serve_is_served words c.requires.serves)) in
    let runs : RunsOver words status before (after tallied_now.inner) host tallied_now.inner files_first files figures_first figures =
    record {
      machine = record {
        ending = shown.runs.ending;
        status_is = shown.runs.status_is;
        seen = shown.runs.seen;
        handed_on = shown.runs.handed_on;
        behaves = shown.runs.behaves;
        idle = λ none. ap (λ (h : Tallied _). h.inner) (shown.runs.idle none);
      };
      known = known_seen host tallied_now.inner shown.runs.seen said.leads.0 shown.runs.handed_on;
      outcome = said.outcome;
      looks = saw_unseen shown.runs.ending _ _ _ (λ same. (ap (λ (f : ServerFiles _). f.filters.named) same, ap (λ (f : ServerFiles _). f.figures) same)) shown.shown;
    } in (
      c.opening.result,
      c.opening-2.result,
      subst (λ name. FnReturnsAt g.Open.Fn c.args.opening name c.opening.result) c.names_of.ensures.settings (says_at g.Open.Fn c.opening.ensures refl),
      subst (λ name. FnReturnsAt g.Open.Fn c.args.opening name c.opening-2.result) c.names_of.ensures.host (says_at g.Open.Fn c.opening-2.ensures refl),
      (
        host,
        files_first,
        figures_first,
        subst (λ source. AreOpenedFrom (left source.reader) (Rose source.faults c.open_both.new.file.faults) host files_first figures_first) c.new-host_file.ensures c.in-Ok.ensures,
        subst (λ h. RunsOver words status (outside_at (left c.opening.result) 0 host (g.K.Write.contents c.args.report) 0) (after h) host h files_first files figures_first figures) (sym c.into_inner.ensures)
            (subst (λ sink. RunsOver words status (outside_at (left c.opening.result) 0 host (g.K.Write.contents sink.writer) sink.faults) (after tallied_now.inner) host tallied_now.inner files_first files figures_first figures) c.new-report.ensures
            (subst (λ source. RunsOver words status (outside_at (left source.reader) source.faults host (g.K.Write.contents report.writer) report.faults) (after tallied_now.inner) host tallied_now.inner files_first files figures_first figures) c.new-settings.ensures runs)),
      ),
    )
