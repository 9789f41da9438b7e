use Rattle.std.proofs.Common.{◌≡◌, true, option_and_then, sym, ap, subst}
use Rattle.wire_figures.specs.Tallied.{Tallied}
use Rattle.dots_host.specs.Causes.{Rose}
use Rattle.dots_edge.specs.Edge.{IsAsSaid}
use Rattle.dots_run.specs.FilterFiles.{AreNamedIn}
use Rattle.dots_run.specs.FigureFiles.{IsNamedIn}
use Rattle.dots_run.specs.OverSockets.{AreOpenedFrom}
use Rattle.dots_run.proofs.sockets.open_both.Goals as goal

pub returns-in-Ok : goal.returns-in-Ok
returns-in-Ok g c =
    let first = c.in_ok-host.host in
    let files = c.in_ok-files.files in
    subst (λ host. AreOpenedFrom (option_and_then g.F.Read.remaining c.args.file.now.reader) (Rose c.args.file.now.faults c.read_text.new.file.faults) host files.filters.named files.figures) (sym (ap (λ (h : Tallied _). h.inner) c.in-Ok.ensures.ok)) (record {
      opened = record {
        text = c.in_ok-text.text.items;
        is_text = c.in_ok-text.ensures;
        said = subst (λ text. first.opened ≡ true → IsAsSaid text first) c.as_slice-2.ensures.value c.in_ok-host.ensures.said;
        shut = c.in_ok-host.ensures.shut;
        no_faults = c.in_ok-host.ensures.faults;
      };
      named = subst (λ text. AreNamedIn text files.filters.named) c.as_slice.ensures.value c.in_ok-files.ensures.0;
      figured = subst (λ text. IsNamedIn text files.figures) c.as_slice.ensures.value c.in_ok-files.ensures.1;
    })
