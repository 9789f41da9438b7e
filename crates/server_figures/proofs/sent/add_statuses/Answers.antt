use Rattle.std.proofs.Common.{◌∙◌, ◌++◌, ap}
use Rattle.server_figures.specs.Lines.{plain_figure}
use Rattle.server_figures.specs.Figures.{statuses_lines}
use Rattle.server_figures.proofs.Chains.{more, on_ok}
use Rattle.server_figures.proofs.sent.add_statuses.Goals as goal

pub returns : goal.returns
unfolding statuses_lines
returns c =
    on_ok c.add_each_status.result (λ last. more _ _ _ _ _ c.in_ok-add_counter_heading.ensures last) c.add_each_status.ensures
