use Rattle.std.proofs.Common.{◌∙◌, ◌++◌, ap, codes, length}
use Rattle.server_figures.specs.Lines.{plain_figure}
use Rattle.wire_figures.specs.Counting.{counted, is_loss}
use Rattle.server_figures.specs.Figures.{codes_lines, statuses_lines, sent_lines, counter}
use Rattle.server_figures.proofs.Chains.{more, figure, on_ok}
use Rattle.server_figures.proofs.sent.add_sent.Goals as goal

pub returns : goal.returns
unfolding sent_lines
returns c =
    on_ok c.add_counter.result (λ last. (more c.args.text.now.items c.add_statuses.new.text.items c.add_counter.new.text.items ((codes_lines c.args.tally.now) ++ (statuses_lines c.args.tally.now)) (plain_figure (counter (codes "dots_lost_sends_total") (codes "Sends that were lost.")) (counted is_loss c.args.tally.now))
    (more c.args.text.now.items c.add_codes.new.text.items c.add_statuses.new.text.items (codes_lines c.args.tally.now) (statuses_lines c.args.tally.now)
    (c.in_ok-add_codes.ensures)
    (c.in_ok-add_statuses.ensures))
    (figure c.add_statuses.new.text.items c.add_counter.new.text.items (counter (codes "dots_lost_sends_total") (codes "Sends that were lost.")) c.losses.result (counted is_loss c.args.tally.now) last c.losses.ensures))) c.add_counter.ensures
