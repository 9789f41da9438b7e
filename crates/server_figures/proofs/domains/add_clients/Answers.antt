use Rattle.std.proofs.Common.{◌∙◌, ◌++◌, ap, codes, length}
use Rattle.server_figures.specs.Lines.{heading_lines, plain_figure}
use Rattle.dots_settings.specs.declared.limits.Limits.{Limits}
use Rattle.server_figures.specs.Figures.{clients_lines, domain_lines, registered_in, gauge}
use Rattle.server_figures.proofs.Chains.{more, figure, on_ok}
use Rattle.server_figures.proofs.domains.add_clients.Goals as goal

pub returns : goal.returns
unfolding clients_lines
returns c =
    on_ok c.add_gauge.result (λ last history represents. (more c.args.text.now.items c.add_registered.new.text.items c.add_gauge.new.text.items ((heading_lines (gauge (codes "dots_clients") (codes "Registered clients of a domain."))) ++ (domain_lines c.args.settings.now (codes "dots_clients") (registered_in history))) (plain_figure (gauge (codes "dots_clients_limit") (codes "Registered clients that a domain may have.")) c.args.settings.now.limits.clients)
    (more c.args.text.now.items c.add_gauge_heading.new.text.items c.add_registered.new.text.items (heading_lines (gauge (codes "dots_clients") (codes "Registered clients of a domain."))) (domain_lines c.args.settings.now (codes "dots_clients") (registered_in history))
    (c.in_ok-add_gauge_heading.ensures)
    (c.in_ok-add_registered.ensures history represents))
    (figure c.add_registered.new.text.items c.add_gauge.new.text.items (gauge (codes "dots_clients_limit") (codes "Registered clients that a domain may have.")) c.from.result c.args.settings.now.limits.clients last (c.from.ensures ∙ ap (λ (l : Limits). l.clients) c.limits.ensures.value)))) c.add_gauge.ensures
