use Rattle.std.proofs.Common.{◌∙◌, ◌++◌, ap, codes, length}
use Rattle.server_figures.specs.Lines.{heading_lines, plain_figure}
use Rattle.dots_settings.specs.declared.limits.Limits.{Limits}
use Rattle.dots_registry.specs.RegistryValues.{time_of}
use Rattle.server_figures.specs.Figures.{mitigations_lines, domain_lines, live_in, gauge}
use Rattle.server_figures.proofs.Chains.{more, figure, on_ok}
use Rattle.server_figures.proofs.domains.add_mitigations.Goals as goal

pub returns : goal.returns
unfolding mitigations_lines
returns c =
    on_ok c.add_gauge.result (λ last history represents. (more c.args.text.now.items c.add_live.new.text.items c.add_gauge.new.text.items ((heading_lines (gauge (codes "dots_mitigations") (codes "Live mitigations of a domain."))) ++ (domain_lines c.args.settings.now (codes "dots_mitigations") (live_in (time_of c.args.registry.now) history))) (plain_figure (gauge (codes "dots_mitigations_limit") (codes "Live mitigations that a domain may have.")) c.args.settings.now.limits.domain_mitigations)
    (more c.args.text.now.items c.add_gauge_heading.new.text.items c.add_live.new.text.items (heading_lines (gauge (codes "dots_mitigations") (codes "Live mitigations of a domain."))) (domain_lines c.args.settings.now (codes "dots_mitigations") (live_in (time_of c.args.registry.now) history))
    (c.in_ok-add_gauge_heading.ensures)
    (c.in_ok-add_live.ensures history represents))
    (figure c.add_live.new.text.items c.add_gauge.new.text.items (gauge (codes "dots_mitigations_limit") (codes "Live mitigations that a domain may have.")) c.from.result c.args.settings.now.limits.domain_mitigations last (c.from.ensures ∙ ap (λ (l : Limits). l.domain_mitigations) c.limits.ensures.value)))) c.add_gauge.ensures
