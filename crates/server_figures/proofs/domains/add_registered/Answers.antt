use Rattle.std.proofs.Common.{◌+◌, refl, sym, ap, ◌∙◌, ◌++◌, append-nil, arith, codes}
use Rattle.dots_settings.specs.Lookups.{name_of}
use Rattle.server_figures.specs.Lines.{labelled_line, spelled}
use Rattle.server_figures.proofs.Ranges.{from_none, from_next}
use Rattle.server_figures.proofs.domains.add_registered.Goals as goal

pub loop-domain-init : goal.loop-domain-init
loop-domain-init c = record {
  added = λ history represents. sym (append-nil c.args.text.now.items) ∙ ap (λ more. c.args.text.now.items ++ more) (sym (from_none _ 0));
}

pub loop-domain-preserved : goal.loop-domain-preserved
loop-domain-preserved c = record {
  added = λ history represents.
      from_next _ 0 c.loop-domain.domain c.loop-domain.domain (c.loop-domain.domain + 1) c.args.text.now.items c.loop-domain.text.items c.add_domain.new.text.items (omega arith) refl (c.loop-domain.invariant.added history represents)
      (c.in_ok-add_domain.ensures
      ∙ ap (λ number. c.loop-domain.text.items ++ labelled_line (codes "dots_clients") (codes "domain") (spelled (name_of c.args.settings.now c.loop-domain.domain)) number) (c.number_of-number.ensures history represents));
}
