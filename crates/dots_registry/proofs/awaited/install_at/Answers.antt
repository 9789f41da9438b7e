use Rattle.std.proofs.Common.{sym, ap, ◌∙◌}
use Rattle.std.specs.Prelude.{option_copied}
use Rattle.held_resources.specs.Tables.{lost_in}
use Rattle.dots_registry.specs.Awaited.{filters_found}
use Rattle.dots_registry.proofs.awaited.install_at.Goals as goal

pub install-requires : goal.install-requires
install-requires c = c.requires c.in-Some.row.now (sym c.put_in.ensures ∙ ap option_copied c.in-Some.is)

pub returns-in_ok-install-in-Some : goal.returns-in_ok-install-in-Some
returns-in_ok-install-in-Some c =
    c.in_ok-install-in-Some.ensures ∙ ap (λ found. filters_found (lost_in c.args.held.now) found c.args.filters.now) (sym (ap option_copied c.in-Some.is) ∙ c.put_in.ensures)

pub returns-in-None : goal.returns-in-None
returns-in-None c =
    ap (λ found. filters_found (lost_in c.args.held.now) found c.args.filters.now) (sym (ap option_copied c.in-None.is) ∙ c.put_in.ensures)
