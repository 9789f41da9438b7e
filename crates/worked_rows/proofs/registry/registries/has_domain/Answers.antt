use Rattle.std.proofs.Common.{◌<◌, sym, subst, ◌∙◌}
use Rattle.std.proofs.lemmas.Bool.{ltb-true}
use Rattle.worked_rows.proofs.registry.registries.has_domain.Goals as goal

pub returns : goal.returns
returns c = λ is.
    subst (λ n. c.args.domain < n) (c.domains.ensures.number ∙ sym c.requires.domains) (ltb-true c.args.domain c.domains.result is)
