use Rattle.std.proofs.Common.{rules, sym, ◌∙◌}
use Rattle.std.proofs.lemmas.Bool.{ne_eqb}
use Rattle.dots_settings.specs.Lookups.{no_domain}
use Rattle.host_checks.proofs.Naming.{number_there}
use Rattle.host_checks.proofs.kept_entry.number_in.Goals as goal

pub returns-then-domain-domains : goal.returns-then-domain-domains
returns-then-domain-domains c =
    c.domain_named.ensures.number
    ∙ sym (number_there c.args.old.now c.args.new.now c.args.domain c.domain_name.result.now (ne_eqb c.args.domain no_domain (search rules)) c.domain_name.ensures.value)
