use Rattle.dots_registry.proofs.Keeping.{scrubs_inside_domains, acls_inside_domains}
use Rattle.dots_registry.proofs.laws.rows_lie_inside.Goals as goal

pub returns : goal.returns
returns c = record { scrubs = scrubs_inside_domains; lists = acls_inside_domains }
