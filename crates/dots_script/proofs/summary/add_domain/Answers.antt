use Rattle.dots_script.proofs.Counting.{one_more}
use Rattle.dots_script.proofs.summary.add_domain.Goals as goal

pub returns-in-Ok : goal.returns-in-Ok
returns-in-Ok c = λ front before. one_more _ _ _ _ _ _ front c.domain_name-name.ensures.value c.prefixes-prefixes.ensures.value c.in-Ok.ensures before
