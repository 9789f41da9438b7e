use Rattle.dots_history.proofs.Containing.{scrub_rows_inside, acl_rows_inside, matches_inside}
use Rattle.dots_history.proofs.view_laws.filters_lie_inside.Goals as goal

pub returns : goal.returns
returns c = record { scrubs = scrub_rows_inside; lists = acl_rows_inside; anywhere = matches_inside }
