use Rattle.conflict_rules.proofs.Alone.{judged_apart, collides_apart, views_apart}
use Rattle.dots_registry.proofs.judgement_laws.judgements_are_apart.Goals as goal

pub returns : goal.returns
returns c = record { judged = judged_apart; collides = collides_apart; shown = views_apart }
