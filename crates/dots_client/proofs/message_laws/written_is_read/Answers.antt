use Rattle.std.proofs.Common.{false, subst, sym}
use Rattle.dots_keys.specs.Meaning.{Means}
use Rattle.dots_client.specs.Asked.{asked_for, withdrawn}
use Rattle.dots_client.proofs.message_laws.written_is_read.Goals as goal

pub returns-clause-asked : goal.returns-clause-asked
returns-clause-asked c = λ number mid cuid asked lifetime answer named below is lasts valid same means.
    c.one_meaning.ensures answer (asked_for cuid mid asked lifetime) means
    (subst (λ m. Means m false (asked_for cuid mid asked lifetime)) (sym same) (c.asking_means.ensures number mid cuid asked lifetime named below is lasts valid))

pub returns-clause-withdrawn : goal.returns-clause-withdrawn
returns-clause-withdrawn c = λ number mid cuid answer named below same means.
    c.one_meaning.ensures answer (withdrawn cuid mid) means
    (subst (λ m. Means m false (withdrawn cuid mid)) (sym same) (c.withdrawing_means.ensures number mid cuid named below))
