use Rattle.std.proofs.Common.{ℕ, List, subst}
use Rattle.dots_keys.proofs.OneMeaning.{OneReading, means_once}
use Rattle.dots_keys.proofs.laws.one_meaning.Goals as goal

pub returns : goal.returns
returns c = λ one other a b.
    means_once c.args.message.now c.args.gateway one other
    (subst (λ (payload : List ℕ). OneReading payload) c.payload.ensures (record { spelling = c.one_spelling.ensures; fault = c.one_reading.ensures.one_fault; not_both = c.one_reading.ensures.not_both }))
    a b
