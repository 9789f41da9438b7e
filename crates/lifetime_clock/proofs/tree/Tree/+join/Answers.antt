use Rattle.std.proofs.Common.{◌∷◌, length, ap, arith, length-append}
use Rattle.lifetime_clock.specs.Tree.{entry_of}
use Rattle.lifetime_clock.proofs.tree.Tree.+join.Goals as goal

pub join-requires-in-Some-open : goal.join-requires-in-Some-open
join-requires-in-Some-open t c =
    (omega (arith, ap length c.in-Some-open.ensures.parts, length-append c.in-Some-open.inner (entry_of c.in-Some-open.top.value ∷ c.in-Some-open.outer)), tt)
