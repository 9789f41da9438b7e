use Rattle.std.proofs.Common.{None, is_some, ap, ◌∙◌, arith}
use Rattle.lifetime_clock.specs.Split.{time_found}
use Rattle.lifetime_clock.proofs.Splits.{put, IsMap-rise}
use Rattle.lifetime_clock.proofs.deadlines.Deadlines.clear.Goals as goal

pub invariant_of-self : goal.invariant_of-self
invariant_of-self c =
    let given = put c.self.inside.room {new = None} c.replace.ensures.value c.self.invariant.0 c.split-below.ensures (c.store.ensures ∙ c.merge.ensures) in
    let found = ap is_some (ap time_found c.in-Some.is) in
    let counted = rw found at given.counted in
    (given.rise, omega (arith, counted, c.self.invariant.1, c.push_reserved.ensures.len), omega (arith, c.self.invariant.2, c.push_reserved.ensures.capacity))

pub returns-in-Some-clause-updates : goal.returns-in-Some-clause-updates
returns-in-Some-clause-updates c =
    let given = put c.self.inside.room {new = None} c.replace.ensures.value c.self.invariant.0 c.split-below.ensures (c.store.ensures ∙ c.merge.ensures) in
    rw (← c.self.view_is) given.updates

pub returns-in-Some-clause-map : goal.returns-in-Some-clause-map
returns-in-Some-clause-map c = let kept = invariant_of-self c in IsMap-rise _ _ kept.0 (omega (arith, kept.1))

pub returns-in_default-clause-updates : goal.returns-in_default-clause-updates
returns-in_default-clause-updates c =
    let given = put c.self.inside.room {new = None} c.replace.ensures.value c.self.invariant.0 c.split-below.ensures (c.store.ensures ∙ c.merge.ensures) in
    rw (← c.self.view_is) given.updates

pub returns-in_default-clause-map : goal.returns-in_default-clause-map
returns-in_default-clause-map c =
    let given = put c.self.inside.room {new = None} c.replace.ensures.value c.self.invariant.0 c.split-below.ensures (c.store.ensures ∙ c.merge.ensures) in
    IsMap-rise _ _ given.rise (omega (arith, given.counted, c.self.invariant.1))
