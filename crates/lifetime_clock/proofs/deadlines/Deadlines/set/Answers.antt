use Rattle.std.proofs.Common.{[], ◌∷◌, Some, is_some, length, length-append, sym, subst, ap, ◌∙◌, arith, rules}
use Rattle.lifetime_clock.specs.Times.{HasRoomFor}
use Rattle.lifetime_clock.specs.Tree.{SplitsAt}
use Rattle.lifetime_clock.specs.Split.{time_found}
use Rattle.lifetime_clock.proofs.Splits.{put, entry_is, IsMap-rise, time_of-split, spare_left}
use Rattle.lifetime_clock.proofs.deadlines.Deadlines.set.Goals as goal

pub invariant_of-self : goal.invariant_of-self
invariant_of-self c =
    let is = entry_is _ _ _ _ _ _ (c.store.ensures ∙ c.join.ensures) c.holding-branch.ensures in
    let given = put c.self.inside.room {new = Some c.args.at} c.replace.ensures.value c.self.invariant.0 c.split-below.ensures is in
    let found = ap is_some (ap time_found c.in-Some.is) in
    let counted = rw found at given.counted in
    (given.rise, omega (arith, counted, c.self.invariant.1), c.self.invariant.2)

pub returns-in-Some-clause-updates : goal.returns-in-Some-clause-updates
returns-in-Some-clause-updates c =
    let is = entry_is _ _ _ _ _ _ (c.store.ensures ∙ c.join.ensures) c.holding-branch.ensures in
    let given = put c.self.inside.room {new = Some c.args.at} c.replace.ensures.value c.self.invariant.0 c.split-below.ensures is in
    rw (← c.self.view_is) given.updates

pub returns-in-Some-clause-map : goal.returns-in-Some-clause-map
returns-in-Some-clause-map c = let kept = invariant_of-self c in IsMap-rise _ _ kept.0 (omega (arith, kept.1))

pub unwrap-requires : goal.unwrap-requires
unwrap-requires c =
    let split = subst (λ tree. SplitsAt tree c.args.key c.split-below.result.below (time_found c.split-below.result.found) c.split-below.result.above) c.replace.ensures.value c.split-below.ensures in
    let absent = time_of-split _ _ _ _ _ split ∙ ap time_found c.in-None.is in
    let has = subst (λ times. HasRoomFor times c.args.key) (sym c.self.view_is) c.requires in
    let left = spare_left c.self.inside.tree c.self.inside.room c.args.key _ absent has c.self.invariant.1 in
    search rules

pub invariant_of-self-in-None : goal.invariant_of-self-in-None
invariant_of-self-in-None c =
    let is = entry_is _ _ _ _ _ _ (c.store-in-None.ensures ∙ c.join-in-None.ensures) c.holding-branch-in-None.ensures in
    let given = put c.self.inside.room {new = Some c.args.at} c.replace.ensures.value c.self.invariant.0 c.split-below.ensures is in
    let found = ap is_some (ap time_found c.in-None.is) in
    let counted = rw found at given.counted in
    let popped = ap length (rw c.unwrap.ensures at c.pop.ensures.items) in
    (given.rise, omega (arith, counted, c.self.invariant.1, popped, length-append c.pop.new.self.items (c.unwrap.result ∷ [])), omega (arith, c.self.invariant.2, c.pop.ensures.capacity))

pub returns-in-None-clause-updates : goal.returns-in-None-clause-updates
returns-in-None-clause-updates c =
    let is = entry_is _ _ _ _ _ _ (c.store-in-None.ensures ∙ c.join-in-None.ensures) c.holding-branch-in-None.ensures in
    let given = put c.self.inside.room {new = Some c.args.at} c.replace.ensures.value c.self.invariant.0 c.split-below.ensures is in
    rw (← c.self.view_is) given.updates

pub returns-in-None-clause-map : goal.returns-in-None-clause-map
returns-in-None-clause-map c = let kept = invariant_of-self-in-None c in IsMap-rise _ _ kept.0 (omega (arith, kept.1))
