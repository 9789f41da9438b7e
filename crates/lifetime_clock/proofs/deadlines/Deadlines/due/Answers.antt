use Rattle.std.proofs.Common.{◌≤◌, refl, arith, rules}
use Rattle.lifetime_clock.specs.Tree.{least_time}
use Rattle.lifetime_clock.proofs.Entries.{not_nothing}
use Rattle.lifetime_clock.proofs.Splits.{NothingIsDue-empty, NothingIsDue-least, IsNextDue-has, IsMap-rise}
use Rattle.lifetime_clock.proofs.deadlines.Deadlines.due.Goals as goal

pub returns-then-is_empty-clause-none : goal.returns-then-is_empty-clause-none
returns-then-is_empty-clause-none c =
    (λ _. rw (← c.self.view_is) (NothingIsDue-empty c.self.inside.tree c.self.inside.room c.args.now (search rules)), λ _. refl)

pub returns-then-least-now-clause-none : goal.returns-then-least-now-clause-none
returns-then-least-now-clause-none c =
    (λ _. rw (← c.self.view_is) (NothingIsDue-least c.self.inside.tree c.self.inside.room c.args.now (omega (arith, c.least.ensures, c.if-least-now.true))), λ _. refl)

pub returns-then-is_empty-clause-map : goal.returns-then-is_empty-clause-map
returns-then-is_empty-clause-map c = rw (← c.self.view_is) (IsMap-rise c.self.inside.tree c.self.inside.room c.self.invariant.0 (omega (arith, c.self.invariant.1)))

pub returns-clause-next : goal.returns-clause-next
returns-clause-next c =
    let due : least_time c.self.inside.tree ≤ c.args.now = omega (arith, c.least.ensures, c.if-least-now.false) in
    rw (← c.self.view_is) (IsNextDue-has c.self.inside.tree c.self.inside.room c.args.now c.least_key-key.result c.self.invariant.0 c.least_key-key.ensures due)

pub returns-clause-none : goal.returns-clause-none
returns-clause-none c = (λ is. absurd (cc), λ nothing. absurd (not_nothing _ _ _ (returns-clause-next c) nothing))

pub returns-then-least-now-clause-map : goal.returns-then-least-now-clause-map
returns-then-least-now-clause-map c = rw (← c.self.view_is) (IsMap-rise c.self.inside.tree c.self.inside.room c.self.invariant.0 (omega (arith, c.self.invariant.1)))
