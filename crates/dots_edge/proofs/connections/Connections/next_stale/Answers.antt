use Rattle.std.proofs.Common.{◌∙◌, refl, sym, subst, arith}
use Rattle.dots_edge.specs.Places.{at_place, ends_at, AreSwept, NoneEnds}
use Rattle.dots_edge.specs.Gone.{GoesOn}
use Rattle.dots_edge.proofs.GoneLemmas.{on_then, on_beside, goes_on_swept, gone_swept}
use Rattle.dots_edge.proofs.SweepLemmas.{swept_more, none_ends_more, same_open_swept, none_ends}
use Rattle.dots_edge.proofs.connections.Connections.next_stale.Goals as goal

pub returns-in-Some-clause-swept : goal.returns-in-Some-clause-swept
returns-in-Some-clause-swept c =
    let old = c.args.self.now in
    let between = c.loop.self in
    let new = c.sweep_one.new.self in
    subst (λ to. AreSwept old c.args.now old.swept to new) (sym c.sweep_one.ensures.next)
    (swept_more old between new c.args.now old.swept between.swept (omega arith) c.loop.invariant.swept c.sweep_one.ensures.swept c.sweep_one.ensures.beside)

pub loop-preserved : goal.loop-preserved
loop-preserved c =
    let old = c.args.self.now in
    let between = c.loop.self in
    let new = c.sweep_one.new.self in
    let ends = ends_at c.args.now (at_place between between.swept) in
    let none = none_ends ends between.swept c.sweep_one.result c.sweep_one.ensures.answer c.in_default.is in
    record {
      on = on_then old between new c.loop.invariant.on (on_beside between new between.swept (subst (GoesOn (at_place between between.swept)) (sym c.sweep_one.ensures.swept) (goes_on_swept c.args.now (at_place between between.swept))) c.sweep_one.ensures.beside);
      same_open = λ conn. same_open_swept between new c.args.now between.swept c.sweep_one.ensures.swept c.sweep_one.ensures.beside none conn ∙ c.loop.invariant.same_open conn;
      next = omega arith;
      swept =
          subst (λ to. AreSwept old c.args.now old.swept to new) (sym c.sweep_one.ensures.next)
          (swept_more old between new c.args.now old.swept between.swept (omega arith) c.loop.invariant.swept c.sweep_one.ensures.swept c.sweep_one.ensures.beside);
      none =
          subst (λ to. NoneEnds old c.args.now old.swept to) (sym c.sweep_one.ensures.next)
          (none_ends_more old between c.args.now old.swept between.swept c.loop.invariant.swept c.loop.invariant.none none);
    }

pub returns-in-Some-clause-gone : goal.returns-in-Some-clause-gone
returns-in-Some-clause-gone c =
    let between = c.loop.self in
    gone_swept (ends_at c.args.now (at_place between between.swept)) c.args.self.now between c.sweep_one.new.self c.args.now between.swept c.in-Some.conn
    c.sweep_one.result refl c.loop.invariant.on c.sweep_one.ensures.answer c.in-Some.is c.in-Some.ensures.went
