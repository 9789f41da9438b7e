use Rattle.std.proofs.Common.{subst, IfSome}
use Rattle.dots_edge.specs.Gone.{HasComeOn}
use Rattle.dots_edge.proofs.GoneLemmas.{come_on}
use Rattle.dots_edge.proofs.connections.Connections.next_piece.Goals as goal

pub returns-in-Some-clause-whence : goal.returns-in-Some-clause-whence
returns-in-Some-clause-whence c =
    let old = c.args.self.now in
    let new = c.look.new.self in
    let room = c.look.new.into in
    subst (λ found. IfSome found (λ came. HasComeOn came room old new c.args.now)) c.in-Some.is
    (come_on c.look.result room old c.loop.self new c.args.now c.loop.invariant.on c.look.ensures.follows c.look.ensures.whence)
