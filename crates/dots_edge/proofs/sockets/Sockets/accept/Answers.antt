use Rattle.std.proofs.Common.{◌≡◌, ◌+◌, ◌<◌, sym, ap, ◌∙◌, refl, vec_len, rules, arith}
use Rattle.dots_edge.specs.declared.listener.Accepted.TheVariants as accepted
use Rattle.dots_edge.specs.Turns.{whose_turn}
use Rattle.dots_edge.specs.Accepts.{HasGivenAt}
use Rattle.dots_edge.proofs.TurnLemmas.{wrapped, ahead_of, turn_within, turn_next, ahead_now, passed_more}
use Rattle.dots_edge.proofs.SocketLemmas.{given_beside}
use Rattle.dots_edge.proofs.sockets.Sockets.accept.Goals as goal

pub loop-preserved : goal.loop-preserved
loop-preserved c =
    let old = c.args.self.now in
    let between = c.loop.self in
    let new = c.accept_at.new.self in
    let count = vec_len old.listeners in
    let first = whose_turn old.listener_turn count in
    let passed = c.loop.counter in
    let at = c.pass-at.result in
    let inv = c.loop.invariant in
    let at_is : at ≡ wrapped count (first + passed) = c.pass-at.ensures.place ∙ ap (whose_turn between.listener_turn) (c.len.ensures ∙ inv.many) ∙ inv.turn in
    let inside : at < count = omega (arith, c.pass-at.ensures.within, c.len.ensures, inv.many) in
    let less : passed < count = omega (arith, c.loop-test.true, c.len-end.ensures) in
    let begins : first < count = turn_within count old.listener_turn (omega arith) in
    let ahead : ahead_of count first at ≡ passed = ap (ahead_of count first) at_is ∙ ahead_now count first passed begins less in
    let same_at = inv.same at inside (omega (arith, ahead)) in
    let turned : new.listener_turn ≡ at + 1 = ap (λ s. s.listener_turn) c.accept_at.ensures.kept ∙ c.pass-at.ensures.next in
    record {
      many = c.accept_at.ensures.count ∙ inv.many;
      kept = search rules;
      turn = ap (λ turn. whose_turn turn count) (turned ∙ ap (λ at. at + 1) at_is) ∙ turn_next count first passed begins less;
      empty =
          passed_more count first passed at begins less at_is
          (λ place. HasGivenAt accepted.Nothing place old between)
          (λ place. HasGivenAt accepted.Nothing place old new)
          inv.empty
          (λ place other has. given_beside accepted.Nothing place old old between new refl (c.accept_at.ensures.beside place other) has)
          (given_beside accepted.Nothing at old between new new (sym same_at) refl c.in-Nothing.ensures.accepted);
      same = λ place within behind. c.accept_at.ensures.beside place (λ is. absurd (omega (arith, ap (ahead_of count first) is ∙ ahead, behind))) ∙ inv.same place within (omega arith);
      tried = omega (arith, inv.tried, c.accept_at.ensures.tried);
    }
