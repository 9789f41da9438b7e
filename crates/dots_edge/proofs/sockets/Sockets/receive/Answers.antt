use Rattle.std.proofs.Common.{◌≡◌, ◌+◌, ◌<◌, [], sym, ap, ◌∙◌, subst, refl, vec_len, rules, arith}
use Rattle.dots_edge.specs.declared.signal.Received.TheVariants as received
use Rattle.dots_edge.specs.Turns.{whose_turn}
use Rattle.dots_edge.specs.Datagrams.{HasReceivedAt, HasFailed, HasFailedAt, times_asked}
use Rattle.dots_edge.proofs.TurnLemmas.{wrapped, ahead_of, turn_within, turn_next, ahead_now, passed_more}
use Rattle.dots_edge.proofs.SocketLemmas.{received_beside, failed_beside, asked_last, asked_by, something, on_err}
use Rattle.dots_edge.proofs.sockets.Sockets.receive.Goals as goal

pub returns-in_err-received-clause-err : goal.returns-in_err-received-clause-err
returns-in_err-received-clause-err c =
    let old = c.args.self.now in
    let between = c.loop.self in
    let new = c.receive_at.new.self in
    let count = vec_len old.signals in
    let first = whose_turn old.signal_turn count in
    let passed = c.loop.counter in
    let at = c.pass-via.result in
    let inv = c.loop.invariant in
    let at_is : at ≡ wrapped count (first + passed) = c.pass-via.ensures.place ∙ ap (whose_turn between.signal_turn) (c.len.ensures ∙ inv.many) ∙ inv.turn in
    let inside : at < count = omega (arith, c.pass-via.ensures.within, c.len.ensures, inv.many) in
    let less : passed < count = omega (arith, c.loop-test.true, c.len-end.ensures) in
    let begins : first < count = turn_within count old.signal_turn (omega arith) in
    let ahead : ahead_of count first at ≡ passed = ap (ahead_of count first) at_is ∙ ahead_now count first passed begins less in
    let same_at = inv.same at inside (omega (arith, ahead)) in
    let turned : new.signal_turn ≡ at + 1 = ap (λ s. s.signal_turn) c.receive_at.ensures.kept ∙ c.pass-via.ensures.next in
    let has = failed_beside at old between new (sym same_at) c.in_err-received.ensures.err in
    on_err c.from_residual.result (HasFailed old new) (subst (λ place. HasFailedAt place old new) (asked_last new at turned) has)

pub returns-in_default : goal.returns-in_default
returns-in_default c =
    let old = c.args.self.now in
    let between = c.loop.self in
    let new = c.receive_at.new.self in
    let count = vec_len old.signals in
    let first = whose_turn old.signal_turn count in
    let passed = c.loop.counter in
    let at = c.pass-via.result in
    let inv = c.loop.invariant in
    let at_is : at ≡ wrapped count (first + passed) = c.pass-via.ensures.place ∙ ap (whose_turn between.signal_turn) (c.len.ensures ∙ inv.many) ∙ inv.turn in
    let inside : at < count = omega (arith, c.pass-via.ensures.within, c.len.ensures, inv.many) in
    let less : passed < count = omega (arith, c.loop-test.true, c.len-end.ensures) in
    let begins : first < count = turn_within count old.signal_turn (omega arith) in
    let ahead : ahead_of count first at ≡ passed = ap (ahead_of count first) at_is ∙ ahead_now count first passed begins less in
    let same_at = inv.same at inside (omega (arith, ahead)) in
    let turned : new.signal_turn ≡ at + 1 = ap (λ s. s.signal_turn) c.receive_at.ensures.kept ∙ c.pass-via.ensures.next in
    let found = c.in_ok-received.received in
    let has = received_beside found at c.receive_at.new.room old between new new (sym same_at) refl c.in_ok-received.ensures.ok in
    record {
      range = search rules;
      ok = asked_by found c.receive_at.new.room old new c.in_default.not-Nothing (subst (λ place. HasReceivedAt found place c.receive_at.new.room old new) (asked_last new at turned) has);
      err = tt;
      later = omega (arith, inv.asked, c.receive_at.ensures.asked);
      asked = something found (times_asked old < times_asked new) (omega (arith, inv.asked, c.receive_at.ensures.asked));
      kept = search rules;
      count = c.receive_at.ensures.count ∙ inv.many;
    }

pub loop-preserved : goal.loop-preserved
loop-preserved c =
    let old = c.args.self.now in
    let between = c.loop.self in
    let new = c.receive_at.new.self in
    let count = vec_len old.signals in
    let first = whose_turn old.signal_turn count in
    let passed = c.loop.counter in
    let at = c.pass-via.result in
    let inv = c.loop.invariant in
    let at_is : at ≡ wrapped count (first + passed) = c.pass-via.ensures.place ∙ ap (whose_turn between.signal_turn) (c.len.ensures ∙ inv.many) ∙ inv.turn in
    let inside : at < count = omega (arith, c.pass-via.ensures.within, c.len.ensures, inv.many) in
    let less : passed < count = omega (arith, c.loop-test.true, c.len-end.ensures) in
    let begins : first < count = turn_within count old.signal_turn (omega arith) in
    let ahead : ahead_of count first at ≡ passed = ap (ahead_of count first) at_is ∙ ahead_now count first passed begins less in
    let same_at = inv.same at inside (omega (arith, ahead)) in
    let turned : new.signal_turn ≡ at + 1 = ap (λ s. s.signal_turn) c.receive_at.ensures.kept ∙ c.pass-via.ensures.next in
    let has : HasReceivedAt received.Nothing at [] between new = subst (λ found. HasReceivedAt found at c.receive_at.new.room between new) c.in-Nothing.is c.in_ok-received.ensures.ok in
    record {
      many = c.receive_at.ensures.count ∙ inv.many;
      kept = search rules;
      turn = ap (λ turn. whose_turn turn count) (turned ∙ ap (λ at. at + 1) at_is) ∙ turn_next count first passed begins less;
      empty =
          passed_more count first passed at begins less at_is
          (λ place. HasReceivedAt received.Nothing place [] old between)
          (λ place. HasReceivedAt received.Nothing place [] old new)
          inv.empty
          (λ place other has. received_beside received.Nothing place [] old old between new refl (c.receive_at.ensures.beside place other) has)
          (received_beside received.Nothing at [] old between new new (sym same_at) refl has);
      same = λ place within behind. c.receive_at.ensures.beside place (λ is. absurd (omega (arith, ap (ahead_of count first) is ∙ ahead, behind))) ∙ inv.same place within (omega arith);
      asked = omega (arith, inv.asked, c.receive_at.ensures.asked);
    }
