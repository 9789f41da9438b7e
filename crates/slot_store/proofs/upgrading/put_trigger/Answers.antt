use Rattle.std.proofs.Common.{arith, ◌∙◌, ◌<◌, ◌≤◌, length, take, subst}
use Rattle.std.proofs.lemmas.List.{take_more_set, length-take-le}
use Rattle.slot_store.proofs.Triggering.{active, waiting, other, inside, written}
use Rattle.slot_store.proofs.upgrading.put_trigger.Goals as goal

pub returns-then-number-eq-PUT-clause-triggered : goal.returns-then-number-eq-PUT-clause-triggered
returns-then-number-eq-PUT-clause-triggered c =
    let fits : c.args.len < length c.args.room.now = omega (arith, c.requires.len, c.requires.room) in
    take_more_set c.args.room.now c.args.len 1 fits
    ∙ active (take c.args.len c.args.room.now) c.change_place-at.result c.byte_at-number.result c.change_place-at.ensures c.byte_at-number.ensures c.if-number-eq-PUT.true

pub returns-then-number-eq-WAITING_PUT-clause-triggered : goal.returns-then-number-eq-WAITING_PUT-clause-triggered
returns-then-number-eq-WAITING_PUT-clause-triggered c =
    let fits : c.args.len < length c.args.room.now = omega (arith, c.requires.len, c.requires.room) in
    let short : c.args.len ≤ length c.args.room.now = omega arith in
    let there : c.change_place-at.result < length (take c.args.len c.args.room.now) =
    inside (take c.args.len c.args.room.now) c.change_place-at.result c.byte_at-number.result c.byte_at-number.ensures c.if-number-eq-WAITING_PUT.true in
    written c.args.room.now c.change_place-at.result c.args.len (subst (λ n. c.change_place-at.result < n) (length-take-le c.args.len c.args.room.now short) there) fits
    ∙ waiting (take c.args.len c.args.room.now) c.change_place-at.result c.byte_at-number.result c.change_place-at.ensures c.byte_at-number.ensures c.if-number-eq-WAITING_PUT.true

pub returns-clause-triggered : goal.returns-clause-triggered
returns-clause-triggered c =
    other (take c.args.len c.args.room.now) c.change_place-at.result c.byte_at-number.result c.change_place-at.ensures c.byte_at-number.ensures c.if-number-eq-PUT.false c.if-number-eq-WAITING_PUT.false
