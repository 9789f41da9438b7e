use Rattle.std.proofs.Common.{Ok, Err, arith, inl, inr}
use Rattle.std.proofs.lemmas.Bool.{cases_lt}
use Rattle.std.proofs.lemmas.List.Sorted.{searched}
use Rattle.dots_history.proofs.Rising.{rises_not_down, place_below, number_there, number_absent}
use Rattle.dots_history.proofs.slots.number_in.Goals as goal

pub overflow_cast-result : goal.overflow_cast-result
overflow_cast-result c =
    let at = searched c.args.keep.now c.args.slot (Ok c.in-Ok.place) c.in-Ok.ensures.position (rises_not_down c.args.keep.now c.requires) in
    let below = place_below c.args.keep.now c.requires c.in-Ok.place at.0 in
    omega (arith, below, at.1)

pub returns-in-Ok : goal.returns-in-Ok
returns-in-Ok c =
    let at = searched c.args.keep.now c.args.slot (Ok c.in-Ok.place) c.in-Ok.ensures.position (rises_not_down c.args.keep.now c.requires) in
    number_there c.args.keep.now c.args.slot c.in-Ok.place c.requires at.0 at.1

pub returns-in-Err : goal.returns-in-Err
returns-in-Err c =
    let at = searched c.args.keep.now c.args.slot (Err c.in-Err.field-0) c.in-Err.ensures.position (rises_not_down c.args.keep.now c.requires) in
    number_absent c.args.keep.now c.args.slot
    (λ k within same.
    elim (cases_lt k c.in-Err.field-0) [
      | inl less ↦ let low = at.1 k less in omega (arith, low, same)
      | inr more ↦ let high = at.2 k more within in omega (arith, high, same)
    ])
