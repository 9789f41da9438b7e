use Rattle.std.proofs.Common.{subst, refl, arith}
use Rattle.slot_store.specs.declared.wanted.Wanted.TheVariants as wanted
use Rattle.slot_store.specs.Gates.{NoneIs, IsFirst}
use Rattle.slot_store.proofs.Counting.{count_all, count_some}
use Rattle.slot_store.proofs.gates.count_open.Goals as goal

pub returns-in-Ok-None : goal.returns-in-Ok-None
returns-in-Ok-None g c = record {
  count = λ seen sees.
      let none = rw c.in-Ok-None.field-0-is at (c.in-Ok-None.ensures.found seen sees) in
      count_all c.args.slots c.args.half seen (subst (λ first. NoneIs wanted.NotOpen seen first 0 c.args.slots) c.place_of-first.ensures none);
  fits = omega arith;
  fault = tt;
  keeps = c.in-Ok-None.ensures.keeps;
  extent = c.in-Ok-None.ensures.extent;
  cause = c.in-Ok-None.ensures.cause.same;
  beside = c.in-Ok-None.ensures.beside;
}

pub returns-in-Ok-Some : goal.returns-in-Ok-Some
returns-in-Ok-Some g c =
    let within = rw c.in-Ok-Some.field-0-is at c.in-Ok-Some.ensures.within in
    record {
      count = λ seen sees.
          let some = rw c.in-Ok-Some.field-0-is at (c.in-Ok-Some.ensures.found seen sees) in
          count_some c.args.slots c.args.half seen c.in-Ok-Some.count (subst (λ first. IsFirst wanted.NotOpen seen first 0 c.args.slots c.in-Ok-Some.count) c.place_of-first.ensures some);
      fits = omega (arith, within);
      fault = tt;
      keeps = c.in-Ok-Some.ensures.keeps;
      extent = c.in-Ok-Some.ensures.extent;
      cause = c.in-Ok-Some.ensures.cause.same;
      beside = c.in-Ok-Some.ensures.beside;
    }

pub returns-in-Err : goal.returns-in-Err
returns-in-Err g c = record {
  count = tt;
  fits = tt;
  fault = refl;
  keeps = c.in-Err.ensures.keeps;
  extent = c.in-Err.ensures.extent;
  cause = c.in-Err.ensures.cause.rose;
  beside = c.in-Err.ensures.beside;
}
