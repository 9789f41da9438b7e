use Rattle.std.proofs.Common.{subst, ◌*◌}
use Rattle.slot_store.specs.declared.wanted.Wanted.TheVariants as wanted
use Rattle.slot_store.specs.Gates.{NoneIs, IsFirst}
use Rattle.slot_store.proofs.FormatLemmas.{all_zero, stray}
use Rattle.slot_store.proofs.formatting.check_gates.Goals as goal

pub returns-in-Ok-None : goal.returns-in-Ok-None
returns-in-Ok-None g c = record {
  none = λ seen sees gate.
      let none = rw c.in-Ok-None.field-0-is at (c.in-Ok-None.ensures.found seen sees) in
      all_zero c.args.slots seen gate (subst (λ slots. NoneIs wanted.NotZero seen 8192 0 (2 * slots)) c.from.ensures none);
  refused = tt;
  sized = tt;
  keeps = c.in-Ok-None.ensures.keeps;
  extent = c.in-Ok-None.ensures.extent;
  cause = c.in-Ok-None.ensures.cause.same;
  beside = c.in-Ok-None.ensures.beside;
}

pub returns-in-Ok-Some : goal.returns-in-Ok-Some
returns-in-Ok-Some g c = record {
  none = tt;
  refused = λ seen sees.
      let first = rw c.in-Ok-Some.field-0-is at (c.in-Ok-Some.ensures.found seen sees) in
      stray c.args.slots seen c.in-Ok-Some.index (subst (λ slots. IsFirst wanted.NotZero seen 8192 0 (2 * slots) c.in-Ok-Some.index) c.from.ensures first);
  sized = tt;
  keeps = c.in-Ok-Some.ensures.keeps;
  extent = c.in-Ok-Some.ensures.extent;
  cause = c.in-Ok-Some.ensures.cause.same;
  beside = c.in-Ok-Some.ensures.beside;
}

pub returns-in-Err : goal.returns-in-Err
returns-in-Err g c = record {
  none = tt;
  refused = λ seen sees. tt;
  sized = tt;
  keeps = c.in-Err.ensures.keeps;
  extent = c.in-Err.ensures.extent;
  cause = c.in-Err.ensures.cause.rose;
  beside = c.in-Err.ensures.beside;
}
