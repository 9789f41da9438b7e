use Rattle.std.proofs.Common.{refl, ◌∙◌, ap, sym, arith}
use Rattle.std.proofs.lemmas.Result.{err_from_is_err_and}
use Rattle.slot_store.specs.Gates.{is_wanted}
use Rattle.slot_store.proofs.DiskReading.{reads_none, reads_then, sees_unchanged, none_more}
use Rattle.slot_store.proofs.gates.find_gate.Goals as goal

pub loop-index-init : goal.loop-index-init
loop-index-init g c = record {
  keeps = reads_none _;
  extent = refl;
  faults = refl;
  beside = g.met.D.Disk.beside_same _;
  passed = λ seen sees place low high. absurd (omega arith);
}

pub returns-in_err-byte : goal.returns-in_err-byte
returns-in_err-byte g c =
    let p = err_from_is_err_and c.from_residual.result c.from_residual.ensures.1 in
    let same = c.loop-index.invariant.faults in
    let later = c.in_err-byte.ensures.cause.later in
    let rose = c.in_err-byte.ensures.cause.rose in
    record {
      found = rw p.1 tt;
      within = rw p.1 tt;
      keeps = reads_then _ _ _ c.loop-index.invariant.keeps c.in_err-byte.ensures.keeps;
      extent = c.in_err-byte.ensures.extent ∙ c.loop-index.invariant.extent;
      cause = record { later = omega (arith, same, later); same = rw p.1 tt; rose = rw p.1 (omega (arith, same, rose)) };
      beside = g.met.D.Disk.beside_then _ _ _ c.loop-index.invariant.beside c.in_err-byte.ensures.beside;
    }

pub returns-then-is_wanted : goal.returns-then-is_wanted
returns-then-is_wanted g c =
    let same = c.in_ok-byte.ensures.cause.same ∙ c.loop-index.invariant.faults in
    record {
      found = λ seen sees. record {
        low = omega arith;
        high = omega arith;
        is = ap (is_wanted c.args.what) (sym (c.in_ok-byte.ensures.byte seen (sees_unchanged _ _ seen c.loop-index.invariant.keeps sees))) ∙ sym c.is_wanted.ensures ∙ c.if-is_wanted.true;
        before = c.loop-index.invariant.passed seen sees;
      };
      within = (omega arith, omega arith);
      keeps = reads_then _ _ _ c.loop-index.invariant.keeps c.in_ok-byte.ensures.keeps;
      extent = c.in_ok-byte.ensures.extent ∙ c.loop-index.invariant.extent;
      cause = record { later = omega (arith, same); same = same; rose = tt };
      beside = g.met.D.Disk.beside_then _ _ _ c.loop-index.invariant.beside c.in_ok-byte.ensures.beside;
    }

pub returns : goal.returns
returns g c =
    let same = c.loop-index.invariant.faults in
    record {
      found = λ seen sees place low high. c.loop-index.invariant.passed seen sees place low (omega arith);
      within = tt;
      keeps = c.loop-index.invariant.keeps;
      extent = c.loop-index.invariant.extent;
      cause = record { later = omega (arith, same); same = same; rose = tt };
      beside = c.loop-index.invariant.beside;
    }

pub loop-index-preserved : goal.loop-index-preserved
loop-index-preserved g c = record {
  keeps = reads_then _ _ _ c.loop-index.invariant.keeps c.in_ok-byte.ensures.keeps;
  extent = c.in_ok-byte.ensures.extent ∙ c.loop-index.invariant.extent;
  faults = c.in_ok-byte.ensures.cause.same ∙ c.loop-index.invariant.faults;
  beside = g.met.D.Disk.beside_then _ _ _ c.loop-index.invariant.beside c.in_ok-byte.ensures.beside;
  passed = λ seen sees. none_more c.args.what seen c.args.first c.args.from c.loop-index.index (c.loop-index.invariant.passed seen sees)
      (ap (is_wanted c.args.what) (sym (c.in_ok-byte.ensures.byte seen (sees_unchanged _ _ seen c.loop-index.invariant.keeps sees))) ∙ sym c.is_wanted.ensures ∙ c.if-is_wanted.false);
}
