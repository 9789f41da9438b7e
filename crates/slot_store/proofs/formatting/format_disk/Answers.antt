use Rattle.std.proofs.Common.{arith, refl, subst, ◌∙◌, ◌≡◌, ℕ, length}
use Rattle.std.proofs.lemmas.Result.{err_from_is_err_and}
use Rattle.dots_host.specs.Causes.{Rose}
use Rattle.slot_store.specs.declared.format.Format.TheVariants.{Two}
use Rattle.slot_store.proofs.DiskReading.{sees_at_rest}
use Rattle.slot_store.proofs.HeaderLemmas.{is_rest}
use Rattle.slot_store.proofs.FormatLemmas.{format_reads, format_leaves, format_rests}
use Rattle.slot_store.proofs.formatting.format_disk.Goals as goal

pub returns-in_err-check_gates : goal.returns-in_err-check_gates
returns-in_err-check_gates g c =
    let p = err_from_is_err_and c.from_residual.result c.from_residual.ensures.1 in
    record {
      moments = λ seen rests blank. format_reads _ _ _ _ seen c.in_err-check_gates.ensures.keeps rests blank;
      blank = rw p.1 tt;
      formatted = rw p.1 tt;
      refused = rw (p.1, p.2) (λ seen rests. c.in_err-check_gates.ensures.refused seen (sees_at_rest _ seen rests));
      sized = rw (p.1, p.2) c.in_err-check_gates.ensures.sized;
      unwritten = rw p.1 (λ other. c.in_err-check_gates.ensures.keeps);
      extent = c.in_err-check_gates.ensures.extent;
      cause = rw (p.1, p.2) c.in_err-check_gates.ensures.cause;
      beside = c.in_err-check_gates.ensures.beside;
    }

pub returns-in-Ok : goal.returns-in-Ok
returns-in-Ok g c =
    let size : length c.header-header.result ≡ 64 = omega arith in
    let rest = is_rest c.args.slots c.args.digest.now Two c.header-header.result size c.header-header.ensures.bytes c.header-header.ensures.selector c.header-header.ensures.formats.0 in
    record {
      moments = λ seen rests blank. format_leaves _ _ _ c.args.slots c.args.digest.now _ seen rest c.in_ok-check_gates.ensures.keeps c.in-Ok.ensures.moments rests blank;
      blank = λ seen rests gate. c.in_ok-check_gates.ensures.none seen (sees_at_rest _ seen rests) gate;
      formatted = λ seen rests gate.
          format_rests _ _ _ c.args.slots c.args.digest.now _ seen rest c.in_ok-check_gates.ensures.keeps c.in-Ok.ensures.opened rests (c.in_ok-check_gates.ensures.none seen (sees_at_rest _ seen rests) gate);
      refused = tt;
      sized = tt;
      unwritten = tt;
      extent = c.in-Ok.ensures.extent ∙ c.in_ok-check_gates.ensures.extent;
      cause = c.in-Ok.ensures.cause.same ∙ c.in_ok-check_gates.ensures.cause;
      beside = g.met.D.Disk.beside_then _ _ _ c.in_ok-check_gates.ensures.beside c.in-Ok.ensures.beside;
    }

pub returns-in-Err : goal.returns-in-Err
returns-in-Err g c =
    let size : length c.header-header.result ≡ 64 = omega arith in
    let rest = is_rest c.args.slots c.args.digest.now Two c.header-header.result size c.header-header.ensures.bytes c.header-header.ensures.selector c.header-header.ensures.formats.0 in
    record {
      moments = λ seen rests blank. format_leaves _ _ _ c.args.slots c.args.digest.now _ seen rest c.in_ok-check_gates.ensures.keeps c.in-Err.ensures.moments rests blank;
      blank = tt;
      formatted = tt;
      refused = λ seen rests. tt;
      sized = tt;
      unwritten = λ other. absurd (other refl);
      extent = c.in-Err.ensures.extent ∙ c.in_ok-check_gates.ensures.extent;
      cause = subst (λ (n : ℕ). Rose n (g.D.Disk.faults c.open_gate.new.disk)) c.in_ok-check_gates.ensures.cause c.in-Err.ensures.cause.rose;
      beside = g.met.D.Disk.beside_then _ _ _ c.in_ok-check_gates.ensures.beside c.in-Err.ensures.beside;
    }
