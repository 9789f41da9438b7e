use Rattle.std.proofs.Common.{subst, ◌∙◌, ◌%◌, arith}
use Rattle.std.proofs.lemmas.Result.{err_from_is_err_and}
use Rattle.dots_host.specs.Becoming.{RestsWith}
use Rattle.slot_store.specs.Copying.{IsSelected, other_selector}
use Rattle.slot_store.proofs.Moving.{move_copied, move_selects, move_rests}
use Rattle.slot_store.proofs.copying.move_half.Goals as goal

pub returns-in_err-copy_half : goal.returns-in_err-copy_half
returns-in_err-copy_half g c =
    let p = err_from_is_err_and c.from_residual.result c.from_residual.ensures.1 in
    record {
      moments = λ seen rests. move_copied _ _ _ _ _ _ seen (c.in_err-copy_half.ensures.moments seen rests);
      moved = rw p.1 tt;
      extent = c.in_err-copy_half.ensures.extent;
      cause = record { later = c.in_err-copy_half.ensures.cause.later; same = rw p.1 tt; rose = rw p.1 c.in_err-copy_half.ensures.cause.rose };
      beside = c.in_err-copy_half.ensures.beside;
    }

pub returns-in_err-select : goal.returns-in_err-select
returns-in_err-select g c =
    let p = err_from_is_err_and c.from_residual-in_err-select.result c.from_residual-in_err-select.ensures.1 in
    let same = c.in_ok-copy_half.ensures.cause.same in
    let later = c.in_err-select.ensures.cause.later in
    let rose = c.in_err-select.ensures.cause.rose in
    record {
      moments = λ seen rests. move_selects _ _ _ _ _ _ _ seen (c.in_ok-copy_half.ensures.moments seen rests) (c.in_ok-copy_half.ensures.copied seen rests) c.in_err-select.ensures.moments;
      moved = rw p.1 tt;
      extent = c.in_err-select.ensures.extent ∙ c.in_ok-copy_half.ensures.extent;
      cause = record { later = omega (arith, same, later); same = rw p.1 tt; rose = rw p.1 (omega (arith, same, rose)) };
      beside = g.met.D.Disk.beside_then _ _ _ c.in_ok-copy_half.ensures.beside c.in_err-select.ensures.beside;
    }

pub returns : goal.returns
returns g c =
    let same = c.in_ok-select.ensures.cause.same ∙ c.in_ok-copy_half.ensures.cause.same in
    record {
      moments = λ seen rests. move_selects _ _ _ _ _ _ _ seen (c.in_ok-copy_half.ensures.moments seen rests) (c.in_ok-copy_half.ensures.copied seen rests) c.in_ok-select.ensures.moments;
      moved = λ seen rests.
          move_rests _ _ c.args.slots (c.args.in_use.selector % 2) c.args.in_use.format c.args.keep.now seen (other_selector c.args.in_use.selector) (c.in_ok-copy_half.ensures.copied seen rests) (λ copied rest.
          subst (λ selector. RestsWith (g.D.Disk.media c.select.new.disk) (IsSelected copied selector)) c.other_selector-other.ensures (c.in_ok-select.ensures.selected copied rest));
      extent = c.in_ok-select.ensures.extent ∙ c.in_ok-copy_half.ensures.extent;
      cause = record { later = omega (arith, same); same = same; rose = tt };
      beside = g.met.D.Disk.beside_then _ _ _ c.in_ok-copy_half.ensures.beside c.in_ok-select.ensures.beside;
    }
