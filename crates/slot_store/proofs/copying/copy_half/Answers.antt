use Rattle.std.proofs.Common.{arith, refl, ℕ, ◌∙◌, ◌≡◌, ◌-◌, ◌<◌, ◌≤◌, length, take}
use Rattle.std.proofs.lemmas.List.{length-take}
use Rattle.std.proofs.lemmas.Result.{err_from_is_err_and}
use Rattle.dots_host.specs.Becoming.{RestsWith}
use Rattle.slot_store.specs.Opening.{Is}
use Rattle.slot_store.proofs.Storing.{slot_fits}
use Rattle.slot_store.proofs.CopyStages.{copy_begins, copy_reads, copy_torn, copy_more, copied_all, mark_torn, mark_more, mark_unsynced, half_left, half_done}
use Rattle.slot_store.proofs.copying.copy_half.Goals as goal

pub loop-slot-init : goal.loop-slot-init
loop-slot-init g c = record {
  extent = refl;
  faults = refl;
  beside = g.met.D.Disk.beside_same _;
  copied = λ seen rests. copy_begins _ c.args.slots c.args.half c.args.format c.args.keep.now seen rests;
}

pub write_at-requires : goal.write_at-requires
write_at-requires g c =
    let other : 1 - c.args.half < 2 = omega arith in
    let under : c.loop-slot.slot < c.args.slots = c.loop-slot-test.true in
    let fits = slot_fits c.args.slots (1 - c.args.half) c.loop-slot.slot other under in
    let at = c.place_of-at.ensures in
    let taken = length-take c.in_ok-size.size c.fill_slot.new.room in
    let low = c.in_ok-size.ensures.enough.fits in
    let extent = c.in_ok-size.ensures.extent ∙ c.loop-slot.invariant.extent in
    let size = c.requires.size in
    omega (arith, fits, at, taken, low, extent, size)

pub returns-in_err-size : goal.returns-in_err-size
returns-in_err-size g c =
    let p = err_from_is_err_and c.from_residual.result c.from_residual.ensures.1 in
    let same = c.loop-slot.invariant.faults in
    let later = c.in_err-size.ensures.cause.later in
    let rose = c.in_err-size.ensures.cause.rose in
    record {
      moments = λ seen rests. (copy_reads _ _ _ c.args.slots c.args.half c.args.format c.args.keep.now seen c.loop-slot.slot (c.loop-slot.invariant.copied seen rests) c.in_err-size.ensures.keeps).leaves;
      copied = rw p.1 tt;
      extent = c.in_err-size.ensures.extent ∙ c.loop-slot.invariant.extent;
      cause = record { later = omega (arith, same, later); same = rw p.1 tt; rose = rw p.1 (omega (arith, same, rose)) };
      beside = g.met.D.Disk.beside_then _ _ _ c.loop-slot.invariant.beside c.in_err-size.ensures.beside;
    }

pub returns-in_err-write_at : goal.returns-in_err-write_at
returns-in_err-write_at g c =
    let p = err_from_is_err_and c.from_residual-in_err-write_at.result c.from_residual-in_err-write_at.ensures.1 in
    let same = c.in_ok-size.ensures.cause.same ∙ c.loop-slot.invariant.faults in
    let later = c.in_err-write_at.ensures.cause.later in
    let rose = c.in_err-write_at.ensures.cause.rose in
    record {
      moments = λ seen rests.
          let taken = length-take c.in_ok-size.size c.fill_slot.new.room in
          let low = c.in_ok-size.ensures.enough.fits in
          let size : length (take c.in_ok-size.size c.fill_slot.new.room) ≤ 8192 = omega arith in
          copy_torn _ _ _ c.args.slots c.args.half c.args.format c.args.keep.now seen c.loop-slot.slot c.place_of-at.result _ (omega arith) size c.place_of-at.ensures
          (copy_reads _ _ _ c.args.slots c.args.half c.args.format c.args.keep.now seen c.loop-slot.slot (c.loop-slot.invariant.copied seen rests) c.in_ok-size.ensures.keeps) c.in_err-write_at.ensures.err;
      copied = rw p.1 tt;
      extent = c.in_err-write_at.ensures.extent ∙ c.in_ok-size.ensures.extent ∙ c.loop-slot.invariant.extent;
      cause = record { later = omega (arith, same, later); same = rw p.1 tt; rose = rw p.1 (omega (arith, same, rose)) };
      beside = g.met.D.Disk.beside_then _ _ _ (g.met.D.Disk.beside_then _ _ _ c.loop-slot.invariant.beside c.in_ok-size.ensures.beside) c.in_err-write_at.ensures.beside;
    }

pub loop-slot-preserved : goal.loop-slot-preserved
loop-slot-preserved g c = record {
  extent = c.in_ok-write_at.ensures.extent ∙ c.in_ok-size.ensures.extent ∙ c.loop-slot.invariant.extent;
  faults = c.in_ok-write_at.ensures.cause.same ∙ c.in_ok-size.ensures.cause.same ∙ c.loop-slot.invariant.faults;
  beside = g.met.D.Disk.beside_then _ _ _ (g.met.D.Disk.beside_then _ _ _ c.loop-slot.invariant.beside c.in_ok-size.ensures.beside) c.in_ok-write_at.ensures.beside;
  copied = λ seen rests.
      let low = c.in_ok-size.ensures.enough.fits in
      copy_more _ _ _ _ c.args.slots c.args.half c.args.format c.args.keep.now seen c.loop-slot.slot c.place_of-at.result c.in_ok-size.size c.fill_slot.new.room c.requires.half c.requires.keep (omega arith) c.place_of-at.ensures
      c.in_ok-size.ensures.enough (omega arith) rests (c.loop-slot.invariant.copied seen rests)
      c.in_ok-size.ensures.keeps c.in_ok-size.ensures.copy c.in_ok-write_at.ensures.ok;
}

pub returns-in_err-write_at-2 : goal.returns-in_err-write_at-2
returns-in_err-write_at-2 g c =
    let p = err_from_is_err_and c.from_residual-in_err-write_at-2.result c.from_residual-in_err-write_at-2.ensures.1 in
    let all : c.loop-slot.slot ≡ c.args.slots = omega arith in
    let same = c.loop-slot.invariant.faults in
    let later = c.in_err-write_at-2.ensures.cause.later in
    let rose = c.in_err-write_at-2.ensures.cause.rose in
    record {
      moments = λ seen rests.
          mark_torn _ _ _ c.args.slots c.args.half c.args.format c.args.keep.now seen c.format_place.result c.format_place.ensures
          (copied_all _ _ c.args.slots c.args.half c.args.format c.args.keep.now seen c.loop-slot.slot all (c.loop-slot.invariant.copied seen rests)) c.in_err-write_at-2.ensures.err;
      copied = rw p.1 tt;
      extent = c.in_err-write_at-2.ensures.extent ∙ c.loop-slot.invariant.extent;
      cause = record { later = omega (arith, same, later); same = rw p.1 tt; rose = rw p.1 (omega (arith, same, rose)) };
      beside = g.met.D.Disk.beside_then _ _ _ c.loop-slot.invariant.beside c.in_err-write_at-2.ensures.beside;
    }

pub returns-in_err-sync : goal.returns-in_err-sync
returns-in_err-sync g c =
    let p = err_from_is_err_and c.from_residual-in_err-sync.result c.from_residual-in_err-sync.ensures.1 in
    let all : c.loop-slot.slot ≡ c.args.slots = omega arith in
    let same = c.in_ok-write_at-2.ensures.cause.same ∙ c.loop-slot.invariant.faults in
    let later = c.in_err-sync.ensures.cause.later in
    let rose = c.in_err-sync.ensures.cause.rose in
    record {
      moments = λ seen rests.
          mark_unsynced _ _ _ c.args.slots c.args.half c.args.format c.args.keep.now seen
          (mark_more _ _ _ c.args.slots c.args.half c.args.format c.args.keep.now seen c.format_place.result c.format_byte-second.result c.format_place.ensures c.format_byte-second.ensures
          (copied_all _ _ c.args.slots c.args.half c.args.format c.args.keep.now seen c.loop-slot.slot all (c.loop-slot.invariant.copied seen rests)) c.in_ok-write_at-2.ensures.ok) c.in_err-sync.ensures.err;
      copied = rw p.1 tt;
      extent = c.in_err-sync.ensures.extent ∙ c.in_ok-write_at-2.ensures.extent ∙ c.loop-slot.invariant.extent;
      cause = record { later = omega (arith, same, later); same = rw p.1 tt; rose = rw p.1 (omega (arith, same, rose)) };
      beside = g.met.D.Disk.beside_then _ _ _ (g.met.D.Disk.beside_then _ _ _ c.loop-slot.invariant.beside c.in_ok-write_at-2.ensures.beside) c.in_err-sync.ensures.beside;
    }

pub returns : goal.returns
returns g c =
    let all : c.loop-slot.slot ≡ c.args.slots = omega arith in
    let same = c.in_ok-sync.ensures.cause.same ∙ c.in_ok-write_at-2.ensures.cause.same ∙ c.loop-slot.invariant.faults in
    let marked = λ (seen : ℕ → ℕ) (rests : RestsWith (g.D.Disk.media c.args.disk.now) (Is seen)).
    mark_more _ _ _ c.args.slots c.args.half c.args.format c.args.keep.now seen c.format_place.result c.format_byte-second.result c.format_place.ensures c.format_byte-second.ensures
    (copied_all _ _ c.args.slots c.args.half c.args.format c.args.keep.now seen c.loop-slot.slot all (c.loop-slot.invariant.copied seen rests)) c.in_ok-write_at-2.ensures.ok in
    record {
      moments = λ seen rests. half_left _ _ _ c.args.slots c.args.half c.args.format c.args.keep.now seen (marked seen rests) c.in_ok-sync.ensures.ok;
      copied = λ seen rests. half_done _ _ _ c.args.slots c.args.half c.args.format c.args.keep.now seen rests (marked seen rests) c.in_ok-sync.ensures.ok;
      extent = c.in_ok-sync.ensures.extent ∙ c.in_ok-write_at-2.ensures.extent ∙ c.loop-slot.invariant.extent;
      cause = record { later = omega (arith, same); same = same; rose = tt };
      beside = g.met.D.Disk.beside_then _ _ _ (g.met.D.Disk.beside_then _ _ _ c.loop-slot.invariant.beside c.in_ok-write_at-2.ensures.beside) c.in_ok-sync.ensures.beside;
    }
