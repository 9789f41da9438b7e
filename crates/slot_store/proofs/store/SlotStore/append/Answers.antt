use Rattle.std.proofs.Common.{◌∙◌, ap, sym, subst, ◌+◌, ◌%◌, ◌++◌, ◌∷◌, [], ◌<◌, length, arith}
use Rattle.std.proofs.lemmas.Grind.{elements}
use Rattle.dots_host.specs.Becoming.{RestsWith}
use Rattle.slot_store.specs.Layout.{place_of}
use Rattle.slot_store.specs.StoreValues.{JournalValue, RepresentsRecords}
use Rattle.slot_store.proofs.Storing.{slot_fits, append_leaves, append_rests}
use Rattle.slot_store.proofs.store.SlotStore.append.Goals as goal

pub place-at-requires : goal.place-at-requires
place-at-requires g c =
    let used = ap (λ (store : JournalValue). store.used) c.self.view_is in
    let room = c.requires.room in
    omega (arith, used, room)

pub put_sized-size-requires : goal.put_sized-size-requires
put_sized-size-requires g c =
    let size = c.self.invariant.0 in
    let same = ap length c.as_mut_slice-room.ensures.value in
    let short = c.requires.fits in
    record { fits = short; room = omega (arith, size, same, short) }

pub open_gate-requires : goal.open_gate-requires
open_gate-requires g c =
    let used = ap (λ (store : JournalValue). store.used) c.self.view_is in
    let room = c.requires.room in
    let under : c.self.inside.used < c.args.self.now.slots = omega (arith, used, room) in
    let half : c.args.self.now.selector % 2 < 2 = omega arith in
    let fits = slot_fits c.args.self.now.slots (c.args.self.now.selector % 2) c.self.inside.used half under in
    let at = c.place-at.ensures in
    let size = c.requires.size in
    let short = c.requires.fits in
    let bytes = ap length c.put_sized-size.ensures.bytes in
    record { room = omega (arith, at, fits, size, short, bytes); small = omega arith }

pub slice_bounds-open_gate-end : goal.slice_bounds-open_gate-end
slice_bounds-open_gate-end g c =
    let bytes = ap length c.put_sized-size.ensures.bytes in
    let size = c.put_sized-size.ensures.size in
    omega (arith, bytes, size)

pub overflow_add-self : goal.overflow_add-self
overflow_add-self g c =
    let used = ap (λ (store : JournalValue). store.used) c.self.view_is in
    let slots = ap (λ (store : JournalValue). store.slots) c.self.view_is in
    let room = c.requires.room in
    omega (arith, used, slots, room)

pub invariant_of-self : goal.invariant_of-self
invariant_of-self g c =
    let used = ap (λ (store : JournalValue). store.used) c.self.view_is in
    let slots = ap (λ (store : JournalValue). store.slots) c.self.view_is in
    let room = c.requires.room in
    (grind (arith, elements), omega (arith, used, slots, room))

pub returns-in-Ok : goal.returns-in-Ok
returns-in-Ok g c =
    let at = c.place-at.ensures ∙ ap (λ (store : JournalValue). place_of c.args.self.now.slots (c.args.self.now.selector % 2) store.used) c.self.view_is in
    let same = c.in-Ok.ensures.cause.same in
    record {
      slot = ap (λ (store : JournalValue). store.used) c.self.view_is;
      next = ap (λ (store : JournalValue). record store { used = store.used + 1 }) c.self.view_is;
      same = tt;
      moments = λ digest records rests.
          append_leaves _ _ c.args.self.now digest records c.args.bytes.now c.place-at.result _ c.requires.room c.requires.fits at c.put_sized-size.ensures.bytes c.in-Ok.ensures.moments rests;
      rests = λ digest records rests.
          subst (λ (store : JournalValue). RestsWith (g.D.Disk.media c.open_gate.new.disk) (RepresentsRecords (record store { used = store.used + 1 }) digest (records ++ c.args.bytes.now ∷ []))) (sym c.self.view_is)
          (append_rests _ _ c.args.self.now digest records c.args.bytes.now c.place-at.result _ c.requires.room c.requires.fits at c.put_sized-size.ensures.bytes c.in-Ok.ensures.opened rests);
      extent = c.in-Ok.ensures.extent;
      cause = record { later = c.in-Ok.ensures.cause.later; same = same; rose = tt };
      beside = c.in-Ok.ensures.beside;
    }

pub returns-in-Err : goal.returns-in-Err
returns-in-Err g c =
    let at = c.place-at.ensures ∙ ap (λ (store : JournalValue). place_of c.args.self.now.slots (c.args.self.now.selector % 2) store.used) c.self.view_is in
    record {
      slot = tt;
      next = tt;
      same = c.self.view_is;
      moments = λ digest records rests.
          append_leaves _ _ c.args.self.now digest records c.args.bytes.now c.place-at.result _ c.requires.room c.requires.fits at c.put_sized-size.ensures.bytes c.in-Err.ensures.moments rests;
      rests = tt;
      extent = c.in-Err.ensures.extent;
      cause = record { later = c.in-Err.ensures.cause.later; same = tt; rose = c.in-Err.ensures.cause.rose };
      beside = c.in-Err.ensures.beside;
    }

pub invariant_of-self-in-Err : goal.invariant_of-self-in-Err
invariant_of-self-in-Err g c = (grind (arith, elements), c.self.invariant.1)
