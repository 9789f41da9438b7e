use Rattle.std.proofs.Common.{◌∙◌, ap, sym, subst, ℕ, ◌%◌, length, map, arith}
use Rattle.std.proofs.lemmas.Grind.{elements}
use Rattle.dots_host.specs.Becoming.{Leaves, RestsWith}
use Rattle.slot_store.specs.declared.format.Format.TheVariants.{Two}
use Rattle.slot_store.specs.Formats.{rewritten}
use Rattle.slot_store.specs.Opening.{Is}
use Rattle.slot_store.specs.StoreValues.{RepresentsRecords, JournalValue}
use Rattle.slot_store.specs.Copying.{IsMoving, IsMoved, kept_of, other_selector}
use Rattle.slot_store.proofs.Compacting.{compact_leaves, compact_rests}
use Rattle.slot_store.proofs.store.SlotStore.compact.Goals as goal

pub move_half-requires : goal.move_half-requires
move_half-requires g c =
    let slots = ap (λ (store : JournalValue). store.slots) c.self.view_is in
    let used = ap (λ (store : JournalValue). store.used) c.self.view_is in
    let size = c.requires.size in
    let within = c.self.invariant.1 in
    let room = c.self.invariant.0 in
    let same = ap length c.as_mut_slice-room.ensures.value in
    record {
      size = omega (arith, slots, size);
      keep = λ slot inside. let under = c.requires.keep slot inside in omega (arith, under, used, within);
      room = same ∙ room;
    }

pub overflow_cast-self : goal.overflow_cast-self
overflow_cast-self g c =
    let slots = ap (λ (store : JournalValue). store.slots) c.self.view_is in
    let few = c.requires.few in
    omega (arith, slots, few)

pub invariant_of-self : goal.invariant_of-self
invariant_of-self g c =
    let slots = ap (λ (store : JournalValue). store.slots) c.self.view_is in
    let few = c.requires.few in
    (grind (arith, elements), omega (arith, slots, few))

pub returns-in-Ok : goal.returns-in-Ok
returns-in-Ok g c =
    let next = ap (λ (store : JournalValue). record store { selector = other_selector store.selector; used = length c.args.keep.now; format = Two }) c.self.view_is in
    let chosen = ap (λ (selector : ℕ). record { slots = c.self.inside.slots; selector = selector; used = length c.args.keep.now; format = Two }) c.other_selector-selector.ensures in
    let moved = subst (λ (store : JournalValue). (seen : ℕ → ℕ) → RestsWith (g.D.Disk.media c.args.disk.now) (Is seen) → RestsWith (g.D.Disk.media c.move_half.new.disk) (IsMoved store.slots (store.selector % 2) store.format c.args.keep.now seen (other_selector store.selector)))
    c.self.view_is c.in-Ok.ensures.moved in
    record {
      next = chosen ∙ next;
      same = tt;
      moments = λ digest records rests.
          compact_leaves _ _ c.args.self.now digest records c.args.keep.now c.requires.few c.requires.keep
          (subst (λ (store : JournalValue). (seen : ℕ → ℕ) → RestsWith (g.D.Disk.media c.args.disk.now) (Is seen) → Leaves (g.D.Disk.media c.args.disk.now) (g.D.Disk.media c.move_half.new.disk) (IsMoving store.slots (store.selector % 2) store.format c.args.keep.now seen))
          c.self.view_is c.in-Ok.ensures.moments) rests;
      rests = λ digest records rests.
          subst (λ (store : JournalValue). RestsWith (g.D.Disk.media c.move_half.new.disk) (RepresentsRecords store digest (map (rewritten c.args.self.now.format) (kept_of records c.args.keep.now)))) (sym (chosen ∙ next))
          (compact_rests _ _ c.args.self.now digest records c.args.keep.now c.requires.few c.requires.keep moved rests);
      extent = c.in-Ok.ensures.extent;
      cause = record { later = c.in-Ok.ensures.cause.later; same = c.in-Ok.ensures.cause.same; rose = tt };
      beside = c.in-Ok.ensures.beside;
    }

pub returns-in-Err : goal.returns-in-Err
returns-in-Err g c = record {
  next = tt;
  same = c.self.view_is;
  moments = λ digest records rests.
      compact_leaves _ _ c.args.self.now digest records c.args.keep.now c.requires.few c.requires.keep
      (subst (λ (store : JournalValue). (seen : ℕ → ℕ) → RestsWith (g.D.Disk.media c.args.disk.now) (Is seen) → Leaves (g.D.Disk.media c.args.disk.now) (g.D.Disk.media c.move_half.new.disk) (IsMoving store.slots (store.selector % 2) store.format c.args.keep.now seen))
      c.self.view_is c.in-Err.ensures.moments) rests;
  rests = tt;
  extent = c.in-Err.ensures.extent;
  cause = record { later = c.in-Err.ensures.cause.later; same = tt; rose = c.in-Err.ensures.cause.rose };
  beside = c.in-Err.ensures.beside;
}

pub invariant_of-self-in-Err : goal.invariant_of-self-in-Err
invariant_of-self-in-Err g c = (grind (arith, elements), c.self.invariant.1)
