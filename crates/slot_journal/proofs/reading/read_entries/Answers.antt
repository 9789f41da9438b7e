use Rattle.std.proofs.Common.{sym, ap, subst, ◌∙◌, ◌%◌, arith, ◌≡◌, ◌+◌, ◌<◌, length}
use Rattle.std.proofs.lemmas.List.{length_push}
use Rattle.std.proofs.lemmas.Result.{err_from_is_err_and}
use Rattle.std.specs.List.{AllByRecursion}
use Rattle.slot_store.specs.Layout.{place_of, IsSlot}
use Rattle.slot_store.proofs.DiskReading.{reads_then, sees_unchanged}
use Rattle.slot_journal.specs.Layout.{record_bytes}
use Rattle.slot_journal.specs.DiskEntries.{HasRecord}
use Rattle.slot_journal.specs.Refused.{HasFirst}
use Rattle.slot_journal.proofs.Listed.{all_push}
use Rattle.slot_journal.proofs.Halves.{has_one_more, bad_slot, slot_within}
use Rattle.slot_journal.proofs.reading.read_entries.Goals as goal

pub read_entry-requires : goal.read_entry-requires
read_entry-requires g c = rw (c.place.ensures, c.loop-slot.invariant.extent) (slot_within c.args.store.now.slots c.args.store.now.selector c.loop-slot.slot (g.D.Disk.extent c.args.disk.now) c.requires.size (omega arith))

pub returns-in_err-entry-clause-refused : goal.returns-in_err-entry-clause-refused
returns-in_err-entry-clause-refused g c =
    let p = err_from_is_err_and c.from_residual.result c.from_residual.ensures.1 in
    rw (p.1, p.2) (λ seen sees count.
    let under : length c.loop-slot.entries < c.args.store.now.used = omega arith in
    bad_slot c.args.store.now.slots (c.args.store.now.selector % 2) c.args.store.now.used c.args.store.now.format seen c.loop-slot.entries c.place.result _ count under
    (c.place.ensures ∙ ap (λ slot. place_of c.args.store.now.slots (c.args.store.now.selector % 2) slot) (sym c.loop-slot.invariant.count)) (c.loop-slot.invariant.filled seen sees count) c.loop-slot.invariant.each
    (rw (c.format.ensures) at (c.in_err-entry.ensures.refused seen (sees_unchanged _ _ seen c.loop-slot.invariant.keeps sees))))

pub returns-in_err-entry-clause-sized : goal.returns-in_err-entry-clause-sized
returns-in_err-entry-clause-sized g c =
    let p = err_from_is_err_and c.from_residual.result c.from_residual.ensures.1 in
    rw (p.1, p.2) c.in_err-entry.ensures.sized

pub returns-in_err-entry-clause-keeps : goal.returns-in_err-entry-clause-keeps
returns-in_err-entry-clause-keeps g c = reads_then _ _ _ c.loop-slot.invariant.keeps c.in_err-entry.ensures.keeps

pub returns-in_err-entry-clause-beside : goal.returns-in_err-entry-clause-beside
returns-in_err-entry-clause-beside g c = g.met.D.Disk.beside_then _ _ _ c.loop-slot.invariant.beside c.in_err-entry.ensures.beside

pub returns-in_err-push-clause-keeps : goal.returns-in_err-push-clause-keeps
returns-in_err-push-clause-keeps g c = reads_then _ _ _ c.loop-slot.invariant.keeps c.in_ok-entry.ensures.keeps

pub returns-in_err-push-clause-beside : goal.returns-in_err-push-clause-beside
returns-in_err-push-clause-beside g c = g.met.D.Disk.beside_then _ _ _ c.loop-slot.invariant.beside c.in_ok-entry.ensures.beside

pub loop-slot-preserved : goal.loop-slot-preserved
loop-slot-preserved g c = record {
  keeps = reads_then _ _ _ c.loop-slot.invariant.keeps c.in_ok-entry.ensures.keeps;
  extent = c.in_ok-entry.ensures.extent ∙ c.loop-slot.invariant.extent;
  faults = c.in_ok-entry.ensures.cause ∙ c.loop-slot.invariant.faults;
  beside = g.met.D.Disk.beside_then _ _ _ c.loop-slot.invariant.beside c.in_ok-entry.ensures.beside;
  count = ap length c.in_ok-push.ensures.ok ∙ length_push c.loop-slot.entries c.in_ok-entry.entry ∙ ap (λ n. n + 1) c.loop-slot.invariant.count;
  each = subst (AllByRecursion HasRecord) (sym c.in_ok-push.ensures.ok) (all_push HasRecord c.loop-slot.entries c.in_ok-entry.entry c.loop-slot.invariant.each c.in_ok-entry.ensures.record);
  filled = λ seen sees count.
      let under : c.loop-slot.slot < c.args.store.now.used = omega arith in
      let here : c.place.result ≡ place_of c.args.store.now.slots (c.args.store.now.selector % 2) (length c.loop-slot.entries) = c.place.ensures ∙ ap (λ slot. place_of c.args.store.now.slots (c.args.store.now.selector % 2) slot) (sym c.loop-slot.invariant.count) in
      subst (HasFirst c.args.store.now.slots (c.args.store.now.selector % 2) c.args.store.now.format seen) (sym c.in_ok-push.ensures.ok)
      (has_one_more c.args.store.now.slots (c.args.store.now.selector % 2) c.args.store.now.format seen c.loop-slot.entries c.in_ok-entry.entry (c.loop-slot.invariant.filled seen sees count)
      (subst (λ place. IsSlot seen place (record_bytes c.args.store.now.format c.in_ok-entry.entry)) here
      (rw (c.format.ensures) at (c.in_ok-entry.ensures.entry seen (sees_unchanged _ _ seen c.loop-slot.invariant.keeps sees) (ap seen c.place.ensures ∙ count.gates c.loop-slot.slot under)))));
}
