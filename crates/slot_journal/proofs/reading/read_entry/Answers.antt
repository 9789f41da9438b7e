use Rattle.std.proofs.Common.{◌≡◌, ◌+◌, ◌-◌, ℕ, refl, ap, arith, length, take, drop}
use Rattle.slot_store.specs.Gates.{Sees}
use Rattle.slot_store.specs.Layout.{IsSlot}
use Rattle.slot_store.proofs.OpenLemmas.{if_ok_as, if_err_as}
use Rattle.slot_journal.specs.Layout.{record_bytes}
use Rattle.slot_journal.specs.DiskEntries.{HasRecord}
use Rattle.slot_journal.specs.Refused.{RefusesSlot}
use Rattle.slot_journal.proofs.Halves.{entry_found, read_refused, stray_long}
use Rattle.slot_journal.proofs.reading.read_entry.Goals as goal

pub returns-in-Ok-None-clause-refused : goal.returns-in-Ok-None-clause-refused
returns-in-Ok-None-clause-refused g c = λ seen sees. (refl, stray_long c.args.format seen c.args.at c.read_slot.new.room (rw c.in-Ok-None.field-0-is at (c.in-Ok-None.ensures.record seen sees)))

pub returns-in-Ok-Some-clause-record : goal.returns-in-Ok-Some-clause-record
returns-in-Ok-Some-clause-record g c = if_ok_as c.entry_in.result _ HasRecord (λ entry is. is.0) c.entry_in.ensures.entry

pub returns-in-Ok-Some-clause-entry : goal.returns-in-Ok-Some-clause-entry
returns-in-Ok-Some-clause-entry g c =
    let size : c.in-Ok-Some.len ≡ 3 + c.in-Ok-Some.len - 3 = omega arith in
    let whole : length c.read_slot.new.room ≡ 8192 = omega arith in
    if_ok_as c.entry_in.result _ (λ entry. (seen : ℕ → ℕ) → Sees (g.D.Disk.media c.args.disk.now) seen → seen c.args.at ≡ 165 → IsSlot seen c.args.at (record_bytes c.args.format entry))
    (λ entry is seen sees gate. entry_found c.args.format seen c.args.at c.read_slot.new.room c.in-Ok-Some.len _ entry (rw c.in-Ok-Some.field-0-is at (c.in-Ok-Some.ensures.record seen sees)) gate whole (ap (λ n. take n (drop 3 c.read_slot.new.room)) size) is.1) c.entry_in.ensures.entry

pub returns-in-Ok-Some-clause-refused : goal.returns-in-Ok-Some-clause-refused
returns-in-Ok-Some-clause-refused g c =
    let size : c.in-Ok-Some.len ≡ 3 + c.in-Ok-Some.len - 3 = omega arith in
    let whole : length c.read_slot.new.room ≡ 8192 = omega arith in
    if_err_as c.entry_in.result _ (λ fault. (seen : ℕ → ℕ) → Sees (g.D.Disk.media c.args.disk.now) seen → RefusesSlot c.args.format seen c.args.at fault)
    (λ fault none seen sees. read_refused c.args.format seen c.args.at c.read_slot.new.room c.in-Ok-Some.len _ fault (rw c.in-Ok-Some.field-0-is at (c.in-Ok-Some.ensures.record seen sees)) whole (ap (λ n. take n (drop 3 c.read_slot.new.room)) size) none) c.entry_in.ensures.refused
