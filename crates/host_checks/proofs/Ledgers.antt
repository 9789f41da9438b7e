-- What is taken by a ledger.
use Rattle.std.proofs.Common.{◌≡◌, ℕ, List, [], Option, Some, ◌≤◌, max, le_refl, sym, ap, ◌∙◌, subst, true, false, ◌&&◌}
use Rattle.std.specs.Prelude.{Result, Ok, Err, OnOk, nat_le}
use Rattle.dots_host.specs.Media.{Media, byte_of, blank}
use Rattle.dots_host.specs.Becoming.{RestsWith}
use Rattle.dots_settings.specs.Settings.{SettingsValue}
use Rattle.dots_history.specs.declared.entry.Entry.{Entry}
use Rattle.dots_history.specs.Bounds.{within_bounds}
use Rattle.dots_history.specs.Fits.{joins, last_time}
use Rattle.std.proofs.lemmas.Bool.{and_from, and_parts, le-leb}
use Rattle.slot_store.proofs.Steps.{rests_as}
use Rattle.slot_journal.specs.DiskEntries as journal
use Rattle.slot_journal.proofs.Crashing.{one_history, zeros_have_nothing, represents_has}
use Rattle.dots_registry.specs.Beginning.{HasBegun, joins_now}
use Rattle.dots_registry.specs.RegistryValues.{RegistryValue, time_of}
use Rattle.dots_registry.specs.LedgerValues.{LedgerValue, Represents, joins_at}
use Rattle.dots_registry.proofs.Recovering.{joined}
use Rattle.host_checks.specs.Making.{HasTaken, HasTakenSome, HasCalm}

-- a ledger of a disk of zeros has nothing
pub begun_blank : (settings : SettingsValue) (old : Media) (new : Option Media) (ledger : LedgerValue) → old ≡ blank [] → HasBegun settings 0 (Some old) new ledger
    → HasTaken settings [] ledger new × (time_of ledger.registry ≡ 0)
begun_blank settings old new ledger zeros begun =
    let seen : old.now.seen ≡ byte_of [] = ap (λ (media : Media). media.now.seen) zeros in
    let none : begun.entries ≡ [] = one_history settings (byte_of []) begun.entries [] (begun.stored (byte_of []) seen) (zeros_have_nothing settings) in (
      record {
        few = [];
        represents = subst (λ es. Represents ledger settings es es) none begun.represents;
        rests = subst (λ es. RestsWith new (journal.Represents ledger.journal settings es)) none (begun.rests (byte_of []) seen);
      },
      begun.time ∙ ap (λ es. max 0 (last_time es)) none,
    )

pub still_taken : (settings : SettingsValue) (history : List Entry) (old new : LedgerValue) (media : Option Media) → new.journal ≡ old.journal
    → ((few : List Entry) → Represents old settings history few → Represents new settings history few) → HasTaken settings history old media → HasTaken settings history new media
still_taken settings history old new media same goes taken = record {
  few = taken.few;
  represents = goes taken.few taken.represents;
  rests = subst (λ j. RestsWith media (journal.Represents j settings taken.few)) (sym same) taken.rests;
}

pub on_ok_always : {A E P : Type 0} (result : Result A E) → P → OnOk result P
on_ok_always (Ok x) is = is
on_ok_always (Err fault) is = tt

pub on_ok_then : {A E P R : Type 0} (result : Result A E) → (P → R) → OnOk result P → OnOk result R
on_ok_then (Ok x) goes is = goes is
on_ok_then (Err fault) goes is = tt

pub on_ok_both : {A E P Q R : Type 0} (result : Result A E) → (P → Q → R) → OnOk result P → OnOk result Q → OnOk result R
on_ok_both (Ok x) goes is also = goes is also
on_ok_both (Err fault) goes is also = tt

-- what joins at a time joins
pub joins_of : (settings : SettingsValue) (t : ℕ) (history : List Entry) (e : Entry) → joins_at settings t history e ≡ true → joins settings history e ≡ true
joins_of settings t history e is =
    (and_parts (nat_le t e.time) (joins settings history e) (and_parts (within_bounds e) (nat_le t e.time && joins settings history e) is).1).1

-- what joins the tables joins the history of which they are
pub joins_then : (settings : SettingsValue) (r : RegistryValue) (history : List Entry) (e : Entry) → time_of r ≡ e.time → within_bounds e ≡ true → joins_now settings r history e ≡ true
    → joins_at settings (time_of r) history e ≡ true
joins_then settings r history e at within is =
    and_from
    (within_bounds e)
    (nat_le (time_of r) e.time && joins settings history e)
    within
    (and_from (nat_le (time_of r) e.time) (joins settings history e) (le-leb (time_of r) e.time (subst (λ t. time_of r ≤ t) at (le_refl (time_of r)))) (sym (joined settings r history e at within) ∙ is))

pub joins_not : (settings : SettingsValue) (r : RegistryValue) (history : List Entry) (e : Entry) → time_of r ≡ e.time → within_bounds e ≡ true → joins_now settings r history e ≡ false
    → joins settings history e ≡ false
joins_not settings r history e at within out = sym (joined settings r history e at within) ∙ out

-- the disk of a ledger has calm entries
pub taken_calm : (settings : SettingsValue) (ledger : LedgerValue) (media : Option Media) → HasTakenSome settings ledger media → RestsWith media (HasCalm settings)
taken_calm settings ledger media some =
    rests_as
    media
    (journal.Represents ledger.journal settings some.taken.few)
    (HasCalm settings)
    (λ image is. record { entries = some.taken.few; image_has = represents_has ledger.journal settings some.taken.few image is; calm = some.taken.represents.calm })
    some.taken.rests
