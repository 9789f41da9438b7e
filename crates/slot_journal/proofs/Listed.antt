-- Records of lists of entries.
use Rattle.std.proofs.Common.{◌≡◌, ◌<◌, ℕ, zero, suc, List, [], ◌∷◌, ◌++◌, length, map, refl, sym, ap, subst, ◌∙◌, arith, Some}
use Rattle.std.specs.Prelude.{slice_get, slice_index_or, option_to_list}
use Rattle.std.specs.List.{AllByRecursion}
use Rattle.std.proofs.lemmas.List.{map-append}
use Rattle.slot_store.specs.declared.format.Format.{Format}
use Rattle.slot_store.specs.declared.format.Format.TheVariants.{One, Two}
use Rattle.slot_store.specs.Formats.{rewritten}
use Rattle.dots_history.specs.declared.entry.Entry.{Entry}
use Rattle.slot_journal.specs.Layout.{record_bytes}
use Rattle.slot_journal.proofs.Upgrades.{upgraded_is}
use Rattle.slot_store.specs.Copying.{AreSlots, kept_of}
use Rattle.slot_journal.specs.DiskEntries.{HasRecord, records_of, entries_at}

pub all_push : {A : Type 0} (P : A → Type 0) (xs : List A) (x : A) → AllByRecursion P xs → P x → AllByRecursion P (xs ++ x ∷ [])
all_push P [] x all here = (here, tt)
all_push P (y ∷ xs) x all here = (all.0, all_push P xs x all.1 here)

pub records_push : (format : Format) (entries : List Entry) (entry : Entry) (bytes : List ℕ) → bytes ≡ record_bytes format entry → records_of format entries ++ bytes ∷ [] ≡ records_of format (entries ++ entry ∷ [])
records_push format entries entry bytes is = ap (λ bytes. records_of format entries ++ bytes ∷ []) is ∙ sym (map-append (record_bytes format) entries (entry ∷ []))

-- the entry of a slot, and its record
pub record IsAt (format : Format) (entries : List Entry) (slot : ℕ) (entry : Entry) : Type 0 where
  pub there : slice_get entries slot ≡ Some entry
  pub bytes : slice_index_or (records_of format entries) slot [] ≡ record_bytes format entry
  pub has : HasRecord entry

entry_at : (format : Format) (entries : List Entry) (slot : ℕ) → slot < length entries → AllByRecursion HasRecord entries → (entry : Entry) × IsAt format entries slot entry
entry_at format [] slot under all = absurd (omega (arith, under))
entry_at format (entry ∷ entries) zero under all = (entry, record { there = refl; bytes = refl; has = all.0 })
entry_at format (entry ∷ entries) (suc slot) under all =
    let low : slot < length entries = omega (arith, under) in
    let rest = entry_at format entries slot low all.1 in
    (rest.0, record { there = rest.1.there; bytes = rest.1.bytes; has = rest.1.has })

-- a record is rewritten as that of its entry in the second format
rewritten_as : (format : Format) (entry : Entry) → HasRecord entry → rewritten format (record_bytes format entry) ≡ record_bytes Two entry
rewritten_as One entry has = upgraded_is entry has.typed has.within
rewritten_as Two entry has = refl

-- the kept records, rewritten, are those of the kept entries in the second format
pub record AreKept (format : Format) (entries : List Entry) (keep : List ℕ) : Type 0 where
  pub records : map (rewritten format) (kept_of (records_of format entries) keep) ≡ records_of Two (entries_at entries keep)
  pub each : AllByRecursion HasRecord (entries_at entries keep)

pub are_kept : (format : Format) (entries : List Entry) (keep : List ℕ) → AreSlots (length entries) keep → AllByRecursion HasRecord entries → AreKept format entries keep
are_kept format entries [] are all = record { records = refl; each = tt }
are_kept format entries (slot ∷ keep) are all =
    let none : 0 < length (slot ∷ keep) = omega arith in
    let first = entry_at format entries slot (are 0 none) all in
    let rest = are_kept format entries keep (λ index low. are (suc index) (omega (arith, low))) all in
    let there : entries_at entries (slot ∷ keep) ≡ first.0 ∷ entries_at entries keep = ap (λ found. option_to_list found ++ entries_at entries keep) first.1.there in
    record {
      records =
          ap (λ bytes. rewritten format bytes ∷ map (rewritten format) (kept_of (records_of format entries) keep)) first.1.bytes
          ∙ ap (λ bytes. bytes ∷ map (rewritten format) (kept_of (records_of format entries) keep)) (rewritten_as format first.0 first.1.has)
          ∙ ap (λ records. record_bytes Two first.0 ∷ records) rest.records
          ∙ ap (records_of Two) (sym there);
      each = subst (AllByRecursion HasRecord) (sym there) (first.1.has, rest.each);
    }
