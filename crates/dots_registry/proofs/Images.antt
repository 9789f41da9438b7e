-- What a crash leaves.
use Rattle.std.proofs.Common.{◌≡◌, ℕ, true, List, [], ◌∷◌, ◌++◌, map, Option, inl, inr, sym, ap, subst, ◌∙◌}
use Rattle.dots_settings.specs.Settings.{SettingsValue}
use Rattle.dots_history.specs.declared.entry.Entry.{Entry}
use Rattle.dots_host.specs.Media.{Media}
use Rattle.dots_host.specs.Becoming.{Leaves}
use Rattle.dots_history.specs.Keeping.{kept}
use Rattle.dots_history.specs.Slots.{Rises}
use Rattle.dots_history.proofs.CalmCuts.{calm_more, named_is_calm}
use Rattle.dots_history.specs.Filed.{Filed, slot_of}
use Rattle.dots_registry.specs.Kept.{filed, named_slots}
use Rattle.dots_registry.proofs.Numbering.{filed_rise}
use Rattle.dots_registry.specs.RegistryValues.{time_of, number_remembered}
use Rattle.dots_registry.specs.Filed.{RepresentsFiled}
use Rattle.slot_store.proofs.Steps.{begins, leaves_as}
use Rattle.slot_journal.specs.DiskEntries.{entries_at}
use Rattle.dots_registry.specs.LedgerValues.{LedgerValue, Represents, joins_at}
use Rattle.dots_registry.specs.Crashes.{HasEither, HasOne}
use Rattle.dots_registry.proofs.Slots.{named_there}
use Rattle.dots_registry.proofs.LedgerValues.{joins_entries, kept_with, later_of, kept_again}

-- the entries, or what the view names
pub compacting : (ledger : LedgerValue) (settings : SettingsValue) (history entries : List Entry) (e : Entry) (image : ℕ → ℕ) → Represents ledger settings history entries
    → HasOne settings entries (kept (number_remembered ledger.registry) (time_of ledger.registry) entries) image
    → HasEither settings (number_remembered ledger.registry) (time_of ledger.registry) history e image
compacting ledger settings history entries e image represents (inl old) = inl (record { entries = entries; image_has = old; calm = represents.calm; kept = represents.kept })
compacting ledger settings history entries e image represents (inr few) =
    inl (record {
      entries = kept (number_remembered ledger.registry) (time_of ledger.registry) entries;
      image_has = few;
      calm = named_is_calm settings (number_remembered ledger.registry) (time_of ledger.registry) entries represents.calm;
      kept = kept_again ledger settings history entries represents;
    })

-- the entries, or one more
pub appending : (ledger : LedgerValue) (settings : SettingsValue) (history entries : List Entry) (e : Entry) (image : ℕ → ℕ) → Represents ledger settings history entries
    → joins_at settings (time_of ledger.registry) history e ≡ true → HasOne settings entries (entries ++ e ∷ []) image
    → HasEither settings (number_remembered ledger.registry) (time_of ledger.registry) history e image
appending ledger settings history entries e image represents joins (inl old) = inl (record { entries = entries; image_has = old; calm = represents.calm; kept = represents.kept })
appending ledger settings history entries e image represents joins (inr more) =
    inr (record {
      entries = entries ++ e ∷ [];
      image_has = more;
      calm = calm_more settings entries e represents.calm (joins_entries ledger settings history entries e represents joins);
      kept = kept_with
          (number_remembered ledger.registry)
          (time_of ledger.registry)
          e
          entries
          history
          (later_of settings (time_of ledger.registry) history e joins)
          represents.kept;
    })

-- what the slots of a compaction hold
pub entries_kept : (ledger : LedgerValue) (settings : SettingsValue) (history entries : List Entry) (keep : List ℕ) → Represents ledger settings history entries
    → ((all : List Filed) → RepresentsFiled ledger.registry all → Rises (map slot_of all) → keep ≡ named_slots (number_remembered ledger.registry) (time_of ledger.registry) all)
    → entries_at entries keep ≡ kept (number_remembered ledger.registry) (time_of ledger.registry) entries
entries_kept ledger settings history entries keep represents named =
    ap (entries_at entries) (named (filed entries) represents.represents_filed (filed_rise entries))
    ∙ named_there (number_remembered ledger.registry) (time_of ledger.registry) entries

-- ---- over two calls

pub stays_left : (old new : Option Media) (P : (ℕ → ℕ) → Type 0) → new ≡ old → Leaves old new P
stays_left old new P same = subst (λ m. Leaves old m P) (sym same) (begins old P)

pub leaves_compacting : (old new : Option Media) (ledger : LedgerValue) (settings : SettingsValue) (history entries : List Entry) (e : Entry) → Represents ledger settings history entries
    → Leaves old new (HasOne settings entries (kept (number_remembered ledger.registry) (time_of ledger.registry) entries))
    → Leaves old new (HasEither settings (number_remembered ledger.registry) (time_of ledger.registry) history e)
leaves_compacting old new ledger settings history entries e represents =
    leaves_as
    old
    new
    (HasOne settings entries (kept (number_remembered ledger.registry) (time_of ledger.registry) entries))
    (HasEither settings (number_remembered ledger.registry) (time_of ledger.registry) history e)
    (λ image. compacting ledger settings history entries e image represents)

pub leaves_appending : (old new : Option Media) (ledger : LedgerValue) (settings : SettingsValue) (history entries : List Entry) (e : Entry) → Represents ledger settings history entries
    → joins_at settings (time_of ledger.registry) history e ≡ true → Leaves old new (HasOne settings entries (entries ++ e ∷ []))
    → Leaves old new (HasEither settings (number_remembered ledger.registry) (time_of ledger.registry) history e)
leaves_appending old new ledger settings history entries e represents joins =
    leaves_as
    old
    new
    (HasOne settings entries (entries ++ e ∷ []))
    (HasEither settings (number_remembered ledger.registry) (time_of ledger.registry) history e)
    (λ image. appending ledger settings history entries e image represents joins)
