-- Entries that are picked by their slots.
use Rattle.std.proofs.Common.{◌≡◌, ℕ, ◌+◌, suc, Bool, true, false, cond, List, [], ◌∷◌, ◌++◌, map, length, refl, sym, ap, ◌∙◌, subst, arith}
use Rattle.std.specs.List.{AllByRecursion}
use Rattle.dots_settings.specs.Settings.{SettingsValue}
use Rattle.dots_history.specs.declared.entry.Entry.{Entry}
use Rattle.dots_history.specs.Filed.{Filed}
use Rattle.slot_journal.specs.DiskEntries.{HasRecord}
use Rattle.host_checks.specs.declared.kept_entry.KeptEntry.{KeptEntry}
use Rattle.host_checks.specs.KeptEntries.{is_one_of, picked, judged, IsBounded}

abbrev pub listed : SettingsValue → SettingsValue → List ℕ → ℕ → List Entry → List KeptEntry
listed old new keep slot entries = map (judged old new) (picked keep slot entries)

pub picked_push : (old new : SettingsValue) (keep : List ℕ) (slot at : ℕ) (xs : List Entry) (e : Entry) → at ≡ slot + length xs
    → listed old new keep slot xs ++ listed old new keep at (e ∷ []) ≡ listed old new keep slot (xs ++ e ∷ [])
picked_push old new keep slot at [] e same =
    let here : at ≡ slot = omega (arith, same) in ap (λ n. listed old new keep n (e ∷ [])) here
picked_push old new keep slot at (x ∷ xs) e same =
    by_test
    (is_one_of keep slot)
    (judged old new (record { entry = x; slot = slot }))
    (picked keep (slot + 1) xs)
    (picked keep (slot + 1) (xs ++ e ∷ []))
    (picked_push old new keep (slot + 1) at xs e (omega (arith, same)))
  where
    by_test : (b : Bool) (k : KeptEntry) (few all : List Filed) → map (judged old new) few ++ listed old new keep at (e ∷ []) ≡ map (judged old new) all
        → map (judged old new) (cond b (record { entry = x; slot = slot } ∷ few) few) ++ listed old new keep at (e ∷ []) ≡ map (judged old new) (cond b (record { entry = x; slot = slot } ∷ all) all)
    by_test true k few all is = ap (λ rest. judged old new (record { entry = x; slot = slot }) ∷ rest) is
    by_test false k few all is = is

pub picked_bounded : (old new : SettingsValue) (keep : List ℕ) (slot : ℕ) (entries : List Entry) → AllByRecursion HasRecord entries → AllByRecursion IsBounded (listed old new keep slot entries)
picked_bounded old new keep slot [] each = record {}
picked_bounded old new keep slot (e ∷ later) each =
    by_test (is_one_of keep slot) (picked keep (slot + 1) later) (picked_bounded old new keep (slot + 1) later each.1)
  where
    by_test : (b : Bool) (rest : List Filed) → AllByRecursion IsBounded (map (judged old new) rest)
        → AllByRecursion IsBounded (map (judged old new) (cond b (record { entry = e; slot = slot } ∷ rest) rest))
    by_test true rest all = (each.0.within, all)
    by_test false rest all = all
