-- The entries that stand in the slots that a view names are those that it names.
use Rattle.std.proofs.Common.{◌≡◌, ℕ, ◌+◌, ◌≤◌, ◌<◌, Bool, true, false, cond, ◌||◌, List, [], ◌∷◌, map, refl, sym, ap, ◌∙◌, subst, le_refl, arith}
use Rattle.std.specs.Prelude.{◌==◌}
use Rattle.std.proofs.lemmas.Bool.{or_from, or_left, eq-eqb, ne_eqb}
use Rattle.dots_settings.specs.Settings.{SettingsValue}
use Rattle.dots_history.specs.declared.entry.Entry.{Entry}
use Rattle.dots_history.specs.Filed.{Filed, entry_of, slot_of}
use Rattle.dots_history.specs.Fits.{last_time, is_calm}
use Rattle.dots_history.specs.Histories.{Mitigation, Within}
use Rattle.dots_history.specs.Keeping.{names, pass, kept}
use Rattle.dots_history.proofs.CalmCuts.{calm_at_end}
use Rattle.dots_history.proofs.Keeping.{Keeper, kept_within}
use Rattle.dots_registry.specs.Kept.{filed_kept_by, filed_kept, named_slots, filed_from, filed}
use Rattle.dots_registry.proofs.Numbering.{named_are, filed_entries}
use Rattle.dots_registry.proofs.Staying.{by_first, kept_entries}
use Rattle.host_checks.specs.KeptEntries.{is_one_of, picked}

-- a slot before the first is none of theirs
none_before : (test : Keeper) (passed : List Mitigation) (k slot : ℕ) (entries : List Entry) → k < slot
    → is_one_of (map slot_of (filed_kept_by test passed (filed_from slot entries))) k ≡ false
none_before test passed k slot [] less = refl
none_before test passed k slot (e ∷ later) less =
    let go = none_before test (pass passed e) k (slot + 1) later (omega (arith, less)) in
    by_first
    test
    passed
    (record { entry = e; slot = slot })
    (filed_from (slot + 1) later)
    (λ xs. is_one_of (map slot_of xs) k ≡ false)
    (λ is.
    or_from
    (slot == k)
    (is_one_of (map slot_of (filed_kept_by test (pass passed e) (filed_from (slot + 1) later))) k)
    (ne_eqb slot k (λ same. omega (arith, less, same)))
    go)
    (λ out. go)

-- the same of both lists from this slot on
abbrev SameFrom : ℕ → List ℕ → List ℕ → Type 0
SameFrom slot keep slots = (k : ℕ) → slot ≤ k → is_one_of keep k ≡ is_one_of slots k

picked_by : (test : Keeper) (passed : List Mitigation) (keep : List ℕ) (slot : ℕ) (entries : List Entry)
    → SameFrom slot keep (map slot_of (filed_kept_by test passed (filed_from slot entries))) → picked keep slot entries ≡ filed_kept_by test passed (filed_from slot entries)
picked_by test passed keep slot [] same = refl
picked_by test passed keep slot (e ∷ later) same =
    by_test
    (test passed e (map entry_of (filed_from (slot + 1) later)))
    (record { entry = e; slot = slot })
    (picked keep (slot + 1) later)
    (filed_kept_by test (pass passed e) (filed_from (slot + 1) later))
    refl
    same
    (picked_by test (pass passed e) keep (slot + 1) later)
    (none_before test (pass passed e) slot (slot + 1) later (omega arith))
  where
    by_test : (b : Bool) (x : Filed) (few rest : List Filed) → x.slot ≡ slot → SameFrom slot keep (map slot_of (cond b (x ∷ rest) rest))
        → (SameFrom (slot + 1) keep (map slot_of rest) → few ≡ rest) → is_one_of (map slot_of rest) slot ≡ false
        → cond (is_one_of keep slot) (x ∷ few) few ≡ cond b (x ∷ rest) rest
    by_test true x few rest at same go none =
        ap (λ c. cond c (x ∷ few) few) (same slot (le_refl slot) ∙ or_left (x.slot == slot) (is_one_of (map slot_of rest) slot) (eq-eqb x.slot slot at))
        ∙ ap
        (λ xs. x ∷ xs)
        (go (λ k less. same k (omega (arith, less)) ∙ ap (λ c. c || is_one_of (map slot_of rest) k) (ne_eqb x.slot k (λ is. omega (arith, less, is, at)))))
    by_test false x few rest at same go none =
        ap (λ c. cond c (x ∷ few) few) (same slot (le_refl slot) ∙ none) ∙ go (λ k less. same k (omega (arith, less)))

pub named_picked : (n t : ℕ) (entries : List Entry) → picked (named_slots n t (filed entries)) 0 entries ≡ filed_kept n t (filed entries)
named_picked n t entries =
    ap (λ keep. picked keep 0 entries) (named_are n t (filed entries))
    ∙ picked_by (names n t) [] (map slot_of (filed_kept n t (filed entries))) 0 entries (λ k less. refl)

pub kept_of_filed : (n t : ℕ) (entries : List Entry) → map entry_of (filed_kept n t (filed entries)) ≡ kept n t entries
kept_of_filed n t entries = kept_entries (names n t) [] (filed entries) ∙ ap (kept n t) (filed_entries entries)

-- their times don't fall
pub named_times : (settings : SettingsValue) (n t : ℕ) (entries : List Entry) → is_calm settings entries ≡ true → last_time entries ≤ t
    → Within 0 (map entry_of (filed_kept n t (filed entries))) t
named_times settings n t entries calm less =
    subst (λ es. Within 0 es t) (sym (kept_of_filed n t entries)) (kept_within (names n t) [] 0 t entries (calm_at_end settings t entries calm less).times)
