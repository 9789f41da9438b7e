-- Entries in the slots of their places.
use Rattle.std.proofs.Common.{◌≡◌, ℕ, zero, suc, ◌+◌, ◌<◌, List, [], ◌∷◌, ◌++◌, length, map, get_or, Some, refl, sym, ap, subst, ◌∙◌, append_assoc, arith}
use Rattle.std.specs.Prelude.{slice_get, option_to_list}
use Rattle.std.proofs.lemmas.List.{length-map}
use Rattle.dots_history.specs.declared.entry.Entry.{Entry}
use Rattle.dots_history.specs.Histories.{Mitigation}
use Rattle.dots_history.specs.Keeping.{names, pass, kept}
use Rattle.dots_history.proofs.Keeping.{Keeper}
use Rattle.dots_history.specs.Filed.{Filed, entry_of, slot_of}
use Rattle.dots_registry.specs.Kept.{filed_kept_by, filed_kept, named_slots, filed_from, filed}
use Rattle.dots_registry.proofs.Staying.{by_first, kept_entries}
use Rattle.dots_registry.proofs.Numbering.{named_are, filed_entries}
use Rattle.slot_store.specs.Copying.{AreSlots}
use Rattle.slot_journal.specs.DiskEntries.{entries_at}

-- each stands at its place among these entries
abbrev Stand : List Entry → List Filed → Type 0
Stand entries [] = Unit {0}
Stand entries (x ∷ later) = (slice_get entries x.slot ≡ Some x.entry) × (x.slot < length entries) × Stand entries later

at_middle : (before : List Entry) (at : ℕ) (e : Entry) (later : List Entry) → at ≡ length before → slice_get (before ++ e ∷ later) at ≡ Some e
at_middle [] zero e later same = refl
at_middle [] (suc k) e later same = absurd (omega (arith, same))
at_middle (x ∷ before) zero e later same = absurd (omega (arith, same))
at_middle (x ∷ before) (suc k) e later same = at_middle before k e later (omega (arith, same))

length_more : (before : List Entry) (e : Entry) → length (before ++ e ∷ []) ≡ length before + 1
length_more [] e = omega arith
length_more (x ∷ before) e = let rest = length_more before e in omega (arith, rest)

below_all : (before : List Entry) (e : Entry) (later : List Entry) → length before < length (before ++ e ∷ later)
below_all [] e later = omega arith
below_all (x ∷ before) e later = let rest = below_all before e later in omega (arith, rest)

filed_there : (before later : List Entry) (at : ℕ) → at ≡ length before → Stand (before ++ later) (filed_from at later)
filed_there before [] at same = record {}
filed_there before (e ∷ later) at same =
    let long = length_more before e in
    let inside = below_all before e later in (
      at_middle before at e later same,
      omega (arith, same, inside),
      subst
          (λ all. Stand all (filed_from (at + 1) later))
          (append_assoc before (e ∷ []) later)
          (filed_there (before ++ e ∷ []) later (at + 1) (omega (arith, same, long))),
    )

kept_there_by : (keep : Keeper) (passed : List Mitigation) (entries : List Entry) (all : List Filed) → Stand entries all → Stand entries (filed_kept_by keep passed all)
kept_there_by keep passed entries [] stand = record {}
kept_there_by keep passed entries (x ∷ later) stand =
    let go = kept_there_by keep (pass passed x.entry) entries later stand.2 in
    by_first keep passed x later (Stand entries) (λ is. (stand.0, stand.1, go)) (λ out. go)

named_are_there : (n t : ℕ) (entries : List Entry) → Stand entries (filed_kept n t (filed entries))
named_are_there n t entries = kept_there_by (names n t) [] entries (filed entries) (filed_there [] entries 0 (omega arith))

-- ---- the slots are places of the entries
below_at : (entries : List Entry) (all : List Filed) (index : ℕ) → Stand entries all → index < length (map slot_of all) → get_or (map slot_of all) index 0 < length entries
below_at entries [] index stand less = absurd (omega (arith, less))
below_at entries (x ∷ later) zero stand less = stand.1
below_at entries (x ∷ later) (suc index) stand less = below_at entries later index stand.2 (omega (arith, less))

pub named_below : (n t : ℕ) (entries : List Entry) → AreSlots (length entries) (named_slots n t (filed entries))
named_below n t entries =
    subst
    (AreSlots (length entries))
    (sym (named_are n t (filed entries)))
    (λ index less. below_at entries (filed_kept n t (filed entries)) index (named_are_there n t entries) less)

-- ---- and what stands there is what is kept
there : (entries : List Entry) (all : List Filed) → Stand entries all → entries_at entries (map slot_of all) ≡ map entry_of all
there entries [] stand = refl
there entries (x ∷ later) stand =
    ap (λ o. option_to_list o ++ entries_at entries (map slot_of later)) stand.0 ∙ ap (λ es. x.entry ∷ es) (there entries later stand.2)

pub named_there : (n t : ℕ) (entries : List Entry) → entries_at entries (named_slots n t (filed entries)) ≡ kept n t entries
named_there n t entries =
    ap (entries_at entries) (named_are n t (filed entries))
    ∙ there entries (filed_kept n t (filed entries)) (named_are_there n t entries)
    ∙ kept_entries (names n t) [] (filed entries)
    ∙ ap (kept n t) (filed_entries entries)

pub named_many : (n t : ℕ) (entries : List Entry) → length (named_slots n t (filed entries)) ≡ length (kept n t entries)
named_many n t entries =
    ap length (named_are n t (filed entries))
    ∙ length-map (filed_kept n t (filed entries)) slot_of
    ∙ sym (length-map (filed_kept n t (filed entries)) entry_of)
    ∙ ap length (kept_entries (names n t) [] (filed entries))
    ∙ ap (λ es. length (kept n t es)) (filed_entries entries)
