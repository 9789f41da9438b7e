-- What becomes of mitigations with their slots becomes of the mitigations, and of the slots beside them.
use Rattle.std.proofs.Common.{◌≡◌, ℕ, zero, suc, ◌+◌, ◌<◌, Bool, true, false, cond, not, ◌||◌, List, [], ◌∷◌, ◌++◌, map, filter, length, get_or, set, Option, Some, None, refl, sym, ap, subst, ◌∙◌}
use Rattle.std.specs.Prelude.{◌==◌, slice_get, option_map, option_to_list}
use Rattle.std.specs.List.{list_any, position, position_or_len}
use Rattle.std.proofs.lemmas.Bool.{cond-false}
use Rattle.std.proofs.lemmas.List.{length-map, get_or-map}
use Rattle.std.proofs.lemmas.Option.{slice_get-map}
use Rattle.dots_history.specs.declared.entry.Entry.{Entry}
use Rattle.dots_history.specs.declared.status.Status.TheVariants.{Open}
use Rattle.dots_history.specs.Entries.{put_of, runs}
use Rattle.dots_history.specs.Histories.{Mitigation, live}
use Rattle.dots_history.specs.Keeping.{moved}
use Rattle.dots_history.specs.Filed.{Filed}
use Rattle.dots_history.specs.Tables.{bare}
use Rattle.dots_history.specs.Views.{mitigations_at}
use Rattle.dots_history.proofs.Touching.{never_live}
use Rattle.conflict_rules.specs.Lives.{live_of}
use Rattle.live_mitigations.specs.declared.slots.MitigationSlots.{MitigationSlots}
use Rattle.live_mitigations.specs.declared.live_row.LiveRow.{LiveRow}
use Rattle.live_mitigations.specs.Rows.{moved_all}
use Rattle.live_mitigations.specs.Slots.{slots_at, if_left, slots_left, slots_first, put_in}
use Rattle.live_mitigations.specs.LiveRows.{mitigation_of, own_slots, mitigations_in, slots_in, row_moved}
use Rattle.live_mitigations.proofs.Finding.{place_found, none_found}

-- ---- by time

-- it is live at the time
abbrev pub lives_at : ℕ → LiveRow → Bool
lives_at t row = live t row.mitigation.put row.mitigation.status

if_kept : (b : Bool) (row : LiveRow) (rows : List LiveRow)
    → mitigations_in (cond b (row ∷ rows) rows) ≡ cond b (row.mitigation ∷ mitigations_in rows) (mitigations_in rows)
if_kept true row rows = refl
if_kept false row rows = refl

slots_if_kept : (b : Bool) (row : LiveRow) (rows : List LiveRow)
    → slots_in (cond b (row ∷ rows) rows) ≡ option_to_list (cond b (Some row.slots) None) ++ slots_in rows
slots_if_kept true row rows = refl
slots_if_kept false row rows = refl

pub kept_mitigations : (t : ℕ) (rows : List LiveRow) → mitigations_in (filter (lives_at t) rows) ≡ mitigations_at t (mitigations_in rows)
kept_mitigations t [] = refl
kept_mitigations t (row ∷ rows) =
    if_kept (lives_at t row) row (filter (lives_at t) rows)
    ∙ ap (λ ms. cond (lives_at t row) (row.mitigation ∷ ms) ms) (kept_mitigations t rows)

pub kept_slots : (t : ℕ) (rows : List LiveRow) → slots_in (filter (lives_at t) rows) ≡ slots_at t (mitigations_in rows) (slots_in rows)
kept_slots t [] = refl
kept_slots t (row ∷ rows) =
    slots_if_kept (lives_at t row) row (filter (lives_at t) rows)
    ∙ ap (λ ss. option_to_list (cond (lives_at t row) (Some row.slots) None) ++ ss) (kept_slots t rows)

-- ---- by one more entry

mitigations_moved : (x : Filed) (rows : List LiveRow) → mitigations_in (map (row_moved x) rows) ≡ map (moved x.entry) (mitigations_in rows)
mitigations_moved x [] = refl
mitigations_moved x (row ∷ rows) = ap (λ ms. moved x.entry row.mitigation ∷ ms) (mitigations_moved x rows)

slots_moved_in : (x : Filed) (rows : List LiveRow)
    → slots_at x.entry.time (mitigations_in (map (row_moved x) rows)) (slots_in (map (row_moved x) rows)) ≡ slots_left x (mitigations_in rows) (slots_in rows)
slots_moved_in x [] = refl
slots_moved_in x (row ∷ rows) = ap (λ ss. option_to_list (if_left x row.mitigation row.slots) ++ ss) (slots_moved_in x rows)

-- moved, and then those that are live
pub moved_mitigations : (x : Filed) (old new : List LiveRow) → new ≡ map (row_moved x) old
    → mitigations_at x.entry.time (mitigations_in new) ≡ moved_all x.entry (mitigations_in old)
moved_mitigations x old new is =
    ap (λ rows. mitigations_at x.entry.time (mitigations_in rows)) is ∙ ap (mitigations_at x.entry.time) (mitigations_moved x old)

pub moved_slots : (x : Filed) (old new : List LiveRow) → new ≡ map (row_moved x) old
    → slots_at x.entry.time (mitigations_in new) (slots_in new) ≡ slots_left x (mitigations_in old) (slots_in old)
moved_slots x old new is = ap (λ rows. slots_at x.entry.time (mitigations_in rows) (slots_in rows)) is ∙ slots_moved_in x old

-- ---- by one more entry that puts one

abbrev first : ℕ → MitigationSlots
first slot = record { put = slot; withdrawal = None }

-- the slots of its own mitigation, where it is live at its time
pub first_slots : (e : Entry) (slot : ℕ)
    → slots_at e.time (record { put = bare e; status = Open } ∷ []) (first slot ∷ [])
    ≡ slots_first (record { entry = e; slot = slot })
unfolding runs
first_slots e slot = by_test (live e.time e Open)
  where
    by_test : (b : Bool) → option_to_list (cond b (Some (first slot)) None) ++ [] ≡ cond b (first slot ∷ []) []
    by_test true = refl
    by_test false = refl

pub none_first : (e : Entry) (slot : ℕ) → put_of e.change ≡ None → slots_first (record { entry = e; slot = slot }) ≡ []
none_first e slot none = cond-false (live e.time e Open) (first slot ∷ []) [] (never_live e.time e Open none)

-- ---- one of them

pub within : (rows : List LiveRow) (i : ℕ) → i < length rows → i < length (mitigations_in rows)
within rows i less = subst (λ n. i < n) (sym (length-map rows mitigation_of)) less

pub there : (rows : List LiveRow) (i : ℕ) (row : LiveRow) → i < length rows → row ≡ get_or rows i row
    → row.mitigation ≡ get_or (mitigations_in rows) i row.mitigation
there rows i row less is = ap mitigation_of is ∙ sym (get_or-map mitigation_of rows i row row.mitigation less)

pub slots_within : (rows : List LiveRow) (i : ℕ) → i < length rows → i < length (slots_in rows)
slots_within rows i less = subst (λ n. i < n) (sym (length-map rows own_slots)) less

pub slots_there : (rows : List LiveRow) (i : ℕ) (row : LiveRow) → i < length rows → row ≡ get_or rows i row → row.slots ≡ get_or (slots_in rows) i row.slots
slots_there rows i row less is = ap own_slots is ∙ sym (get_or-map own_slots rows i row row.slots less)

-- another with the same mitigation in its place
pub set_mitigation : (rows : List LiveRow) (i : ℕ) (row new : LiveRow) → row ≡ get_or rows i row → new.mitigation ≡ row.mitigation
    → mitigations_in (set rows i new) ≡ mitigations_in rows
set_mitigation [] i row new is same = refl
set_mitigation (x ∷ rows) zero row new is same = ap (λ m. m ∷ mitigations_in rows) (same ∙ ap mitigation_of is)
set_mitigation (x ∷ rows) (suc i) row new is same = ap (λ ms. x.mitigation ∷ ms) (set_mitigation rows i row new is same)

pub set_slots : (rows : List LiveRow) (i : ℕ) (new : LiveRow) → slots_in (set rows i new) ≡ set (slots_in rows) i new.slots
set_slots [] i new = refl
set_slots (x ∷ rows) zero new = refl
set_slots (x ∷ rows) (suc i) new = ap (λ ss. x.slots ∷ ss) (set_slots rows i new)

-- ---- what is told of the mitigations

pub any_alike : (p : Mitigation → Bool) (rows : List LiveRow) → list_any (λ (row : LiveRow). p row.mitigation) rows ≡ list_any p (mitigations_in rows)
any_alike p [] = refl
any_alike p (row ∷ rows) = ap (λ b. p row.mitigation || b) (any_alike p rows)

pub lives_alike : (rows : List LiveRow) → map (λ (row : LiveRow). live_of row.mitigation) rows ≡ map live_of (mitigations_in rows)
lives_alike [] = refl
lives_alike (row ∷ rows) = ap (λ ls. live_of row.mitigation ∷ ls) (lives_alike rows)

-- ---- the one whose entry stands in a slot

place_alike : (slot : ℕ) (rows : List LiveRow)
    → position_or_len (λ (row : LiveRow). row.slots.put == slot) rows ≡ position_or_len (λ (s : MitigationSlots). s.put == slot) (slots_in rows)
place_alike slot [] = refl
place_alike slot (row ∷ rows) = ap (λ n. cond (not (row.slots.put == slot)) (1 + n) 0) (place_alike slot rows)

pub place_there : (slot : ℕ) (rows : List LiveRow) (place : ℕ) → position (λ (row : LiveRow). row.slots.put == slot) rows ≡ Some place
    → place ≡ position_or_len (λ (s : MitigationSlots). s.put == slot) (slots_in rows)
place_there slot rows place is = place_found (λ (row : LiveRow). row.slots.put == slot) rows place is ∙ place_alike slot rows

pub none_there : (slot : ℕ) (rows : List LiveRow) → position (λ (row : LiveRow). row.slots.put == slot) rows ≡ None
    → length rows ≡ position_or_len (λ (s : MitigationSlots). s.put == slot) (slots_in rows)
none_there slot rows none = none_found (λ (row : LiveRow). row.slots.put == slot) rows none ∙ place_alike slot rows

pub found_there : (slot : ℕ) (rows : List LiveRow) (found : Option LiveRow) → found ≡ slice_get rows (position_or_len (λ (s : MitigationSlots). s.put == slot) (slots_in rows))
    → option_map mitigation_of found ≡ put_in slot (mitigations_in rows) (slots_in rows)
found_there slot rows found is =
    ap (option_map mitigation_of) is ∙ sym (slice_get-map mitigation_of rows (position_or_len (λ (s : MitigationSlots). s.put == slot) (slots_in rows)))
