-- The slots are those of the entries that a view names for what is held.
use Rattle.std.proofs.Common.{◌≡◌, ℕ, ◌+◌, zero, suc, Bool, true, false, cond, not, ◌&&◌, List, [], ◌∷◌, ◌++◌, length, map, Some, None, refl, sym, ap, ◌∙◌, append_assoc, arith}
use Rattle.std.specs.Prelude.{slice_get, option_map, option_to_list}
use Rattle.std.specs.List.{list_any}
use Rattle.std.proofs.lemmas.List.{map-append}
use Rattle.dots_history.specs.declared.change.Change.{Change}
use Rattle.dots_history.specs.declared.change.Change.TheVariants as change
use Rattle.dots_history.specs.Entries.{is_held, undoes}
use Rattle.dots_history.specs.Histories.{Mitigation, stays}
use Rattle.dots_history.specs.Keeping.{pass, kept_places}
use Rattle.dots_history.specs.KeptPlaces.{at_places, held_places}
use Rattle.dots_history.proofs.Keeping.{Keeper}
use Rattle.dots_history.specs.Filed.{Filed, entry_of, slot_of}
use Rattle.held_resources.specs.declared.row.HeldSlot.{HeldSlot}
use Rattle.held_resources.specs.declared.row.HeldName.TheVariants as written
use Rattle.held_resources.specs.Rows.{written_of, row_with, row_of, rows_of, slots_in}

-- the slots of those that a test keeps
abbrev pub slots_by : Keeper → List Mitigation → List Filed → List ℕ
slots_by keep passed [] = []
slots_by keep passed (x ∷ later) =
    cond (keep passed x.entry (map entry_of later)) (x.slot ∷ slots_by keep (pass passed x.entry) later) (slots_by keep (pass passed x.entry) later)

at_middle : (before : List ℕ) (at slot : ℕ) (behind : List ℕ) → at ≡ length before → slice_get (before ++ slot ∷ behind) at ≡ Some slot
at_middle [] zero slot behind same = refl
at_middle [] (suc k) slot behind same = absurd (omega (arith, same))
at_middle (x ∷ before) zero slot behind same = absurd (omega (arith, same))
at_middle (x ∷ before) (suc k) slot behind same = at_middle before k slot behind (omega (arith, same))

length_more : (before : List ℕ) (slot : ℕ) → length (before ++ slot ∷ []) ≡ length before + 1
length_more [] slot = omega arith
length_more (x ∷ before) slot = let rest = length_more before slot in omega (arith, rest)

pub at_filed : (keep : Keeper) (passed : List Mitigation) (before : List ℕ) (at : ℕ) (filed : List Filed) → at ≡ length before
    → at_places (before ++ map slot_of filed) (kept_places keep passed at (map entry_of filed)) ≡ slots_by keep passed filed
at_filed keep passed before at [] same = refl
at_filed keep passed before at (x ∷ later) same =
    let long = length_more before x.slot in
    let places = kept_places keep (pass passed x.entry) (at + 1) (map entry_of later) in
    by_test
    (keep passed x.entry (map entry_of later))
    x.slot
    (before ++ x.slot ∷ map slot_of later)
    at
    places
    (slots_by keep (pass passed x.entry) later)
    (at_middle before at x.slot (map slot_of later) same)
    (ap (λ whole. at_places whole places) (sym (append_assoc before (x.slot ∷ []) (map slot_of later)))
    ∙ at_filed keep (pass passed x.entry) (before ++ x.slot ∷ []) (at + 1) later (omega (arith, same, long)))
  where
    by_test : (b : Bool) (slot : ℕ) (whole : List ℕ) (at : ℕ) (places few : List ℕ) → slice_get whole at ≡ Some slot
        → at_places whole places ≡ few → at_places whole (cond b (at ∷ places) places) ≡ cond b (slot ∷ few) few
    by_test true slot whole at places few found rest = ap (λ o. option_to_list o ++ at_places whole places) found ∙ ap (λ xs. slot ∷ xs) rest
    by_test false slot whole at places few found rest = rest

-- ---- of what is held

one_slot : (b : Bool) (r : HeldSlot) (slot : ℕ) (rest : List ℕ) → r.slot ≡ slot → slots_in (option_to_list (cond b (Some r) None)) ++ rest ≡ cond b (slot ∷ rest) rest
one_slot true r slot rest is = ap (λ s. s ∷ rest) is
one_slot false r slot rest is = refl

own_slot : (c : Change) (b : Bool) (x : Filed) (rest : List ℕ)
    → slots_in (option_to_list (cond (is_held c && b) (option_map (row_with x) (written_of c)) None)) ++ rest ≡ cond (is_held c && b) (x.slot ∷ rest) rest
unfolding is_held
own_slot change.Register b x rest = one_slot b (row_with x written.Registration) x.slot rest refl
own_slot (change.SetAlias alias) b x rest = one_slot b (row_with x (written.Alias alias.name)) x.slot rest refl
own_slot (change.SetAcl acl) b x rest = one_slot b (row_with x (written.Acl acl.name)) x.slot rest refl
own_slot (change.SetConfig sid config) b x rest = one_slot b (row_with x written.Configuration) x.slot rest refl
own_slot change.Lost b x rest = one_slot b (row_with x written.Loss) x.slot rest refl
own_slot _ b x rest = refl

slots_held : (passed : List Mitigation) (filed : List Filed) → slots_in (rows_of filed) ≡ slots_by (λ passed e later. stays e later) passed filed
slots_held passed [] = refl
slots_held passed (x ∷ later) =
    let s = stays x.entry (map entry_of later) in
    map-append (λ (row : HeldSlot). row.slot) (option_to_list (cond s (row_of x) None)) (rows_of later)
    ∙ own_slot x.entry.change (not (list_any (undoes x.entry) (map entry_of later))) x (slots_in (rows_of later))
    ∙ ap (λ rest. cond s (x.slot ∷ rest) rest) (slots_held (pass passed x.entry) later)

pub slots_named : (filed : List Filed) → slots_in (rows_of filed) ≡ at_places (map slot_of filed) (held_places (map entry_of filed))
slots_named filed = slots_held [] filed ∙ sym (at_filed (λ passed e later. stays e later) [] [] 0 filed refl)
