-- New numbers of the slots beside the live mitigations, and of the last entry.
use Rattle.std.proofs.Common.{◌≡◌, ℕ, ◌<◌, Bool, true, false, cond, ◌&&◌, List, [], ◌∷◌, ◌++◌, map, Option, Some, None, refl, sym, ap, subst, ◌∙◌}
use Rattle.std.specs.Prelude.{slice_get, option_map, option_to_list, ◌==◌}
use Rattle.std.proofs.lemmas.List.{map-append, length-map}
use Rattle.std.proofs.lemmas.Option.{slice_get-map}
use Rattle.dots_history.specs.declared.entry.Entry.{Entry}
use Rattle.dots_history.specs.declared.status.Status.{Status}
use Rattle.dots_history.specs.declared.status.Status.TheVariants.{Open}
use Rattle.dots_history.specs.Entries.{withdraws}
use Rattle.dots_history.specs.Histories.{live, status, step, or_else}
use Rattle.dots_history.specs.Keeping.{is_open}
use Rattle.dots_history.specs.Slots.{number_in}
use Rattle.dots_history.specs.Filed.{Filed, entry_of, refiled}
use Rattle.live_mitigations.specs.Slots.{withdrawal_in, slots_by, live_slots}
use Rattle.live_mitigations.specs.Rows.{LiveTable, slots_or_none}
use Rattle.live_mitigations.specs.Numbers.{renumbered, table_renumbered}
use Rattle.live_mitigations.specs.LiveValues.{SlotsAre, filed_alone}
use Rattle.dots_registry.specs.Kept.{last_slot}
use Rattle.dots_registry.proofs.Going.{filter_refiled}

pub same_entries : (keep : List ℕ) (filed : List Filed) → map entry_of (map (refiled keep) filed) ≡ map entry_of filed
same_entries keep [] = refl
same_entries keep (x ∷ later) = ap (λ rest. x.entry ∷ rest) (same_entries keep later)

found_moved : (keep : List ℕ) (b : Bool) (slot : ℕ) (found : Option ℕ)
    → option_map (number_in keep) (cond b (Some slot) found) ≡ cond b (Some (number_in keep slot)) (option_map (number_in keep) found)
found_moved keep true slot found = refl
found_moved keep false slot found = refl

withdrawal_moved : (keep : List ℕ) (put : Entry) (s : Status) (found : Option ℕ) (later : List Filed)
    → option_map (number_in keep) (withdrawal_in put s found later) ≡ withdrawal_in put s (option_map (number_in keep) found) (map (refiled keep) later)
withdrawal_moved keep put s found [] = refl
withdrawal_moved keep put s found (x ∷ later) =
    withdrawal_moved keep put (step put s x.entry) (cond (is_open s && withdraws put x.entry) (Some x.slot) found) later
    ∙ ap (λ o. withdrawal_in put (step put s x.entry) o (map (refiled keep) later)) (found_moved keep (is_open s && withdraws put x.entry) x.slot found)

one_moved : (keep : List ℕ) (b : Bool) (x : Filed) (later : List Filed)
    → map (renumbered keep) (option_to_list (cond b (Some (slots_by x later)) None)) ≡ option_to_list (cond b (Some (slots_by (refiled keep x) (map (refiled keep) later))) None)
one_moved keep true x later =
    ap (λ (o : Option ℕ). record { put = number_in keep x.slot; withdrawal = o } ∷ []) (withdrawal_moved keep x.entry Open None later)
one_moved keep false x later = refl

lives_moved : (t : ℕ) (keep : List ℕ) (filed : List Filed) → map (renumbered keep) (live_slots t filed) ≡ live_slots t (map (refiled keep) filed)
lives_moved t keep [] = refl
lives_moved t keep (x ∷ later) =
    let lives : List Entry → Bool = λ es. live t x.entry (status x.entry Open es) in
    let moved = map (refiled keep) later in
    map-append (renumbered keep) (option_to_list (cond (lives (map entry_of later)) (Some (slots_by x later)) None)) (live_slots t later)
    ∙ ap (λ front. front ++ map (renumbered keep) (live_slots t later)) (one_moved keep (lives (map entry_of later)) x later)
    ∙ ap (λ rest. option_to_list (cond (lives (map entry_of later)) (Some (slots_by (refiled keep x) moved)) None) ++ rest) (lives_moved t keep later)
    ∙ ap
    (λ es. option_to_list (cond (lives es) (Some (slots_by (refiled keep x) moved)) None) ++ live_slots t moved)
    (sym (same_entries keep later))

table_moved : (keep : List ℕ) (o : Option LiveTable) → slots_or_none (option_map (table_renumbered keep) o) ≡ map (renumbered keep) (slots_or_none o)
table_moved keep None = refl
table_moved keep (Some table) = refl

pub slots_moved : (t : ℕ) (keep : List ℕ) (tables : List LiveTable) (filed : List Filed) → SlotsAre t tables filed
    → SlotsAre t (map (table_renumbered keep) tables) (map (refiled keep) filed)
slots_moved t keep tables filed are = λ domain within.
    ap slots_or_none (slice_get-map (table_renumbered keep) tables domain)
    ∙ table_moved keep (slice_get tables domain)
    ∙ ap (map (renumbered keep)) (are domain (subst (λ n. domain < n) (length-map tables (table_renumbered keep)) within))
    ∙ lives_moved t keep (filed_alone domain filed)
    ∙ ap (live_slots t) (sym (filter_refiled keep (λ (x : Filed). x.entry.domain == domain) filed (λ x. refl)))

-- the last entry
pub last_moved : (keep : List ℕ) (filed : List Filed) → last_slot (map (refiled keep) filed) ≡ option_map (number_in keep) (last_slot filed)
last_moved keep [] = refl
last_moved keep (x ∷ later) =
    ap (λ o. or_else o (Some (number_in keep x.slot))) (last_moved keep later) ∙ either (last_slot later)
  where
    either : (o : Option ℕ) → or_else (option_map (number_in keep) o) (Some (number_in keep x.slot)) ≡ option_map (number_in keep) (or_else o (Some x.slot))
    either None = refl
    either (Some slot) = refl
