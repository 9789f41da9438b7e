-- All slots that are kept are those of the entries that a view names.
use Rattle.std.proofs.Common.{◌≡◌, ℕ, Bool, true, false, cond, ◌||◌, List, [], ◌∷◌, ◌++◌, length, map, Option, Some, None, refl, sym, ap, ◌∙◌}
use Rattle.std.specs.Prelude.{◌==◌, slice_get, option_to_list}
use Rattle.std.specs.List.{list_any, list_all}
use Rattle.dots_history.specs.Histories.{Mitigation, is_recent, is_nil, or_else}
use Rattle.dots_history.specs.Keeping.{names, pass, kept_places}
use Rattle.dots_history.specs.Slots.{Rises}
use Rattle.dots_history.specs.KeptPlaces.{at_places, union, live_places, withdrawal_places, recent_places, last_places, held_places}
use Rattle.dots_history.proofs.KeptPlaces.{places_of_parts}
use Rattle.live_mitigations.specs.LiveValues.{is_inside, SlotsAre}
use Rattle.coap_exchange.specs.Rings.{RingValue, all_slots}
use Rattle.dots_history.specs.Filed.{Filed, entry_of, slot_of}
use Rattle.live_mitigations.specs.Rows.{LiveTable}
use Rattle.live_mitigations.specs.Numbers.{all_numbers}
use Rattle.live_mitigations.proofs.Members.{has, any_append, any_union, union_same}
use Rattle.live_mitigations.proofs.Domains as domains
use Rattle.held_resources.specs.Rows.{rows_of, slots_in}
use Rattle.held_resources.proofs.Named.{slots_by, at_filed, slots_named}
use Rattle.dots_registry.specs.Kept.{RingsAre, last_slot, kept_slots}
use Rattle.dots_registry.specs.RegistryValues.{has_ring}
use Rattle.dots_registry.proofs.Recents.{recents, rings_are_recents}

or_false : (b : Bool) → (b || false) ≡ b
or_false true = refl
or_false false = refl

-- ---- what stood at places
abbrev stood : ℕ → Option ℕ → Bool
stood s None = false
stood s (Some slot) = slot == s

has_at : (s : ℕ) (slots places : List ℕ) → has s (at_places slots places) ≡ list_any (λ place. stood s (slice_get slots place)) places
has_at s slots [] = refl
has_at s slots (place ∷ places) =
    any_append (λ other. other == s) (option_to_list (slice_get slots place)) (at_places slots places)
    ∙ ap (λ b. b || has s (at_places slots places)) (one (slice_get slots place))
    ∙ ap (λ b. stood s (slice_get slots place) || b) (has_at s slots places)
  where
    one : (o : Option ℕ) → has s (option_to_list o) ≡ stood s o
    one None = refl
    one (Some slot) = or_false (slot == s)

has_union : (s : ℕ) (slots xs ys : List ℕ) → has s (at_places slots (union xs ys)) ≡ (has s (at_places slots xs) || has s (at_places slots ys))
has_union s slots xs ys =
    has_at s slots (union xs ys)
    ∙ any_union (λ place. stood s (slice_get slots place)) xs ys
    ∙ ap (λ b. b || list_any (λ place. stood s (slice_get slots place)) ys) (sym (has_at s slots xs))
    ∙ ap (λ b. has s (at_places slots xs) || b) (sym (has_at s slots ys))

-- ---- each part

live_part : (s t : ℕ) (tables : List LiveTable) (filed : List Filed) → SlotsAre t tables filed → list_all (is_inside (length tables)) (map entry_of filed) ≡ true
    → has s (all_numbers tables) ≡ has s (at_places (map slot_of filed) (union (live_places t (map entry_of filed)) (withdrawal_places t (map entry_of filed))))
live_part s t tables filed are inside =
    let named = at_places (map slot_of filed) (union (live_places t (map entry_of filed)) (withdrawal_places t (map entry_of filed))) in
    alone (all_numbers tables)
    ∙ ap (has s) (domains.kept_slots t tables filed [] (record {}) are inside)
    ∙ sym (alone named)
  where
    alone : (xs : List ℕ) → has s xs ≡ has s (union xs [])
    alone xs = sym (any_union (λ other. other == s) xs [] ∙ or_false (has s xs))

by_recents : (n : ℕ) (passed : List Mitigation) (filed : List Filed) → slots_by (λ passed e later. is_recent n e later) passed filed ≡ recents n filed
by_recents n passed [] = refl
by_recents n passed (x ∷ later) =
    ap (λ rest. cond (is_recent n x.entry (map entry_of later)) (x.slot ∷ rest) rest) (by_recents n (pass passed x.entry) later)

by_last : (passed : List Mitigation) (filed : List Filed) → slots_by (λ passed e later. is_nil later) passed filed ≡ option_to_list (last_slot filed)
by_last passed [] = refl
by_last passed (x ∷ []) = refl
by_last passed (x ∷ y ∷ later) = by_last (pass passed x.entry) (y ∷ later) ∙ ap option_to_list (sym (still (y ∷ later) (there y later) x.slot))
  where
    there : (y : Filed) (later : List Filed) → (slot : ℕ) × (last_slot (y ∷ later) ≡ Some slot)
    there y [] = (y.slot, refl)
    there y (z ∷ later) = let rest = there z later in (rest.0, ap (λ o. or_else o (Some y.slot)) rest.1)

    still : (filed : List Filed) → (slot : ℕ) × (last_slot filed ≡ Some slot) → (other : ℕ) → or_else (last_slot filed) (Some other) ≡ last_slot filed
    still filed found other = ap (λ o. or_else o (Some other)) found.1 ∙ sym found.1

-- ---- all together
four : (a b c d : Bool) → (a || (b || (c || d))) ≡ (a || ((b || c) || d))
four a true c d = refl
four a false c d = refl

pub kept_named : (n t : ℕ) (tables : List LiveTable) (rs : List RingValue) (filed : List Filed) (items : List ℕ) → Rises items → SlotsAre t tables filed
    → list_all (is_inside (length tables)) (map entry_of filed) ≡ true → RingsAre n rs filed → list_all (has_ring rs) (map entry_of filed) ≡ true
    → union (kept_slots tables rs (last_slot filed) (rows_of filed)) items ≡ union (at_places (map slot_of filed) (kept_places (names n t) [] 0 (map entry_of filed))) items
kept_named n t tables rs filed items rises are inside rings_are all =
    union_same (kept_slots tables rs (last_slot filed) (rows_of filed)) (at_places (map slot_of filed) (kept_places (names n t) [] 0 (map entry_of filed))) items rises same
  where
    same : (s : ℕ) → has s (kept_slots tables rs (last_slot filed) (rows_of filed)) ≡ has s (at_places (map slot_of filed) (kept_places (names n t) [] 0 (map entry_of filed)))
    same s =
        any_append (λ other. other == s) (all_numbers tables) (all_slots rs ++ (option_to_list (last_slot filed) ++ slots_in (rows_of filed)))
        ∙ ap (λ b. has s (all_numbers tables) || b)
        (any_append (λ other. other == s) (all_slots rs) (option_to_list (last_slot filed) ++ slots_in (rows_of filed))
        ∙ ap (λ b. has s (all_slots rs) || b) (any_append (λ other. other == s) (option_to_list (last_slot filed)) (slots_in (rows_of filed))))
        ∙ four (has s (all_numbers tables)) (has s (all_slots rs)) (has s (option_to_list (last_slot filed))) (has s (slots_in (rows_of filed)))
        ∙ ap (λ b. b || ((has s (all_slots rs) || has s (option_to_list (last_slot filed))) || has s (slots_in (rows_of filed)))) (live_part s t tables filed are inside)
        ∙ ap (λ b. has s (at_places (map slot_of filed) (union (live_places t (map entry_of filed)) (withdrawal_places t (map entry_of filed)))) || ((b || has s (option_to_list (last_slot filed))) || has s (slots_in (rows_of filed))))
        (rings_are_recents n s rs filed rings_are all
        ∙ ap (has s) (sym (at_filed (λ passed e later. is_recent n e later) [] [] 0 filed refl ∙ by_recents n [] filed)))
        ∙ ap (λ b. has s (at_places (map slot_of filed) (union (live_places t (map entry_of filed)) (withdrawal_places t (map entry_of filed)))) || ((has s (at_places (map slot_of filed) (recent_places n (map entry_of filed))) || b) || has s (slots_in (rows_of filed))))
        (ap (has s) (sym (at_filed (λ passed e later. is_nil later) [] [] 0 filed refl ∙ by_last [] filed)))
        ∙ ap (λ b. has s (at_places (map slot_of filed) (union (live_places t (map entry_of filed)) (withdrawal_places t (map entry_of filed)))) || ((has s (at_places (map slot_of filed) (recent_places n (map entry_of filed))) || has s (at_places (map slot_of filed) (last_places (map entry_of filed)))) || b))
        (ap (has s) (slots_named filed))
        ∙ ap (λ b. has s (at_places (map slot_of filed) (union (live_places t (map entry_of filed)) (withdrawal_places t (map entry_of filed)))) || (b || has s (at_places (map slot_of filed) (held_places (map entry_of filed)))))
        (sym (has_union s (map slot_of filed) (recent_places n (map entry_of filed)) (last_places (map entry_of filed))))
        ∙ ap (λ b. has s (at_places (map slot_of filed) (union (live_places t (map entry_of filed)) (withdrawal_places t (map entry_of filed)))) || b)
        (sym (has_union s (map slot_of filed) (union (recent_places n (map entry_of filed)) (last_places (map entry_of filed))) (held_places (map entry_of filed))))
        ∙ sym (has_union s (map slot_of filed) (union (live_places t (map entry_of filed)) (withdrawal_places t (map entry_of filed))) (union (union (recent_places n (map entry_of filed)) (last_places (map entry_of filed))) (held_places (map entry_of filed))))
        ∙ ap (λ places. has s (at_places (map slot_of filed) places)) (sym (places_of_parts n t (map entry_of filed)))
