-- What the calls of a store leave at each moment.
use Rattle.std.proofs.Common.{zero, suc, ◌≡◌, inl, ℕ, ◌+◌, ◌%◌, ◌<◌, ◌≤◌, List, [], ◌∷◌, ◌++◌, length, Option, sym, ap, subst, ◌∙◌, arith}
use Rattle.std.proofs.lemmas.List.{length_push}
use Rattle.dots_host.specs.Media.{Media}
use Rattle.dots_host.specs.Becoming.{Leaves, RestsWith}
use Rattle.slot_store.specs.Layout.{place_of, needed_of}
use Rattle.slot_store.specs.StoreValues.{JournalValue, RepresentsRecords, HasEither, sized}
use Rattle.slot_store.specs.Opening.{IsOpening, IsOpened, Is}
use Rattle.slot_store.proofs.Steps.{leaves_as, seen_at_rest, rests_as}
use Rattle.slot_store.proofs.Appending.{behind_header, either, one_more}

-- a slot of a half ends where the disk does, at the latest
pub slot_fits : (slots half slot : ℕ) → half < 2 → slot < slots → place_of slots half slot + 8192 ≤ needed_of slots
slot_fits slots zero slot half under = omega arith
slot_fits slots (suc zero) slot half under = omega arith
slot_fits slots (suc (suc n)) slot half under = absurd (omega arith)

-- the slot behind the records, by what the store knows
next_place : (store : JournalValue) (digest : List ℕ) (records : List (List ℕ)) (seen : ℕ → ℕ) (at : ℕ) → at ≡ place_of store.slots (store.selector % 2) store.used → RepresentsRecords store digest records seen
    → at ≡ place_of store.slots (seen 48 % 2) (length records)
next_place store digest records seen at is stands = is ∙ ap (λ n. place_of store.slots (n % 2) store.used) (sym stands.selector) ∙ ap (place_of store.slots (seen 48 % 2)) stands.used

pub append_leaves : (start new : Option Media) (store : JournalValue) (digest : List ℕ) (records : List (List ℕ)) (added : List ℕ) (at : ℕ) (piece : List ℕ) → store.used < store.slots → length added ≤ 8189
    → at ≡ place_of store.slots (store.selector % 2) store.used → piece ≡ sized added → ((seen : ℕ → ℕ) → RestsWith start (Is seen) → Leaves start new (IsOpening seen at piece))
    → RestsWith start (RepresentsRecords store digest records) → Leaves start new (HasEither store.slots digest store.format records store.format (records ++ added ∷ []))
append_leaves start new store digest records added at piece room fits place bytes moments rests =
    let found = seen_at_rest start (RepresentsRecords store digest records) rests in
    leaves_as start new (IsOpening found.0 at piece) (HasEither store.slots digest store.format records store.format (records ++ added ∷ [])) (image_has found.0 found.2) (moments found.0 found.1)
  where
    image_has : (seen : ℕ → ℕ) → RepresentsRecords store digest records seen → (image : ℕ → ℕ) → IsOpening seen at piece image → HasEither store.slots digest store.format records store.format (records ++ added ∷ []) image
    image_has seen stands image opening =
        let used = stands.used in
        let space : length records < store.slots = omega arith in
        let sized_opening : IsOpening seen at (sized added) image = subst (λ piece. IsOpening seen at piece image) bytes opening in
        either store.slots digest store.format records added seen image stands.journal space fits (subst (λ at. IsOpening seen at (sized added) image) (next_place store digest records seen at place stands) sized_opening)

pub append_rests : (start new : Option Media) (store : JournalValue) (digest : List ℕ) (records : List (List ℕ)) (added : List ℕ) (at : ℕ) (piece : List ℕ) → store.used < store.slots → length added ≤ 8189
    → at ≡ place_of store.slots (store.selector % 2) store.used → piece ≡ sized added → ((seen : ℕ → ℕ) → RestsWith start (Is seen) → RestsWith new (IsOpened seen at piece))
    → RestsWith start (RepresentsRecords store digest records) → RestsWith new (RepresentsRecords (record store { used = store.used + 1 }) digest (records ++ added ∷ []))
append_rests start new store digest records added at piece room fits place bytes opened rests =
    let found = seen_at_rest start (RepresentsRecords store digest records) rests in
    rests_as new (IsOpened found.0 at piece) (RepresentsRecords (record store { used = store.used + 1 }) digest (records ++ added ∷ [])) (image_has found.0 found.2) (opened found.0 found.1)
  where
    image_has : (seen : ℕ → ℕ) → RepresentsRecords store digest records seen → (image : ℕ → ℕ) → IsOpened seen at piece image → RepresentsRecords (record store { used = store.used + 1 }) digest (records ++ added ∷ []) image
    image_has seen stands image is =
        let used = stands.used in
        let space : length records < store.slots = omega arith in
        let here = next_place store digest records seen at place stands in
        let sized_opened : IsOpened seen at (sized added) image = subst (λ piece. IsOpened seen at piece image) bytes is in
        let header : 48 < at = subst (λ at. 48 < at) (sym here) (behind_header store.slots (seen 48 % 2) (length records) 48 (omega arith)) in
        let size = length_push records added in
        record {
          journal = one_more store.slots digest store.format records added seen image stands.journal space fits (subst (λ at. IsOpened seen at (sized added) image) here sized_opened);
          used = omega arith;
          selector = is.kept 48 (inl header) ∙ stands.selector;
        }
