-- What is spelled is read, however deep it nests.
use Rattle.std.proofs.Common.{◌≡◌, ℕ, zero, suc, List, [], ◌∷◌, ◌++◌, length, Some, Ok, refl, sym, ap, ◌∙◌, subst, inl, inr, arith, append_assoc}
use Rattle.std.specs.Prelude.{◌⊎◌}
use Rattle.std.proofs.lemmas.List.{append-nil}
use Rattle.cbor_profile.specs.declared.major.Major.TheVariants as major_type
use Rattle.cbor_profile.specs.Tree.{Tree, unsigned, negative, byte_string, text, array, mapping, tag, boolean, null, Trees, Pairs, count}
use Rattle.cbor_profile.specs.Spelling.{begin, break, SpellsItems, SpellsPairs, Encloses, IsInOrder, SpellsPlain, SpellsNest, SpellsWithin}
use Rattle.cbor_profile.specs.ItemReading.{Read, argument_at, items_at, pairs_at, value_at, indefinite_at, item_at, start_with}
use Rattle.cbor_profile.proofs.Firsts.{open_begins, Starts, read_starts}
use Rattle.cbor_profile.proofs.Again.{argument_again, head_begins, plain_again, list_of, items_list, items_again, open_items_again, pairs_again, open_pairs_again}
use Rattle.cbor_profile.proofs.Ordered.{Runs, in_order_runs}

pub map_runs : (read : List (Tree × Tree)) (ps : Pairs) (h : IsInOrder read ps) → Runs [] read h.sorted
map_runs read ps h = in_order_runs read [] h.sorted tt h.same (subst (λ (q : Pairs). Rattle.cbor_profile.specs.Valid.KeysRise q) h.is h.rise)

abbrev pub Reads : (List ℕ → Tree → Type 0) → (List ℕ → Read Tree) → Type 0
Reads Part read = (bytes : List ℕ) (t : Tree) (rest : List ℕ) → Part bytes t → read (bytes ++ rest) ≡ Ok (t, rest)

abbrev pub PartStarts : (List ℕ → Tree → Type 0) → Type 0
PartStarts Part = (bytes : List ℕ) (t : Tree) → Part bytes t → Starts bytes

array_definite : (levels end n info : ℕ) (Part : List ℕ → Tree → Type 0) → Reads Part (item_at levels end) → PartStarts Part → (ts : Trees) (at : ℕ) (following content rest : List ℕ)
    → argument_at end info (following ++ (content ++ rest)) ≡ Ok (n, content ++ rest) → n ≡ count ts → SpellsItems Part content ts
    → value_at (Some (item_at levels end)) end at major_type.Array info (following ++ (content ++ rest)) ≡ Ok (array ts, rest)
unfolding value_at
array_definite levels end n info Part again starts ts at following content rest first is h =
    let second : items_at (item_at levels end) n (content ++ rest) ≡ Ok (list_of ts, rest) = rw is (items_again Part (item_at levels end) starts again ts content rest h) in
    rw (first, second) (ap (λ (us : Trees). Ok (array us, rest)) (items_list ts))

array_open : (levels end : ℕ) (Part : List ℕ → Tree → Type 0) → Reads Part (item_at levels end) → PartStarts Part → (ts : Trees) (at : ℕ) (content rest : List ℕ) → SpellsItems Part content ts
    → indefinite_at (Some (item_at levels end)) end at major_type.Array (content ++ break ∷ rest) ≡ Ok (array ts, rest)
unfolding indefinite_at
array_open levels end Part again starts ts at content rest h =
    let first = open_items_again Part (item_at levels end) starts again ts (length (content ++ break ∷ rest)) end content rest h (omega arith) in
    rw first (ap (λ (us : Trees). Ok (array us, rest)) (items_list ts))

map_definite : (levels end n info : ℕ) (Part : List ℕ → Tree → Type 0) → Reads Part (item_at levels end) → PartStarts Part → (read : List (Tree × Tree)) (ps : Pairs) (at : ℕ) (following content rest : List ℕ)
    → argument_at end info (following ++ (content ++ rest)) ≡ Ok (n, content ++ rest) → n ≡ length read → SpellsPairs Part content read → IsInOrder read ps
    → value_at (Some (item_at levels end)) end at major_type.Map info (following ++ (content ++ rest)) ≡ Ok (mapping ps, rest)
unfolding value_at
map_definite levels end n info Part again starts read ps at following content rest first is h order =
    let second : pairs_at (item_at levels end) end n [] (content ++ rest) ≡ Ok (order.sorted, rest) = rw is (pairs_again Part (item_at levels end) starts again read [] order.sorted end content rest h (map_runs read ps order)) in
    rw (first, second) (ap (λ (qs : Pairs). Ok (mapping qs, rest)) (sym order.is))

map_open : (levels end : ℕ) (Part : List ℕ → Tree → Type 0) → Reads Part (item_at levels end) → PartStarts Part → (read : List (Tree × Tree)) (ps : Pairs) (at : ℕ) (content rest : List ℕ) → SpellsPairs Part content read → IsInOrder read ps
    → indefinite_at (Some (item_at levels end)) end at major_type.Map (content ++ break ∷ rest) ≡ Ok (mapping ps, rest)
unfolding indefinite_at
map_open levels end Part again starts read ps at content rest h order =
    let first = open_pairs_again Part (item_at levels end) starts again read [] order.sorted (length (content ++ break ∷ rest)) end content rest h (map_runs read ps order) (omega arith) in
    rw first (ap (λ (qs : Pairs). Ok (mapping qs, rest)) (sym order.is))

tag_definite : (levels end n info : ℕ) (Part : List ℕ → Tree → Type 0) → Reads Part (item_at levels end) → (t : Tree) (at : ℕ) (following content rest : List ℕ)
    → argument_at end info (following ++ (content ++ rest)) ≡ Ok (n, content ++ rest) → Part content t → value_at (Some (item_at levels end)) end at major_type.Tag info (following ++ (content ++ rest)) ≡ Ok (tag n t, rest)
unfolding value_at
tag_definite levels end n info Part again t at following content rest first h =
    let second = again content t rest h in
    rw (first, second) refl

nest_again : (levels end : ℕ) (Part : List ℕ → Tree → Type 0) → Reads Part (item_at levels end) → PartStarts Part → (t : Tree) (bytes rest : List ℕ) → SpellsNest Part bytes t → item_at (suc levels) end (bytes ++ rest) ≡ Ok (t, rest)
unfolding start_with
nest_again levels end Part again starts (unsigned n) bytes rest h = absurd h
nest_again levels end Part again starts (negative n) bytes rest h = absurd h
nest_again levels end Part again starts (byte_string s) bytes rest h = absurd h
nest_again levels end Part again starts (text s) bytes rest h = absurd h
nest_again levels end Part again starts (boolean b) bytes rest h = absurd h
nest_again levels end Part again starts null bytes rest h = absurd h
nest_again levels end Part again starts (array ts) bytes rest h =
    let content = h.0 in
    elim (h.1) [
      | Encloses.definite head counted e ↦
          ap (item_at (suc levels) end) (ap (λ (l : List ℕ). l ++ rest) e ∙ append_assoc head content rest) ∙ head_begins (suc levels) end (count ts) major_type.Array head (content ++ rest) counted tt
          ∙ array_definite levels end (count ts) counted.info Part again starts ts _ counted.following content rest (argument_again end counted.info (count ts) counted.following (content ++ rest) counted.argument) refl h.2
      | Encloses.indefinite e ↦
          ap (item_at (suc levels) end) (ap (λ (l : List ℕ). l ++ rest) e ∙ ap (λ (l : List ℕ). begin 4 ∷ l) (append_assoc content (break ∷ []) rest))
          ∙ open_begins (suc levels) end (begin 4) major_type.Array (content ++ break ∷ rest) refl ∙ array_open levels end Part again starts ts _ content rest h.2
    ]
nest_again levels end Part again starts (mapping ps) bytes rest h =
    let content = h.0 in
    let read = h.1 in
    elim (h.2) [
      | Encloses.definite head counted e ↦
          ap (item_at (suc levels) end) (ap (λ (l : List ℕ). l ++ rest) e ∙ append_assoc head content rest) ∙ head_begins (suc levels) end (length read) major_type.Map head (content ++ rest) counted tt
          ∙ map_definite levels end (length read) counted.info Part again starts read ps _ counted.following content rest (argument_again end counted.info (length read) counted.following (content ++ rest) counted.argument) refl h.3 h.4
      | Encloses.indefinite e ↦
          ap (item_at (suc levels) end) (ap (λ (l : List ℕ). l ++ rest) e ∙ ap (λ (l : List ℕ). begin 5 ∷ l) (append_assoc content (break ∷ []) rest))
          ∙ open_begins (suc levels) end (begin 5) major_type.Map (content ++ break ∷ rest) refl ∙ map_open levels end Part again starts read ps _ content rest h.3 h.4
    ]
nest_again levels end Part again starts (tag n t) bytes rest h =
    let head = h.0 in
    let content = h.1 in
    let counted = h.2 in
    ap (item_at (suc levels) end) (ap (λ (l : List ℕ). l ++ rest) h.3 ∙ append_assoc head content rest) ∙ head_begins (suc levels) end n major_type.Tag head (content ++ rest) counted tt
    ∙ tag_definite levels end n counted.info Part again t _ counted.following content rest (argument_again end counted.info n counted.following (content ++ rest) counted.argument) h.4

starts_if : (levels end : ℕ) → Reads (SpellsWithin levels) (item_at levels end) → PartStarts (SpellsWithin levels)
starts_if levels end again bytes t h = subst Starts (append-nil bytes) (read_starts levels end (bytes ++ []) (t, []) (again bytes t [] h))

nest_or_plain : (levels end : ℕ) → Reads (SpellsWithin levels) (item_at levels end) → (bytes : List ℕ) (t : Tree) (rest : List ℕ) → SpellsPlain bytes t ⊎ SpellsNest (SpellsWithin levels) bytes t
    → item_at (suc levels) end (bytes ++ rest) ≡ Ok (t, rest)
nest_or_plain levels end again bytes t rest (inl plain) = plain_again (suc levels) end t bytes rest plain
nest_or_plain levels end again bytes t rest (inr nest) = nest_again levels end (SpellsWithin levels) again (starts_if levels end again) t bytes rest nest

pub within_again : (levels end : ℕ) → Reads (SpellsWithin levels) (item_at levels end)
unfolding SpellsWithin
within_again zero end bytes t rest h = plain_again zero end t bytes rest h
within_again (suc levels) end bytes t rest h = nest_or_plain levels end (within_again levels end) bytes t rest h

pub within_starts : (levels end : ℕ) → PartStarts (SpellsWithin levels)
within_starts levels end = starts_if levels end (within_again levels end)
