-- Where items or pairs one after the other are not read, one of them breaks.
use Rattle.std.proofs.Common.{◌≡◌, ℕ, zero, suc, ◌+◌, ◌-◌, ◌<◌, ◌≤◌, true, false, cond, List, [], ◌∷◌, ◌++◌, length, get_or, Ok, Err, refl, sym, ap, ◌∙◌, subst, inl, inr, arith, append_assoc}
use Rattle.std.specs.Prelude.{◌==◌}
use Rattle.std.specs.List.{AllByRecursion}
use Rattle.std.proofs.lemmas.Bool.{eqb-false}
use Rattle.std.proofs.lemmas.List.{length-append, nil_from_length}
use Rattle.cbor_profile.specs.declared.fault.CborFault.{CborFault}
use Rattle.cbor_profile.specs.declared.fault.CborFault.TheVariants.{Short, Duplicate}
use Rattle.cbor_profile.specs.Tree.{Tree, Trees, no_items, item, count}
use Rattle.cbor_profile.specs.Spelling.{break, SpellsItems, SpellsPairs}
use Rattle.cbor_profile.specs.Breaking.{AreDistinct, BreaksPair}
use Rattle.cbor_profile.specs.Keys.{has_key, put}
use Rattle.cbor_profile.specs.ItemReading.{Read, ◌>>=◌, items_at, open_items_at, pair_at, pairs_at, open_pairs_at}
use Rattle.cbor_profile.proofs.Results.{bind_err, err_is, not_both, chosen, broken}
use Rattle.cbor_profile.proofs.Firsts.{Starts}
use Rattle.cbor_profile.proofs.Nested.{PartStarts}
use Rattle.cbor_profile.proofs.Ordered.{Runs, runs_in_order}
use Rattle.cbor_profile.proofs.Taken.{Took, Takes, Pair, pair_taken}
use Rattle.cbor_profile.proofs.Faults.{end_after}
use Rattle.cbor_profile.proofs.Sound.{ShortBytes, short_front, short_rest, PartSound, PairSound, pairs_sound}
use Rattle.cbor_profile.proofs.Places.{KeySound}
use Rattle.cbor_profile.proofs.Keys.{key_permutation, has_true_key, fresh_not, runs_distinct, runs_sound}
use Rattle.std.proofs.lemmas.List.Sorted.{IsPermutation-sym}

abbrev pub Faults : (ℕ → List ℕ → CborFault → Type 0) → (List ℕ → Read Tree) → ℕ → Type 0
Faults Break read end = (at : ℕ) (bytes : List ℕ) (f : CborFault) → ShortBytes bytes → at + length bytes ≡ end → read bytes ≡ Err f → Break at bytes f

pub record ItemsBreak (Part : List ℕ → Tree → Type 0) (Break : ℕ → List ℕ → CborFault → Type 0) (at : ℕ) (bytes : List ℕ) (f : CborFault) : Type 0 where
  pub ts : Trees
  pub content : List ℕ
  pub more : List ℕ
  pub is : bytes ≡ content ++ more
  pub items : SpellsItems Part content ts
  pub breaks : Break (at + length content) more f

-- how the next pair breaks, behind pairs that were put in order
pub data PairBreaks (Part : List ℕ → Tree → Type 0) (Break : ℕ → List ℕ → CborFault → Type 0) (acc : List (Tree × Tree)) (at : ℕ) (bytes : List ℕ) (f : CborFault) : Type 0 where
  key : Break at bytes f → PairBreaks Part Break acc at bytes f
  duplicate : (k : Tree) (front more : List ℕ) → bytes ≡ front ++ more → Part front k → has_key k acc ≡ true → f ≡ Duplicate at → PairBreaks Part Break acc at bytes f
  value : (k : Tree) (front more : List ℕ) → bytes ≡ front ++ more → Part front k → has_key k acc ≡ false → Break (at + length front) more f → PairBreaks Part Break acc at bytes f

pub record PairsBreak (Part : List ℕ → Tree → Type 0) (Break : ℕ → List ℕ → CborFault → Type 0) (acc : List (Tree × Tree)) (at : ℕ) (bytes : List ℕ) (f : CborFault) : Type 0 where
  pub read : List (Tree × Tree)
  pub content : List ℕ
  pub more : List ℕ
  pub final : List (Tree × Tree)
  pub is : bytes ≡ content ++ more
  pub pairs : SpellsPairs Part content read
  pub runs : Runs acc read final
  pub breaks : PairBreaks Part Break final (at + length content) more f

-- an indefinite length doesn't end here
abbrev pub NoEnd : List ℕ → Type 0
NoEnd more = (rest : List ℕ) → more ≡ break ∷ rest → ⊥

first_no_end : (first : ℕ) (bytes : List ℕ) → (first == break) ≡ false → NoEnd (first ∷ bytes)
first_no_end first bytes goes rest is = eqb-false first break goes (ap (λ (l : List ℕ). get_or l 0 0) is)

nothing_no_end : (bytes : List ℕ) → bytes ≡ [] → NoEnd bytes
nothing_no_end bytes empty rest is = let a = ap length empty in let b = ap length is in absurd (omega arith)

starts_long : (bytes : List ℕ) → Starts bytes → 1 ≤ length bytes
starts_long bytes s = let e = ap length s.is in omega arith

module _ (Part : List ℕ → Tree → Type 0) (Break : ℕ → List ℕ → CborFault → Type 0) (read : List ℕ → Read Tree) (end : ℕ) (starts : PartStarts Part) (takes : Takes Part read) (faults : Faults Break read end)
    (nothing : read [] ≡ Err (Short end)) where
  items_now : (at : ℕ) (bytes : List ℕ) (f : CborFault) → Break at bytes f → ItemsBreak Part Break at bytes f
  items_now at bytes f b =
      let place : at ≡ at + 0 = omega arith in
      record { ts = no_items; content = []; more = bytes; is = refl; items = refl; breaks = subst (λ (p : ℕ). Break p bytes f) place b }

  abbrev items_later : (at : ℕ) (bytes : List ℕ) (f : CborFault) (x : Tree × List ℕ) (one : Took Part bytes x) → ItemsBreak Part Break (at + length one.front) x.1 f → ItemsBreak Part Break at bytes f
  items_later at bytes f x one rest =
      let sum = length-append one.front rest.content in
      let place : at + length one.front + length rest.content ≡ at + length (one.front ++ rest.content) = omega arith in record {
        ts = item x.0 rest.ts;
        content = one.front ++ rest.content;
        more = rest.more;
        is = one.is ∙ ap (λ (l : List ℕ). one.front ++ l) rest.is ∙ sym (append_assoc one.front rest.content rest.more);
        items = (one.front, rest.content, refl, one.part, rest.items);
        breaks = subst (λ (p : ℕ). Break p rest.more f) place rest.breaks;
      }

  pub items_broken : (n at : ℕ) (bytes : List ℕ) (f : CborFault) → ShortBytes bytes → at + length bytes ≡ end → items_at read n bytes ≡ Err f → (b : ItemsBreak Part Break at bytes f) × (count b.ts < n)
  unfolding items_at items_now
  items_broken zero at bytes f held h e = absurd (not_both _ f e)
  items_broken (suc n) at bytes f held h e = elim (bind_err (read bytes) (λ first. items_at read n first.1 >>= λ others. Ok (first.0 ∷ others.0, others.1)) f e) [
    | inl now ↦ (items_now at bytes f (faults at bytes f held h now), omega arith)
    | inr next ↦
        let x = next.0 in
        let one = takes bytes x held.each next.1 in
        elim (bind_err (items_at read n x.1) (λ others. Ok (x.0 ∷ others.0, others.1)) f next.2) [
          | inl later ↦
              let rest = items_broken n (at + length one.front) x.1 f (short_rest bytes one.front x.1 held one.is) (end_after at end bytes one.front x.1 h one.is) later in
              let fewer = rest.1 in
              (items_later at bytes f x one rest.0, omega arith)
          | inr good ↦ absurd (not_both _ f good.2)
        ]
  ]

  at_nothing : (at : ℕ) (bytes : List ℕ) (f : CborFault) → ShortBytes bytes → at + length bytes ≡ end → bytes ≡ [] → Short end ≡ f → Break at bytes f
  at_nothing at bytes f held h empty is = faults at bytes f held h (ap read empty ∙ nothing ∙ ap (λ (g : CborFault). broken {A = Tree × List ℕ} g) is)

  pub open_items_broken : (fuel at : ℕ) (bytes : List ℕ) (f : CborFault) → ShortBytes bytes → at + length bytes ≡ end → length bytes ≤ fuel → open_items_at read fuel end bytes ≡ Err f
      → (b : ItemsBreak Part Break at bytes f) × NoEnd b.more
  unfolding open_items_at items_now
  open_items_broken zero at bytes f held h enough e =
      let empty = nil_from_length bytes (omega arith) in
      (items_now at bytes f (at_nothing at bytes f held h empty (err_is {A = List Tree × List ℕ} (Short end) f e)), nothing_no_end bytes empty)
  open_items_broken (suc fuel) at [] f held h enough e = (items_now at [] f (at_nothing at [] f held h refl (err_is {A = List Tree × List ℕ} (Short end) f e)), nothing_no_end [] refl)
  open_items_broken (suc fuel) at (first ∷ bytes) f held h enough e = elim (chosen (first == break) (Ok ([], bytes)) (read (first ∷ bytes) >>= λ item. open_items_at read fuel end item.1 >>= λ others. Ok (item.0 ∷ others.0, others.1)) (Err f) e) [
    | inl ends ↦ absurd (not_both _ f ends.1)
    | inr goes ↦ elim (bind_err (read (first ∷ bytes)) (λ item. open_items_at read fuel end item.1 >>= λ others. Ok (item.0 ∷ others.0, others.1)) f goes.1) [
      | inl now ↦ (items_now at (first ∷ bytes) f (faults at (first ∷ bytes) f held h now), first_no_end first bytes goes.0)
      | inr next ↦
          let x = next.0 in
          let one = takes (first ∷ bytes) x held.each next.1 in
          let some = starts_long one.front (starts one.front x.0 one.part) in
          let l = ap length one.is in
          let m = length-append one.front x.1 in
          elim (bind_err (open_items_at read fuel end x.1) (λ others. Ok (x.0 ∷ others.0, others.1)) f next.2) [
            | inl later ↦
                let rest = open_items_broken fuel (at + length one.front) x.1 f (short_rest (first ∷ bytes) one.front x.1 held one.is) (end_after at end (first ∷ bytes) one.front x.1 h one.is) (omega arith) later in
                (items_later at (first ∷ bytes) f x one rest.0, rest.1)
            | inr good ↦ absurd (not_both _ f good.2)
          ]
    ]
  ]

  -- ---- pairs

  abbrev value_then : List (Tree × Tree) → Tree × List ℕ → Read (List (Tree × Tree))
  value_then acc k = read k.1 >>= λ v. Ok (put k.0 v.0 acc, v.1)

  pair_broken : (acc : List (Tree × Tree)) (at : ℕ) (bytes : List ℕ) (f : CborFault) → ShortBytes bytes → at + length bytes ≡ end → pair_at read end acc bytes ≡ Err f → PairBreaks Part Break acc at bytes f
  unfolding pair_at
  pair_broken acc at bytes f held h e = elim (bind_err (read bytes) (λ key. cond (has_key key.0 acc) (broken (Duplicate (end - length bytes))) (value_then acc key)) f e) [
    | inl now ↦ PairBreaks.key (faults at bytes f held h now)
    | inr next ↦
        let x = next.0 in
        let key = takes bytes x held.each next.1 in
        elim (chosen (has_key x.0 acc) (broken (Duplicate (end - length bytes))) (value_then acc x) (Err f) next.2) [
          | inl again ↦
              let is : f ≡ Duplicate at = sym (err_is {A = List (Tree × Tree) × List ℕ} (Duplicate (end - length bytes)) f again.1) ∙ ap Duplicate (omega arith) in
              PairBreaks.duplicate x.0 key.front x.1 key.is key.part again.0 is
          | inr fresh ↦ elim (bind_err (read x.1) (λ value. Ok (put x.0 value.0 acc, value.1)) f fresh.1) [
            | inl later ↦ PairBreaks.value x.0 key.front x.1 key.is key.part fresh.0 (faults (at + length key.front) x.1 f (short_rest bytes key.front x.1 held key.is) (end_after at end bytes key.front x.1 h key.is) later)
            | inr good ↦ absurd (not_both _ f good.2)
          ]
        ]
  ]

  abbrev pairs_now : (acc : List (Tree × Tree)) (at : ℕ) (bytes : List ℕ) (f : CborFault) → PairBreaks Part Break acc at bytes f → PairsBreak Part Break acc at bytes f
  pairs_now acc at bytes f b =
      let place : at ≡ at + 0 = omega arith in
      record { read = []; content = []; more = bytes; final = acc; is = refl; pairs = refl; runs = refl; breaks = subst (λ (p : ℕ). PairBreaks Part Break acc p bytes f) place b }

  abbrev pairs_later : (acc : List (Tree × Tree)) (at : ℕ) (bytes : List ℕ) (f : CborFault) (y : List (Tree × Tree) × List ℕ) (one : Pair Part acc bytes y) → PairsBreak Part Break y.0 (at + length (one.key ++ one.value)) y.1 f → PairsBreak Part Break acc at bytes f
  pairs_later acc at bytes f y one rest =
      let regrouped = append_assoc one.key one.value rest.content in
      let sum = length-append (one.key ++ one.value) rest.content in
      let same = ap length regrouped in
      let place : at + length (one.key ++ one.value) + length rest.content ≡ at + length (one.key ++ (one.value ++ rest.content)) = omega arith in record {
        read = (one.k, one.v) ∷ rest.read;
        content = one.key ++ (one.value ++ rest.content);
        more = rest.more;
        final = rest.final;
        is =
            one.is ∙ ap (λ (l : List ℕ). one.key ++ (one.value ++ l)) rest.is ∙ ap (λ (l : List ℕ). one.key ++ l) (sym (append_assoc one.value rest.content rest.more))
            ∙ sym (append_assoc one.key (one.value ++ rest.content) rest.more);
        pairs = (one.key, one.value, rest.content, refl, one.key_part, one.value_part, rest.pairs);
        runs = (one.fresh, subst (λ (l : List (Tree × Tree)). Runs l rest.read rest.final) (sym one.put_is) rest.runs);
        breaks = subst (λ (p : ℕ). PairBreaks Part Break rest.final p rest.more f) place rest.breaks;
      }

  pair_front : (acc : List (Tree × Tree)) (bytes : List ℕ) (y : List (Tree × Tree) × List ℕ) (one : Pair Part acc bytes y) → bytes ≡ (one.key ++ one.value) ++ y.1
  pair_front acc bytes y one = one.is ∙ sym (append_assoc one.key one.value y.1)

  pub pairs_broken : (n : ℕ) (acc : List (Tree × Tree)) (at : ℕ) (bytes : List ℕ) (f : CborFault) → ShortBytes bytes → at + length bytes ≡ end → pairs_at read end n acc bytes ≡ Err f
      → (b : PairsBreak Part Break acc at bytes f) × (length b.read < n)
  unfolding pairs_at
  pairs_broken zero acc at bytes f held h e = absurd (not_both _ f e)
  pairs_broken (suc n) acc at bytes f held h e = elim (bind_err (pair_at read end acc bytes) (λ more. pairs_at read end n more.0 more.1) f e) [
    | inl now ↦ (pairs_now acc at bytes f (pair_broken acc at bytes f held h now), omega arith)
    | inr next ↦
        let y = next.0 in
        let one = pair_taken Part read takes end acc bytes y held.each next.1 in
        let front = pair_front acc bytes y one in
        let rest = pairs_broken n y.0 (at + length (one.key ++ one.value)) y.1 f (short_rest bytes (one.key ++ one.value) y.1 held front) (end_after at end bytes (one.key ++ one.value) y.1 h front) next.2 in
        let fewer = rest.1 in
        (pairs_later acc at bytes f y one rest.0, omega arith)
  ]

  pub open_pairs_broken : (fuel : ℕ) (acc : List (Tree × Tree)) (at : ℕ) (bytes : List ℕ) (f : CborFault) → ShortBytes bytes → at + length bytes ≡ end → length bytes ≤ fuel → open_pairs_at read fuel end acc bytes ≡ Err f
      → (b : PairsBreak Part Break acc at bytes f) × NoEnd b.more
  unfolding open_pairs_at
  open_pairs_broken zero acc at bytes f held h enough e =
      let empty = nil_from_length bytes (omega arith) in
      (pairs_now acc at bytes f (PairBreaks.key (at_nothing at bytes f held h empty (err_is {A = List (Tree × Tree) × List ℕ} (Short end) f e))), nothing_no_end bytes empty)
  open_pairs_broken (suc fuel) acc at [] f held h enough e =
      (pairs_now acc at [] f (PairBreaks.key (at_nothing at [] f held h refl (err_is {A = List (Tree × Tree) × List ℕ} (Short end) f e))), nothing_no_end [] refl)
  open_pairs_broken (suc fuel) acc at (first ∷ bytes) f held h enough e = elim (chosen (first == break) (Ok (acc, bytes)) (pair_at read end acc (first ∷ bytes) >>= λ more. open_pairs_at read fuel end more.0 more.1) (Err f) e) [
    | inl ends ↦ absurd (not_both _ f ends.1)
    | inr goes ↦ elim (bind_err (pair_at read end acc (first ∷ bytes)) (λ more. open_pairs_at read fuel end more.0 more.1) f goes.1) [
      | inl now ↦ (pairs_now acc at (first ∷ bytes) f (pair_broken acc at (first ∷ bytes) f held h now), first_no_end first bytes goes.0)
      | inr next ↦
          let y = next.0 in
          let one = pair_taken Part read takes end acc (first ∷ bytes) y held.each next.1 in
          let front = pair_front acc (first ∷ bytes) y one in
          let some = starts_long one.key (starts one.key one.k one.key_part) in
          let l = ap length front in
          let m = length-append (one.key ++ one.value) y.1 in
          let k = length-append one.key one.value in
          let rest = open_pairs_broken fuel y.0 (at + length (one.key ++ one.value)) y.1 f (short_rest (first ∷ bytes) (one.key ++ one.value) y.1 held front) (end_after at end (first ∷ bytes) (one.key ++ one.value) y.1 h front) (omega arith) next.2 in
          (pairs_later acc at (first ∷ bytes) f y one rest.0, rest.1)
    ]
  ]

-- ---- the keys, as items

key_sounds : (levels : ℕ) (ps : List (Tree × Tree)) → AllByRecursion (PairSound levels) ps → AllByRecursion KeySound ps
key_sounds levels [] all = tt
key_sounds levels (p ∷ ps) all = ((all.0).0, key_sounds levels ps all.1)

module _ (levels : ℕ) (Part : List ℕ → Tree → Type 0) (Break : ℕ → List ℕ → CborFault → Type 0) (starts : PartStarts Part) (sound : PartSound levels Part) where
  pub read_sounds : (read : List (Tree × Tree)) (content : List ℕ) → ShortBytes content → SpellsPairs Part content read → AllByRecursion KeySound read
  read_sounds read content held pairs = key_sounds levels read (pairs_sound levels Part starts sound read content held pairs).0

  pair_breaks : (read final : List (Tree × Tree)) (at : ℕ) (bytes : List ℕ) (f : CborFault) → ShortBytes bytes → Runs [] read final → AllByRecursion KeySound read → PairBreaks Part Break final at bytes f → BreaksPair Part Break read at bytes f
  pair_breaks read final at bytes f held runs sounds b =
      let same = (runs_in_order read [] final tt runs).1 in
      elim b [
        | PairBreaks.key now ↦ BreaksPair.key now
        | PairBreaks.duplicate k front more is part has e ↦
            let one = sound front k (short_front bytes front more held is) part in
            let key = has_true_key final k (runs_sound read [] final tt sounds runs) one.0 has in
            BreaksPair.duplicate k front more is part (key_permutation final read k (IsPermutation-sym _ _ same) key) e
        | PairBreaks.value k front more is part fresh later ↦ BreaksPair.value k front more is part (λ key. fresh_not final k fresh (key_permutation read final k same key)) later
      ]

  pub pairs_break : (at : ℕ) (bytes : List ℕ) (f : CborFault) (b : PairsBreak Part Break [] at bytes f) → ShortBytes bytes → AreDistinct b.read × BreaksPair Part Break b.read (at + length b.content) b.more f
  pairs_break at bytes f b held =
      let sounds = read_sounds b.read b.content (short_front bytes b.content b.more held b.is) b.pairs in
      (runs_distinct b.read [] b.final b.runs, pair_breaks b.read b.final (at + length b.content) b.more f (short_rest bytes b.content b.more held b.is) b.runs sounds b.breaks)
