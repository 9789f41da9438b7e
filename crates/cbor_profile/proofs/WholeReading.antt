-- What reading all of the bytes says of their spelling.
use Rattle.std.proofs.Common.{◌≡◌, ℕ, suc, ◌-◌, ◌<◌, ◌^◌, cond, List, [], ◌∷◌, ◌++◌, length, get_or, take, Result, Ok, Err, refl, sym, ap, ◌∙◌, subst, inl, inr, arith}
use Rattle.std.specs.Prelude.{◌==◌, ◌⊎◌}
use Rattle.std.proofs.lemmas.Bool.{eqb-true, eqb-false, ne_eqb}
use Rattle.std.proofs.lemmas.List.{length-append, append-nil, nil_from_length, take_at}
use Rattle.cbor_profile.specs.declared.fault.CborFault.{CborFault}
use Rattle.cbor_profile.specs.declared.fault.CborFault.TheVariants.{Trailing}
use Rattle.cbor_profile.specs.Tree.{Tree}
use Rattle.cbor_profile.specs.Canon.{canon}
use Rattle.cbor_profile.specs.Valid.{IsValid}
use Rattle.cbor_profile.specs.Spelling.{Spells, SpellsWithin}
use Rattle.cbor_profile.specs.Breaking.{Breaks, IsTrailing, Refuses}
use Rattle.cbor_profile.specs.ItemReading.{Read, item_at, whole}
use Rattle.cbor_profile.proofs.Results.{bind_ok, bind_err, chosen, ok_is, err_is, not_both, done, broken}
use Rattle.cbor_profile.proofs.Beginnings.{AreBytes}
use Rattle.cbor_profile.proofs.Nested.{within_again}
use Rattle.cbor_profile.proofs.Spellings.{canon_spells}
use Rattle.cbor_profile.proofs.Spelled.{within_taken}
use Rattle.cbor_profile.proofs.Sound.{ShortBytes, within_sound}
use Rattle.cbor_profile.proofs.Broken.{within_broken}
use Rattle.cbor_profile.proofs.Refusals.{within_refused}

-- the bytes of a slice
bytes_from : (bytes : List ℕ) → ((i : ℕ) → get_or bytes i 0 < 256) → AreBytes bytes
bytes_from [] h = tt
bytes_from (b ∷ bytes) h = (h 0, bytes_from bytes (λ i. h (suc i)))

pub short_bytes : (bytes : List ℕ) → ((i : ℕ) → get_or bytes i 0 < 256) → length bytes < 2 ^ 64 → ShortBytes bytes
short_bytes bytes h short = record { each = bytes_from bytes h; short = short }

-- ---- one spelling

pub same_reading : (a b x y : List ℕ) (s t : Tree) (levels : ℕ) → SpellsWithin levels a s → SpellsWithin levels b t → a ++ x ≡ b ++ y → (s ≡ t) × (x ≡ y)
same_reading a b x y s t levels f g e =
    let both = ok_is (s, x) (t, y) (sym (within_again levels 0 a s x f) ∙ ap (item_at levels 0) e ∙ within_again levels 0 b t y g) in
    (ap (λ (p : Tree × List ℕ). p.0) both, ap (λ (p : Tree × List ℕ). p.1) both)

pub same_front : (a b x y : List ℕ) → x ≡ y → a ++ x ≡ b ++ y → a ≡ b
same_front a b x y same e =
    let l = ap length e in
    let m = length-append a x in
    let n = length-append b y in
    let k = ap length same in
    sym (take_at a x (length a) refl) ∙ ap (take (length a)) e ∙ take_at b y (length a) (omega arith)

pub canon_is : (tree : Tree) → IsValid tree → Spells (canon tree) tree 0
canon_is tree valid = (omega arith, canon_spells tree 16 valid.sound valid.nests)

pub spelled_valid : (bytes : List ℕ) (tree : Tree) → ShortBytes bytes → Spells bytes tree 0 → IsValid tree
spelled_valid bytes tree h spelled = let sound = within_sound 16 bytes tree h spelled.1 in record { sound = sound.0; nests = sound.1 }

-- ---- one reading

pub reading : (bytes : List ℕ) → ShortBytes bytes → (r : Read Tree) → item_at 16 (length bytes) bytes ≡ r
    → ((front : List ℕ) × (rest : List ℕ) × (tree : Tree) × (bytes ≡ front ++ rest) × Spells front tree 0) ⊎ ((fault : CborFault) × Breaks bytes 0 fault)
reading bytes h (Ok x) is = let t = within_taken 16 (length bytes) bytes x h.each is in inl (t.front, x.1, x.0, t.is, (omega arith, t.part))
reading bytes h (Err f) is = inr (f, (omega arith, within_broken 16 (length bytes) 0 bytes f h (omega arith) is))

pub breaks_read : (bytes : List ℕ) (f : CborFault) → ShortBytes bytes → Breaks bytes 0 f → item_at 16 (length bytes) bytes ≡ Err f
breaks_read bytes f h b = within_refused 16 (length bytes) 0 bytes f h (omega arith) b.1

pub one_fault : (bytes : List ℕ) (f g : CborFault) → ShortBytes bytes → Breaks bytes 0 f → Breaks bytes 0 g → f ≡ g
one_fault bytes f g h a b = err_is {A = Tree × List ℕ} f g (sym (breaks_read bytes f h a) ∙ breaks_read bytes g h b)

pub not_spelled : (bytes front rest : List ℕ) (tree : Tree) (f : CborFault) → ShortBytes bytes → bytes ≡ front ++ rest → Spells front tree 0 → Breaks bytes 0 f → ⊥
not_spelled bytes front rest tree f h is spelled b =
    not_both (tree, rest) f (sym (within_again 16 (length bytes) front tree rest spelled.1) ∙ ap (item_at 16 (length bytes)) (sym is) ∙ breaks_read bytes f h b)

-- ---- all of the bytes

abbrev ended : List ℕ → Tree × List ℕ → Result Tree CborFault
ended bytes item = cond (length item.1 == 0) (done item.0) (broken (Trailing (length bytes - length item.1)))

pub whole_found : (bytes : List ℕ) (tree : Tree) → ShortBytes bytes → whole bytes ≡ Ok tree → IsValid tree × Spells bytes tree 0
unfolding whole
whole_found bytes tree h e =
    let x = bind_ok (item_at 16 (length bytes) bytes) (ended bytes) tree e in
    elim (chosen (length x.0.1 == 0) (done x.0.0) (broken (Trailing (length bytes - length x.0.1))) (Ok tree) x.2) [
      | inl all ↦
          let t = within_taken 16 (length bytes) bytes x.0 h.each x.1 in
          let empty = nil_from_length x.0.1 (eqb-true _ _ all.0) in
          let is : bytes ≡ t.front = t.is ∙ ap (λ (l : List ℕ). t.front ++ l) empty ∙ append-nil t.front in
          let same = ok_is x.0.0 tree all.1 in
          let part : SpellsWithin 16 bytes tree = subst (λ (u : Tree). SpellsWithin 16 bytes u) same (subst (λ (l : List ℕ). SpellsWithin 16 l x.0.0) (sym is) t.part) in
          let spelled : Spells bytes tree 0 = (omega arith, part) in
          (spelled_valid bytes tree h spelled, spelled)
      | inr more ↦ absurd (not_both tree (Trailing (length bytes - length x.0.1)) (sym more.1))
    ]

pub whole_again : (bytes : List ℕ) (tree : Tree) → Spells bytes tree 0 → whole bytes ≡ Ok tree
unfolding whole
whole_again bytes tree spelled =
    let e : item_at 16 (length bytes) bytes ≡ Ok (tree, []) = ap (item_at 16 (length bytes)) (sym (append-nil bytes)) ∙ within_again 16 (length bytes) bytes tree [] spelled.1 in
    rw e refl

trailing_is : (bytes front rest : List ℕ) (tree : Tree) (f : CborFault) → bytes ≡ front ++ rest → SpellsWithin 16 front tree → (length rest ≡ 0 → ⊥) → f ≡ Trailing (length bytes - length rest) → IsTrailing bytes f
trailing_is bytes front [] tree f is part some e = absurd (some refl)
trailing_is bytes front (next ∷ more) tree f is part some e =
    let l = ap length is in
    let m = length-append front (next ∷ more) in
    record { tree = tree; front = front; next = next; more = more; spelled = (omega arith, part); is = is; fault_is = e ∙ ap Trailing (omega arith) }

pub whole_broken : (bytes : List ℕ) (f : CborFault) → ShortBytes bytes → whole bytes ≡ Err f → Refuses bytes f
unfolding whole
whole_broken bytes f h e = elim (bind_err (item_at 16 (length bytes) bytes) (ended bytes) f e) [
  | inl bad ↦ inl (omega arith, within_broken 16 (length bytes) 0 bytes f h (omega arith) bad)
  | inr next ↦
      let x = next.0 in
      let t = within_taken 16 (length bytes) bytes x h.each next.1 in
      elim (chosen (length x.1 == 0) (done x.0) (broken (Trailing (length bytes - length x.1))) (Err f) next.2) [
        | inl all ↦ absurd (not_both x.0 f all.1)
        | inr more ↦ inr (trailing_is bytes t.front x.1 x.0 f t.is t.part (eqb-false _ _ more.0) (sym (err_is {A = Tree} (Trailing (length bytes - length x.1)) f more.1)))
      ]
]

refused_either : (bytes : List ℕ) (f : CborFault) → ShortBytes bytes → Refuses bytes f → whole bytes ≡ Err f
unfolding whole
refused_either bytes f h (inl b) = let e = breaks_read bytes f h b in rw e refl
refused_either bytes f h (inr t) =
    let e : item_at 16 (length bytes) bytes ≡ Ok (t.tree, t.next ∷ t.more) = ap (item_at 16 (length bytes)) t.is ∙ within_again 16 (length bytes) t.front t.tree (t.next ∷ t.more) (t.spelled).1 in
    let l = ap length t.is in
    let m = length-append t.front (t.next ∷ t.more) in
    let place : length bytes - suc (length t.more) ≡ length t.front = omega arith in
    let some = ne_eqb (length (t.next ∷ t.more)) 0 (λ z. absurd (omega arith)) in
    rw (e, some, place) (ap (λ (g : CborFault). broken {A = Tree} g) (sym t.fault_is))

pub whole_refused : (bytes : List ℕ) (f : CborFault) → ShortBytes bytes → Refuses bytes f → whole bytes ≡ Err f
whole_refused bytes f h r = refused_either bytes f h r
