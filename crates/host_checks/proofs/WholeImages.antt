-- A disk of zeros to which a whole image is written.
use Rattle.std.proofs.Common.{◌≡◌, ◌≢◌, ◌⊎◌, inl, inr, ℕ, ◌+◌, ◌-◌, ◌<◌, ◌≤◌, zero, suc, List, [], ◌∷◌, length, take, drop, get_or, le_refl, Option, Some, None, refl, sym, ap, subst, ◌∙◌, arith}
use Rattle.std.specs.Prelude.{◌==◌, slice_index_or}
use Rattle.std.proofs.lemmas.List.{take_all}
use Rattle.std.proofs.lemmas.Bool.{cases_Bool, eqb-true, eqb-false}
use Rattle.std.proofs.Math.Path.{fun_ext}
use Rattle.dots_host.specs.Media.{Media, byte_of, bytes_at}
use Rattle.dots_host.specs.Becoming.{Leaves, RestsWith}
use Rattle.dots_host.proofs.WrittenLemmas.{byte_of_bytes_at}
use Rattle.slot_store.specs.Layout.{IsZeroFrom}
use Rattle.slot_store.specs.Opening.{IsOpening, IsOpened, Is}
use Rattle.slot_store.proofs.Steps.{leaves_as, rests_as}
use Rattle.host_checks.specs.Making.{IsNoneOrWhole}

none_beyond : (bytes : List ℕ) (place : ℕ) → length bytes ≤ place → byte_of bytes place ≡ 0
none_beyond [] place far = refl
none_beyond (b ∷ bytes) zero far = absurd (omega (arith, far))
none_beyond (b ∷ bytes) (suc place) far = none_beyond bytes place (omega (arith, far))

behind_gate : (rest : List ℕ) (left seen : ℕ → ℕ) → IsZeroFrom 0 seen → left 0 ≡ 165 → bytes_at left 1 (length rest) ≡ rest
    → ((place : ℕ) → (place < 0 ⊎ 0 + 1 + length rest ≤ place) → left place ≡ seen place) → (place : ℕ) → left place ≡ byte_of (165 ∷ rest) place
behind_gate rest left seen zeros gate bytes kept zero = gate
behind_gate rest left seen zeros gate bytes kept (suc k) =
    elim (within_or k (length rest)) [
      | inl less ↦
          ap left (next k) ∙ sym (byte_of_bytes_at left 1 (length rest) k less) ∙ ap (λ (bs : List ℕ). byte_of bs k) bytes
      | inr far ↦
          kept (suc k) (inr (omega (arith, far))) ∙ zeros (suc k) (omega arith) ∙ sym (none_beyond rest k far)
    ]
  where
    next : (n : ℕ) → suc n ≡ 1 + n
    next n = omega arith

    within_or : (a b : ℕ) → (a < b) ⊎ (b ≤ a)
    within_or a zero = inr (omega arith)
    within_or zero (suc b) = inl (omega arith)
    within_or (suc a) (suc b) = elim (within_or a b) [
      | inl less ↦ inl (omega (arith, less))
      | inr far ↦ inr (omega (arith, far))
    ]

opening_none_or_whole : (rest : List ℕ) (seen left : ℕ → ℕ) → IsZeroFrom 0 seen → IsOpening seen 0 rest left → IsNoneOrWhole (165 ∷ rest) left
opening_none_or_whole rest seen left zeros opening =
    elim opening.gate [
      | inl same ↦ inl (λ gate. let none = zeros 0 (omega arith) in omega (arith, same, none, gate))
      | inr bytes ↦ elim (cases_Bool (left 0 == 165)) [
        | inl gate ↦ inr (fun_ext (behind_gate rest left seen zeros (eqb-true (left 0) 165 gate) bytes opening.kept))
        | inr shut ↦ inl (eqb-false (left 0) 165 shut)
      ]
    ]

opened_whole : (rest : List ℕ) (seen left : ℕ → ℕ) → IsZeroFrom 0 seen → IsOpened seen 0 rest left → left ≡ byte_of (165 ∷ rest)
opened_whole rest seen left zeros opened = fun_ext (behind_gate rest left seen zeros opened.gate opened.bytes opened.kept)

pub leaves_whole : (old new : Option Media) (image rest : List ℕ) → image ≡ 165 ∷ rest → ((seen : ℕ → ℕ) → RestsWith old (Is seen) → Leaves old new (IsOpening seen 0 rest))
    → RestsWith old (IsZeroFrom 0) → Leaves old new (IsNoneOrWhole image)
leaves_whole None new image rest is goes rests = absurd rests
leaves_whole (Some old) new image rest is goes rests =
    leaves_as
    (Some old)
    new
    (IsOpening old.now.seen 0 rest)
    (IsNoneOrWhole image)
    (λ left opening. subst (λ whole. IsNoneOrWhole whole left) (sym is) (opening_none_or_whole rest old.now.seen left rests.1 opening))
    (goes old.now.seen (rests.0, refl))

pub rests_whole : (old new : Option Media) (image rest : List ℕ) → image ≡ 165 ∷ rest → ((seen : ℕ → ℕ) → RestsWith old (Is seen) → RestsWith new (IsOpened seen 0 rest))
    → RestsWith old (IsZeroFrom 0) → RestsWith new (λ left. left ≡ byte_of image)
rests_whole None new image rest is goes rests = absurd rests
rests_whole (Some old) new image rest is goes rests =
    rests_as
    new
    (IsOpened old.now.seen 0 rest)
    (λ left. left ≡ byte_of image)
    (λ left opened. opened_whole rest old.now.seen left rests.1 opened ∙ ap byte_of (sym is))
    (goes old.now.seen (rests.0, refl))

-- what begins with an open gate
pub begins : (image : List ℕ) → 1 ≤ length image → get_or image 0 0 ≡ 165 → image ≡ 165 ∷ take (length image - 1) (drop 1 image)
begins [] some gate = absurd (omega (arith, some))
begins (x ∷ xs) some gate =
    ap (λ first. first ∷ xs) gate ∙ ap (λ rest. 165 ∷ rest) (sym (ap (λ n. take n xs) (less xs) ∙ take_all (length xs) xs (le_refl (length xs))))
  where
    less : (ys : List ℕ) → length (x ∷ ys) - 1 ≡ length ys
    less ys = omega arith
