-- What the body of a record of the second format is made of, by the number of the change.
use Rattle.std.proofs.Common.{arith, ◌∙◌, sym, ap, ◌≡◌, ℕ, suc, ◌+◌, ◌<◌, ◌≤◌, ◌==◌, List, [], ◌∷◌, ◌++◌, length, take, drop, set, slice_index_or, if◌then◌else◌, inl, inr}
use Rattle.std.proofs.lemmas.Bool.{ne_eqb, cases_lt}
use Rattle.std.proofs.lemmas.List.{take_more_set, set_split, length-set, length-take-le, get_or_past}
use Rattle.std.proofs.Math.Seq.{take-set-lt}
use Rattle.slot_store.specs.Formats.{change_place, triggered, triggered_at}

-- a mitigation that filters at once
pub active : (bytes : List ℕ) (at number : ℕ) → at ≡ change_place bytes → number ≡ slice_index_or bytes at 0 → number ≡ 1 → bytes ++ 1 ∷ [] ≡ triggered bytes
unfolding triggered
active bytes at number there is one =
    ap (λ n. triggered_at at n bytes) (sym one ∙ is) ∙ ap (λ at. triggered_at at (slice_index_or bytes at 0) bytes) there

-- one that waits
pub waiting : (bytes : List ℕ) (at number : ℕ) → at ≡ change_place bytes → number ≡ slice_index_or bytes at 0 → number ≡ 13
    → take at bytes ++ 1 ∷ drop (at + 1) bytes ++ 0 ∷ [] ≡ triggered bytes
unfolding triggered
waiting bytes at number there is thirteen =
    ap (λ n. triggered_at at n bytes) (sym thirteen ∙ is) ∙ ap (λ at. triggered_at at (slice_index_or bytes at 0) bytes) there

-- any other change
pub other : (bytes : List ℕ) (at number : ℕ) → at ≡ change_place bytes → number ≡ slice_index_or bytes at 0 → (number ≡ 1 → ⊥) → (number ≡ 13 → ⊥) → bytes ≡ triggered bytes
unfolding triggered
other bytes at number there is not_put not_waiting =
    sym (ap (λ b. if b then bytes ++ 1 ∷ [] else (if number == 13 then take at bytes ++ 1 ∷ drop (at + 1) bytes ++ 0 ∷ [] else bytes)) (ne_eqb number 1 not_put)
    ∙ ap (λ b. if b then take at bytes ++ 1 ∷ drop (at + 1) bytes ++ 0 ∷ [] else bytes) (ne_eqb number 13 not_waiting))
    ∙ ap (λ n. triggered_at at n bytes) is ∙ ap (λ at. triggered_at at (slice_index_or bytes at 0) bytes) there

-- a byte that isn't zero stands within the bytes
pub inside : (bytes : List ℕ) (at number : ℕ) → number ≡ slice_index_or bytes at 0 → number ≡ 13 → at < length bytes
inside bytes at number is thirteen =
    elim (cases_lt at (length bytes)) [ inl low ↦ low | inr past ↦ absurd (omega (arith, thirteen, is, get_or_past bytes at 0 past)) ]

split : (bytes : List ℕ) (at : ℕ) → at < length bytes → set bytes at 1 ≡ take at bytes ++ 1 ∷ drop (at + 1) bytes
split bytes at within = set_split bytes at 1 within ∙ ap (λ n. take at bytes ++ 1 ∷ drop n bytes) next where
  next : suc at ≡ at + 1
  next = omega arith

-- what is written of one that waits
pub written : (room : List ℕ) (at len : ℕ) → at < len → len < length room
    → take (len + 1) (set (set room at 1) len 0) ≡ take at (take len room) ++ 1 ∷ drop (at + 1) (take len room) ++ 0 ∷ []
written room at len within fits =
    let short : len ≤ length room = omega arith in
    let there : at < length (take len room) = rw (length-take-le len room short) within in
    take_more_set (set room at 1) len 0 (rw (length-set room at 1) fits)
    ∙ ap (λ bytes. bytes ++ 0 ∷ []) (take-set-lt len room at 1 within ∙ split (take len room) at there)
