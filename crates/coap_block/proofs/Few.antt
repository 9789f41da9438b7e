-- How many observers of a peer are known.
use Rattle.std.specs.Prelude.{not, ◌==◌, nat_lt, filter}
use Rattle.std.specs.Set.{remove_key}
use Rattle.std.proofs.Common.{inl, inr, ◌≡◌, ℕ, ◌+◌, ◌<◌, ◌≤◌, Bool, true, false, List, [], ◌∷◌, ◌++◌, length, refl, sym, ap, subst, ◌∙◌, cond, length-append, arith}
use Rattle.std.proofs.lemmas.Bool.{cases_Bool, ltb-true, ltb-false, eqb-true}
use Rattle.std.proofs.lemmas.List.Elements.{filter-append}
use Rattle.coap_block.specs.declared.observed.ObservedRequest.{ObservedRequest}
use Rattle.coap_block.specs.Blocks.{Asked, observed_by, is_of_peer, is_observer, without_observer, with_room, beside, AreFew, IsNoted}

module _ {X : Type 0} (p : X → Bool) where
  fewer_filtered : (q : X → Bool) (xs : List X) → length (filter p (filter q xs)) ≤ length (filter p xs)
  fewer_filtered q [] = omega arith
  fewer_filtered q (x ∷ xs) =
      let h : length (filter p (filter q xs)) ≤ length (filter p xs) = fewer_filtered q xs in
      elim (q x) as (λ b. length (filter p (cond b (x ∷ filter q xs) (filter q xs))) ≤ length (filter p (x ∷ xs))) [
        | true ↦ elim (p x) as (λ b. length (cond b (x ∷ filter p (filter q xs)) (filter p (filter q xs))) ≤ length (cond b (x ∷ filter p xs) (filter p xs))) [ true ↦ omega (arith, h) | false ↦ h ]
        | false ↦ elim (p x) as (λ b. length (filter p (filter q xs)) ≤ length (cond b (x ∷ filter p xs) (filter p xs))) [ true ↦ omega (arith, h) | false ↦ h ]
      ]

  fewer_removed : (q : X → Bool) (xs : List X) → length (filter p (remove_key q xs)) ≤ length (filter p xs)
  fewer_removed q [] = omega arith
  fewer_removed q (x ∷ xs) =
      let h : length (filter p (remove_key q xs)) ≤ length (filter p xs) = fewer_removed q xs in
      elim (q x) as (λ b. length (filter p (cond b xs (x ∷ remove_key q xs))) ≤ length (filter p (x ∷ xs))) [
        | true ↦ elim (p x) as (λ b. length (filter p xs) ≤ length (cond b (x ∷ filter p xs) (filter p xs))) [ true ↦ omega arith | false ↦ omega arith ]
        | false ↦ elim (p x) as (λ b. length (cond b (x ∷ filter p (remove_key q xs)) (filter p (remove_key q xs))) ≤ length (cond b (x ∷ filter p xs) (filter p xs))) [ true ↦ omega (arith, h) | false ↦ h ]
      ]

  -- one that passes the test goes
  one_removed : (xs : List X) → 0 < length (filter p xs) → length (filter p (remove_key p xs)) + 1 ≡ length (filter p xs)
  one_removed [] some = absurd (omega (arith, some))
  one_removed (x ∷ xs) some =
      elim (p x) as (λ b. p x ≡ b → 0 < length (cond b (x ∷ filter p xs) (filter p xs)) → length (filter p (cond b xs (x ∷ remove_key p xs))) + 1 ≡ length (cond b (x ∷ filter p xs) (filter p xs))) [
        | true ↦ λ is more. omega arith
        | false ↦ λ is more. ap (λ b. length (cond b (x ∷ filter p (remove_key p xs)) (filter p (remove_key p xs))) + 1) is ∙ one_removed xs more
      ] refl some

  at_most_one : (x : X) → length (filter p (x ∷ [])) ≤ 1
  at_most_one x = elim (p x) as (λ b. length (cond b (x ∷ []) []) ≤ 1) [ true ↦ omega arith | false ↦ omega arith ]

  more_by : (xs : List X) (x : X) → length (filter p (xs ++ x ∷ [])) ≡ length (filter p xs) + length (filter p (x ∷ []))
  more_by xs x = ap length (filter-append p xs (x ∷ [])) ∙ length-append (filter p xs) (filter p (x ∷ []))

room_few : (peer : ℕ) (xs : List ObservedRequest) → AreFew xs → AreFew (with_room peer xs)
room_few peer xs few other = elim (cases_Bool (nat_lt (length (observed_by peer xs)) 136)) [
  | inl below ↦ rw below (few other)
  | inr full ↦ rw full (omega (arith, few other, fewer_removed (is_of_peer other) (is_of_peer peer) xs))
]

-- and there is room
has_room : (peer : ℕ) (xs : List ObservedRequest) → AreFew xs → length (observed_by peer (with_room peer xs)) < 136
has_room peer xs few = elim (cases_Bool (nat_lt (length (observed_by peer xs)) 136)) [
  | inl below ↦ rw below (ltb-true _ 136 below)
  | inr full ↦
      let many : 136 ≤ length (observed_by peer xs) = ltb-false _ 136 full in
      rw full (omega (arith, few peer, one_removed (is_of_peer peer) xs (omega (arith, many))))
]

beside_few : (asked : Asked) (xs : List ObservedRequest) → AreFew xs → AreFew (without_observer asked.peer asked.token xs)
beside_few asked xs few other = omega (arith, few other, fewer_filtered (is_of_peer other) (λ one. not (is_observer asked.peer asked.token one)) xs)

-- one more of its peer
put_few : (xs : List ObservedRequest) (one : ObservedRequest) → AreFew xs → length (observed_by one.peer xs) < 136 → AreFew (xs ++ one ∷ [])
put_few xs one few room other = elim (cases_Bool (one.peer == other)) [
  | inl same ↦
      let here : length (observed_by other xs) < 136 = subst (λ n. length (observed_by n xs) < 136) (eqb-true one.peer other same) room in
      omega (arith, more_by (is_of_peer other) xs one, at_most_one (is_of_peer other) one, here)
  | inr differs ↦
      let none : length (observed_by other (one ∷ [])) ≡ 0 = rw differs refl in
      omega (arith, more_by (is_of_peer other) xs one, none, few other)
]

pub noted_few : (asked : Asked) (old new : List ObservedRequest) → IsNoted asked old new → AreFew old → AreFew new
noted_few asked old new (inl more) few =
    let left = beside_few asked old few in
    subst AreFew (sym more) (put_few (beside asked old) _ (room_few asked.peer _ left) (has_room asked.peer _ left))
noted_few asked old new (inr none) few = subst AreFew (sym none) (room_few asked.peer _ (beside_few asked old few))
