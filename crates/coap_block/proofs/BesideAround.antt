-- Whose body is stored.
use Rattle.std.proofs.Common.{inl, inr, ◌≡◌, ℕ, Bool, true, false, List, [], ◌∷◌, ◌++◌, Option, Some, None, refl, sym, ap, ◌∙◌}
use Rattle.std.specs.Prelude.{◌⊎◌, ◌==◌, ◌&&◌, find, bytes_eq, nat_lt}
use Rattle.std.proofs.lemmas.Bool.{cases_Bool, eqb-true, eqb-false, ne_eqb}
use Rattle.coap_message.specs.Message.{CoapMessage}
use Rattle.coap_block.specs.declared.block.BlockOption.{BlockOption}
use Rattle.coap_block.specs.declared.stored.StoredBody.{StoredBody}
use Rattle.coap_block.specs.Blocks.{Asked, first, later, answer_of, wanted_answer, wanted_block, block_answer, begins_within, body_or, stored_for, without_peer, head_size}
use Rattle.coap_block.specs.Fetching.{IsCutFrom}

abbrev pub is_for : ℕ → List ℕ → StoredBody → Bool
is_for peer request body = body.peer == peer && bytes_eq body.request request

-- the body that is stored for the peer and the request
abbrev pub stored_of : ℕ → List ℕ → List StoredBody → Option StoredBody
stored_of peer request stored = find (is_for peer request) stored

-- what was put behind the others is found
pub stored_new : (peer : ℕ) (request : List ℕ) (stored : List StoredBody) (body : StoredBody) → is_for peer request body ≡ true → stored_of peer request (without_peer peer stored ++ body ∷ []) ≡ Some body
stored_new peer request [] body is = rw is refl
stored_new peer request (x ∷ stored) body is = elim (cases_Bool (x.peer == peer)) [
  | inl e ↦ rw e (stored_new peer request stored body is)
  | inr e ↦ rw (e, e) (stored_new peer request stored body is)
]

other_peer : (peer other n : ℕ) → (other ≡ peer → ⊥) → (n == other) ≡ true → (n == peer) ≡ false
other_peer peer other n differs e = ne_eqb n peer (λ is. differs (sym (eqb-true n other e) ∙ is))

-- what is stored for a peer stays, where that of another one is taken out
pub stored_still : (peer other : ℕ) (request : List ℕ) (stored more : List StoredBody) (body : StoredBody) → (other ≡ peer → ⊥) → stored_of peer request stored ≡ Some body → stored_of peer request (without_peer other stored ++ more) ≡ Some body
stored_still peer other request [] more body differs is = absurd cc
stored_still peer other request (x ∷ stored) more body differs is = elim (cases_Bool (x.peer == other)) [
  | inl e ↦
      let f = other_peer peer other x.peer differs e in
      rw e (stored_still peer other request stored more body differs (rw f at is))
  | inr e ↦ elim (cases_Bool (is_for peer request x)) [
    | inl f ↦ rw (e, f) (rw f at is)
    | inr f ↦ rw (e, f) (stored_still peer other request stored more body differs (rw f at is))
  ]
]

-- ---- what a block is cut from

block_cases : (b : BlockOption) (known : List ℕ) (m : CoapMessage) (block : BlockOption) (body : List ℕ) → IsCutFrom (block_answer b known) m block body
    → ((block_answer b known ≡ first block) × (block.number ≡ 0) × (body ≡ m.payload)) ⊎ ((block.number ≡ 0 → ⊥) × (body ≡ known) × (block_answer b known ≡ later block known))
block_cases b known m block body cut = elim (cases_Bool (b.exponent == 7)) [
  | inl e ↦ absurd (rw e at cut)
  | inr e ↦ elim (cases_Bool (b.number == 0)) [
    | inl z ↦
        let made = rw (e, z) at cut in
        let is : block_answer b known ≡ first b = rw (e, z) refl in
        inl (is ∙ ap first made.0, sym (ap (λ x. x.number) made.0) ∙ eqb-true b.number 0 z, made.1)
    | inr z ↦ elim (cases_Bool (begins_within known b)) [
      | inl w ↦
          let made = rw (e, z, w) at cut in
          let is : block_answer b known ≡ later b known = rw (e, z, w) refl in
          inr (λ none. eqb-false b.number 0 z (ap (λ x. x.number) made.0 ∙ none), made.1, is ∙ ap (λ x. later x known) made.0)
      | inr w ↦ absurd (rw (e, z, w) at cut)
    ]
  ]
]

wanted_cases : (wanted : Option BlockOption) (known : List ℕ) (m : CoapMessage) (block : BlockOption) (body : List ℕ) → IsCutFrom (wanted_answer wanted known) m block body
    → ((wanted_answer wanted known ≡ first block) × (block.number ≡ 0) × (body ≡ m.payload)) ⊎ ((block.number ≡ 0 → ⊥) × (body ≡ known) × (wanted_answer wanted known ≡ later block known))
wanted_cases None known m block body cut = absurd cut
wanted_cases (Some b) known m block body cut = block_cases b known m block body cut

pub answer_cases : (stored : List StoredBody) (asked : Asked) (m : CoapMessage) (block : BlockOption) (body : List ℕ) → IsCutFrom (answer_of stored asked m) m block body
    → ((answer_of stored asked m ≡ first block) × (block.number ≡ 0) × (body ≡ m.payload))
    ⊎ ((block.number ≡ 0 → ⊥) × (body ≡ body_or (stored_for stored asked) m.payload) × (answer_of stored asked m ≡ later block (body_or (stored_for stored asked) m.payload)))
answer_cases stored asked m block body cut = elim (cases_Bool (nat_lt 1024 (head_size m))) [
  | inl e ↦ absurd (rw e at cut)
  | inr e ↦ rw e (wanted_cases (wanted_block asked.block m.payload) (body_or (stored_for stored asked) m.payload) m block body (rw e at cut))
]
