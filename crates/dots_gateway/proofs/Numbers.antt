-- The number that a token is.
use Rattle.std.proofs.Common.{◌≡◌, ℕ, ◌<◌, ◌%◌, ◌^◌, Bool, true, false, cond, List, [], ◌∷◌, length, get_or, refl, sym, ap, ◌∙◌, inl, inr}
use Rattle.std.specs.Prelude.{◌==◌, bytes_eq, Option, Some, None}
use Rattle.std.specs.Int.{w64, to_be_bytes, from_be_bytes}
use Rattle.std.specs.List.{find, AllByRecursion}
use Rattle.std.proofs.lemmas.Bool.{cases_eq, eq-eqb, ne_eqb, eqb-true, and_parts, and_from, and_left, false_from_ne_true}
use Rattle.std.proofs.lemmas.Nat.{be_bytes_8, from_be_bytes-to_be_bytes_8}
use Rattle.std.proofs.lemmas.Slice.Eq.{bytes_eq-Decides}
use Rattle.dots_gateway.specs.declared.exchange.Waiting.{Waiting}
use Rattle.dots_gateway.specs.Exchanges.{is_passed}
use Rattle.dots_gateway.specs.Finding.{has_number}
use Rattle.dots_gateway.proofs.Orders.{none_found}

abbrev IsSmall : Waiting → Type 0
IsSmall k = k.exchange.number < 2 ^ 64

token_number : (token : List ℕ) (k : Waiting) → IsSmall k → bytes_eq (to_be_bytes w64 k.exchange.number) token ≡ true → k.exchange.number ≡ from_be_bytes w64 token
token_number token k small same = sym (from_be_bytes-to_be_bytes_8 k.exchange.number small) ∙ ap (from_be_bytes w64) ((bytes_eq-Decides (to_be_bytes w64 k.exchange.number) token).0 same)

-- a token that isn't of 8 bytes is of none
pub no_token : (token : List ℕ) (id : ℕ) (ks : List Waiting) → (length token ≡ 8 → ⊥) → find (is_passed token id) ks ≡ None
no_token token id [] other = refl
no_token token id (k ∷ ks) other =
    none_found (is_passed token id) (k ∷ ks)
    (passes k, all ks)
  where
    passes : (k : Waiting) → is_passed token id k ≡ false
    passes k = and_left _ _ (false_from_ne_true _ (λ same. other (sym (ap length ((bytes_eq-Decides (to_be_bytes w64 k.exchange.number) token).0 same)))))

    all : (ks : List Waiting) → AllByRecursion (λ (k : Waiting). is_passed token id k ≡ false) ks
    all [] = tt
    all (k ∷ ks) = (passes k, all ks)

-- a Message ID that isn't that of the number is of none
pub no_id : (token : List ℕ) (id number : ℕ) (ks : List Waiting) → number ≡ from_be_bytes w64 token → (number % 2 ^ 16 ≡ id → ⊥) → AllByRecursion IsSmall ks
    → find (is_passed token id) ks ≡ None
no_id token id number [] is other all = refl
no_id token id number (k ∷ ks) is other all = none_found (is_passed token id) (k ∷ ks) (fails k all.0, each ks all.1)
  where
    fails : (k : Waiting) → IsSmall k → is_passed token id k ≡ false
    fails k small = false_from_ne_true _ (λ passes.
        let both = and_parts (bytes_eq (to_be_bytes w64 k.exchange.number) token) (k.exchange.number % 2 ^ 16 == id) passes in
        other (ap (λ (n : ℕ). n % 2 ^ 16) (is ∙ sym (token_number token k small both.0)) ∙ eqb-true (k.exchange.number % 2 ^ 16) id both.1))

    each : (ks : List Waiting) → AllByRecursion IsSmall ks → AllByRecursion (λ (k : Waiting). is_passed token id k ≡ false) ks
    each [] all = tt
    each (k ∷ ks) all = (fails k all.0, each ks all.1)

-- else it is of the one with the number
pub of_its_number : (token : List ℕ) (id number : ℕ) (ks : List Waiting) → length token ≡ 8 → ((i : ℕ) → get_or token i 0 < 256) → number ≡ from_be_bytes w64 token
    → number % 2 ^ 16 ≡ id → AllByRecursion IsSmall ks → find (has_number number) ks ≡ find (is_passed token id) ks
of_its_number token id number [] len bytes is same all = refl
of_its_number token id number (k ∷ ks) len bytes is same all =
    ap (λ (b : Bool). cond b (Some k) (find (has_number number) ks)) (alike k all.0)
    ∙ ap (λ (o : Option Waiting). cond (is_passed token id k) (Some k) o) (of_its_number token id number ks len bytes is same all.1)
  where
    alike : (k : Waiting) → IsSmall k → has_number number k ≡ is_passed token id k
    alike k small =
        elim (cases_eq k.exchange.number number) [
          | inl equal ↦
              eq-eqb k.exchange.number number equal
              ∙ sym (and_from (bytes_eq (to_be_bytes w64 k.exchange.number) token) (k.exchange.number % 2 ^ 16 == id)
              ((bytes_eq-Decides (to_be_bytes w64 k.exchange.number) token).1 (be_bytes_8 token k.exchange.number len bytes (equal ∙ is)))
              (eq-eqb (k.exchange.number % 2 ^ 16) id (ap (λ (n : ℕ). n % 2 ^ 16) equal ∙ same)))
          | inr differ ↦
              ne_eqb k.exchange.number number differ
              ∙ sym (and_left _ _ (false_from_ne_true _ (λ same. differ (token_number token k small same ∙ sym is))))
        ]
