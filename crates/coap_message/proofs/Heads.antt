-- The header and the token that are read are those that were written, and what was written is read again.
use Rattle.std.proofs.Common.{◌≡◌, ℕ, zero, suc, ◌+◌, ◌*◌, ◌/◌, ◌%◌, ◌^◌, ◌<◌, ◌≤◌, Bool, true, false, cond, ltb, eqb, not, ◌&&◌, ◌||◌, List, [], ◌∷◌, ◌++◌, length, take, drop, Some, None, refl, sym, ap, subst, ◌∙◌, arith}
use Rattle.std.specs.Int.{w16, from_be_bytes, to_be_bytes}
use Rattle.std.proofs.lemmas.Bool.{ltb-false, lt-ltb, le-ltb, eqb-true, ne_eqb}
use Rattle.std.proofs.lemmas.List.{take_at, drop_at, take-append-drop, length-append, length-take, length-drop, nil_from_length}
use Rattle.std.proofs.lemmas.Nat.{be_bytes_2, from_be_bytes-to_be_bytes_2}
use Rattle.coap_message.specs.declared.kind.Kind.{Kind}
use Rattle.coap_message.specs.declared.kind.Kind.TheVariants.{Con, Non, Ack, Rst}
use Rattle.coap_message.specs.Message.{kind_number, header}
use Rattle.coap_message.specs.MessageReading.{Head, kind_of, head_at}
use Rattle.coap_message.proofs.Steps.{IsBytes, IsBytes-drop, some_is, some, guard_some}
use Rattle.coap_message.proofs.Extended.{two_fit}

kind_back : (k : ℕ) → k < 4 → kind_number (kind_of k) ≡ k
kind_back zero lt = refl
kind_back (suc zero) lt = refl
kind_back (suc (suc zero)) lt = refl
kind_back (suc (suc (suc zero))) lt = refl
kind_back (suc (suc (suc (suc k)))) lt = absurd (omega (arith, lt))

kind_again : (k : Kind) → kind_of (kind_number k) ≡ k
kind_again Con = refl
kind_again Non = refl
kind_again Ack = refl
kind_again Rst = refl

kind_bound : (k : Kind) → kind_number k ≤ 3
kind_bound Con = omega arith
kind_bound Non = omega arith
kind_bound Ack = omega arith
kind_bound Rst = omega arith

pub not_false : (b : Bool) → not b ≡ false → b ≡ true
not_false true e = refl
not_false false e = absurd cc

-- the test of the empty message, where it doesn't refuse
empty_test : (code size n : ℕ) → (eqb code 0 && (ltb 0 size || ltb 0 n)) ≡ false → code ≡ 0 → (size ≡ 0) × (n ≡ 0)
empty_test zero zero zero e h = (refl, refl)
empty_test zero zero (suc n) e h = let t : ltb 0 (suc n) ≡ true = lt-ltb 0 (suc n) (omega arith) in absurd (let g : true ≡ false = sym t ∙ e in cc)
empty_test zero (suc size) n e h = let t : ltb 0 (suc size) ≡ true = lt-ltb 0 (suc size) (omega arith) in absurd (let g : true ≡ false = ap (λ (b : Bool). b || ltb 0 n) (sym t) ∙ e in cc)
empty_test (suc code) size n e h = absurd (omega (arith, h))

passes_empty : (code size n : ℕ) → (code ≡ 0 → (size ≡ 0) × (n ≡ 0)) → (eqb code 0 && (ltb 0 size || ltb 0 n)) ≡ false
passes_empty zero size n h = let none = h refl in rw (none.0, none.1) refl
passes_empty (suc code) size n h = let t : eqb (suc code) 0 ≡ false = ne_eqb (suc code) 0 (omega arith) in rw t refl

pub record HeadRead (bytes : List ℕ) (h : Head) (rest : List ℕ) : Type 0 where
  pub parts : bytes ≡ header h.kind h.code h.identifier h.token ++ rest
  pub code : h.code < 256
  pub identifier : h.identifier < 2 ^ 16
  pub token : length h.token ≤ 8
  pub empty : h.code ≡ 0 → (h.token ≡ []) × (rest ≡ [])
  pub rest_fits : IsBytes rest

read_by : (first code high low : ℕ) (rest : List ℕ) → IsBytes (first ∷ code ∷ high ∷ low ∷ rest) → first / 64 ≡ 1 → first % 16 ≤ 8 → (code ≡ 0 → (first % 16 ≡ 0) × (length rest ≡ 0)) → first % 16 ≤ length rest
    → HeadRead (first ∷ code ∷ high ∷ low ∷ rest) (record { kind = kind_of (first / 16 % 4); code = code; identifier = from_be_bytes w16 (high ∷ low ∷ []); token = take (first % 16) rest }) (drop (first % 16) rest)
read_by first code high low rest fits version size empty room =
    let n = first % 16 in
    let code_fits : code < 256 = fits 1 in
    let high_fits : high < 256 = fits 2 in
    let low_fits : low < 256 = fits 3 in
    let first_fits : first < 256 = fits 0 in
    let bits : first / 16 % 4 < 4 = omega arith in
    let kind = kind_back (first / 16 % 4) bits in
    let len : length (take n rest) ≡ n = omega (arith, length-take n rest) in
    let front : 64 + 16 * kind_number (kind_of (first / 16 % 4)) + length (take n rest) ≡ first = omega (arith, kind, len) in
    let id : to_be_bytes w16 (from_be_bytes w16 (high ∷ low ∷ [])) ≡ high ∷ low ∷ [] = be_bytes_2 (high ∷ low ∷ []) (from_be_bytes w16 (high ∷ low ∷ [])) refl (two_fit high low high_fits low_fits) refl in
    let rest_fits : IsBytes rest = λ i. fits (suc (suc (suc (suc i)))) in
    record {
      parts = sym (ap (λ (k : ℕ). k ∷ code ∷ (to_be_bytes w16 (from_be_bytes w16 (high ∷ low ∷ [])) ++ take n rest) ++ drop n rest) front
          ∙ ap (λ (y : List ℕ). first ∷ code ∷ (y ++ take n rest) ++ drop n rest) id
          ∙ ap (λ (y : List ℕ). first ∷ code ∷ high ∷ low ∷ y) (take-append-drop n rest));
      code = code_fits;
      identifier = omega arith;
      token = omega (arith, len);
      empty = λ zero_code. let none = empty zero_code in (nil_from_length (take n rest) (omega (arith, len, none)), nil_from_length (drop n rest) (omega (arith, length-drop n rest, none)));
      rest_fits = IsBytes-drop n rest rest_fits;
    }

pub head_takes : (bytes : List ℕ) (h : Head) (rest : List ℕ) → IsBytes bytes → head_at bytes ≡ Some (h, rest) → HeadRead bytes h rest
unfolding head_at
head_takes [] h rest fits e = absurd cc
head_takes (first ∷ []) h rest fits e = absurd cc
head_takes (first ∷ code ∷ []) h rest fits e = absurd cc
head_takes (first ∷ code ∷ high ∷ []) h rest fits e = absurd cc
head_takes (first ∷ code ∷ high ∷ low ∷ bytes) h rest fits e =
    let n = first % 16 in
    let made : Head × List ℕ = (record { kind = kind_of (first / 16 % 4); code = code; identifier = from_be_bytes w16 (high ∷ low ∷ []); token = take n bytes }, drop n bytes) in
    let d = cond (ltb (length bytes) n) None (some made) in
    let c = cond (eqb code 0 && (ltb 0 n || ltb 0 (length bytes))) None d in
    let b = cond (ltb 8 n) None c in
    let p = guard_some (not (eqb (first / 64) 1)) b (h, rest) e in
    let q = guard_some (ltb 8 n) c (h, rest) p.1 in
    let r = guard_some (eqb code 0 && (ltb 0 n || ltb 0 (length bytes))) d (h, rest) q.1 in
    let s = guard_some (ltb (length bytes) n) (some made) (h, rest) r.1 in
    subst (λ (y : Head × List ℕ). HeadRead (first ∷ code ∷ high ∷ low ∷ bytes) y.0 y.1) (some_is made (h, rest) s.1)
    (read_by first code high low bytes fits (eqb-true _ _ (not_false _ p.0)) (ltb-false _ _ q.0) (empty_test code n (length bytes) r.0) (ltb-false _ _ s.0))

again_by : (k : Kind) (first code high low : ℕ) (token rest : List ℕ) → first / 64 ≡ 1 → first % 16 ≡ length token → first / 16 % 4 ≡ kind_number k → length token ≤ 8 → (code ≡ 0 → (token ≡ []) × (rest ≡ []))
    → head_at (first ∷ code ∷ high ∷ low ∷ token ++ rest) ≡ Some (record { kind = k; code = code; identifier = from_be_bytes w16 (high ∷ low ∷ []); token = token }, rest)
unfolding head_at
again_by k first code high low token rest version size kind bound empty =
    let t : ltb 8 (length token) ≡ false = le-ltb 8 (length token) bound in
    let u : (eqb code 0 && (ltb 0 (length token) || ltb 0 (length (token ++ rest)))) ≡ false
    = passes_empty code (length token) (length (token ++ rest)) (λ h. let none = empty h in (ap (λ (y : List ℕ). length y) none.0, rw (none.0, none.1) refl)) in
    let v : ltb (length (token ++ rest)) (length token) ≡ false = le-ltb (length (token ++ rest)) (length token) (omega (arith, length-append token rest)) in
    rw (version, size, kind, kind_again k, t, u, v, take_at token rest (length token) refl, drop_at token rest (length token) refl) refl

pub head_again : (k : Kind) (code identifier : ℕ) (token rest : List ℕ) → identifier < 2 ^ 16 → length token ≤ 8 → (code ≡ 0 → (token ≡ []) × (rest ≡ []))
    → head_at (header k code identifier token ++ rest) ≡ Some (record { kind = k; code = code; identifier = identifier; token = token }, rest)
head_again k code identifier token rest id size empty =
    let bound = kind_bound k in
    let first = 64 + 16 * kind_number k + length token in
    let version : first / 64 ≡ 1 = omega arith in
    let low : first % 16 ≡ length token = omega arith in
    let bits : first / 16 % 4 ≡ kind_number k = omega arith in
    again_by k first code (identifier / 256 % 256) (identifier % 256) token rest version low bits size empty
    ∙ ap (λ (n : ℕ). some (record { kind = k; code = code; identifier = n; token = token }, rest)) (from_be_bytes-to_be_bytes_2 identifier id)
