-- Fronts and segments of bytes.
use Rattle.std.proofs.Common.{◌≡◌, ℕ, ◌+◌, suc, true, false, Bool, List, [], ◌∷◌, ◌++◌, length, take, drop, refl, ap, Some, None, arith, cond}
use Rattle.std.specs.Prelude.{◌==◌, ◌||◌, not, if◌then◌else◌}
use Rattle.std.specs.List.{list_any, before_first, after_first, position_or_len}
use Rattle.std.proofs.lemmas.Bool.{eqb-true, eq-eqb, and_parts, and_from, not_from_false}
use Rattle.data_channel.specs.Paths.{lacks}
use Rattle.data_channel.specs.Places.{behind_front}

-- what stands behind a front
front_step : (x b : ℕ) (front bytes rest : List ℕ) (test : Bool) → (b == x) ≡ test → (if test then behind_front front bytes else None) ≡ Some rest
    → (behind_front front bytes ≡ Some rest → bytes ≡ front ++ rest) → b ∷ bytes ≡ (x ∷ front) ++ rest
front_step x b front bytes rest true same is more = rw (eqb-true b x same, more is) refl
front_step x b front bytes rest false other is more = absurd (cc)

pub front_is : (front bytes rest : List ℕ) → behind_front front bytes ≡ Some rest → bytes ≡ front ++ rest
front_is [] bytes rest is = cc
front_is (x ∷ front) [] rest is = absurd (cc)
front_is (x ∷ front) (b ∷ bytes) rest is = front_step x b front bytes rest (b == x) refl is (front_is front bytes rest)

-- what stands in front of a sign
pub position_of_sign : (sign : ℕ) (front back : List ℕ) → lacks sign front ≡ true → position_or_len (λ byte. byte == sign) (front ++ sign ∷ back) ≡ length front
position_of_sign sign [] back lack = rw (eq-eqb sign sign refl) refl
position_of_sign sign (x ∷ front) back lack =
    let parts = and_parts (not (x == sign)) (lacks sign front) lack in
    let more = position_of_sign sign front back parts.1 in
    rw (parts.0, more) (omega arith)

pub position_of_none : (sign : ℕ) (front : List ℕ) → lacks sign front ≡ true → position_or_len (λ byte. byte == sign) front ≡ length front
position_of_none sign [] lack = refl
position_of_none sign (x ∷ front) lack =
    let parts = and_parts (not (x == sign)) (lacks sign front) lack in
    let more = position_of_none sign front parts.1 in
    rw (parts.0, more) (omega arith)

-- what stands before the first sign, and what behind it
one_more : (n : ℕ) → 1 + n ≡ suc n
one_more n = omega arith

two_more : (n : ℕ) → 1 + n + 1 ≡ suc (n + 1)
two_more n = omega arith

before_next : (sign b n : ℕ) (bytes : List ℕ) → (b == sign) ≡ false → lacks sign (take n bytes) ≡ true → lacks sign (take (1 + n) (b ∷ bytes)) ≡ true
before_next sign b n bytes other more = rw (one_more n) (and_from (not (b == sign)) (lacks sign (take n bytes)) (not_from_false (b == sign) other) more)

before_step : (sign b n : ℕ) (bytes : List ℕ) (test : Bool) → (b == sign) ≡ test → lacks sign (take n bytes) ≡ true → lacks sign (take (cond (not test) (1 + n) 0) (b ∷ bytes)) ≡ true
before_step sign b n bytes true same more = refl
before_step sign b n bytes false other more = before_next sign b n bytes other more

pub before_lacks : (sign : ℕ) (bytes : List ℕ) → lacks sign (before_first (λ byte. byte == sign) bytes) ≡ true
before_lacks sign [] = refl
before_lacks sign (b ∷ bytes) = before_step sign b (position_or_len (λ byte. byte == sign) bytes) bytes (b == sign) refl (before_lacks sign bytes)

split_next : (sign b n : ℕ) (bytes : List ℕ) → bytes ≡ take n bytes ++ sign ∷ drop (n + 1) bytes → b ∷ bytes ≡ take (1 + n) (b ∷ bytes) ++ sign ∷ drop (1 + n + 1) (b ∷ bytes)
split_next sign b n bytes more = rw (two_more n, one_more n) (ap (λ xs. b ∷ xs) more)

split_step : (sign b n : ℕ) (bytes : List ℕ) (test : Bool) → (b == sign) ≡ test → (test || list_any (λ byte. byte == sign) bytes) ≡ true
    → (list_any (λ byte. byte == sign) bytes ≡ true → bytes ≡ take n bytes ++ sign ∷ drop (n + 1) bytes)
    → b ∷ bytes ≡ take (cond (not test) (1 + n) 0) (b ∷ bytes) ++ sign ∷ drop (cond (not test) (1 + n) 0 + 1) (b ∷ bytes)
split_step sign b n bytes true same has more = ap (λ x. x ∷ bytes) (eqb-true b sign same)
split_step sign b n bytes false other has more = split_next sign b n bytes (more has)

pub sign_splits : (sign : ℕ) (bytes : List ℕ) → list_any (λ byte. byte == sign) bytes ≡ true → bytes ≡ before_first (λ byte. byte == sign) bytes ++ sign ∷ after_first (λ byte. byte == sign) bytes
sign_splits sign [] has = absurd (cc)
sign_splits sign (b ∷ bytes) has = split_step sign b (position_or_len (λ byte. byte == sign) bytes) bytes (b == sign) refl has (sign_splits sign bytes)

none_next : (b n : ℕ) (bytes : List ℕ) → bytes ≡ take n bytes → b ∷ bytes ≡ take (1 + n) (b ∷ bytes)
none_next b n bytes more = rw (one_more n) (ap (λ xs. b ∷ xs) more)

none_step : (sign b n : ℕ) (bytes : List ℕ) (test : Bool) → (b == sign) ≡ test → (test || list_any (λ byte. byte == sign) bytes) ≡ false
    → (list_any (λ byte. byte == sign) bytes ≡ false → bytes ≡ take n bytes) → b ∷ bytes ≡ take (cond (not test) (1 + n) 0) (b ∷ bytes)
none_step sign b n bytes true same has more = absurd (cc)
none_step sign b n bytes false other has more = none_next b n bytes (more has)

pub none_splits : (sign : ℕ) (bytes : List ℕ) → list_any (λ byte. byte == sign) bytes ≡ false → bytes ≡ before_first (λ byte. byte == sign) bytes
none_splits sign [] has = refl
none_splits sign (b ∷ bytes) has = none_step sign b (position_or_len (λ byte. byte == sign) bytes) bytes (b == sign) refl has (none_splits sign bytes)
