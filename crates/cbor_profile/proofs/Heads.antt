-- A head is taken apart in one way.
use Rattle.std.proofs.Common.{slice_index_or, ◌≡◌, ℕ, ◌+◌, ◌*◌, ◌^◌, ◌<◌, ◌≤◌, inl, inr, cond, List, [], ◌∷◌, ◌++◌, length, get_or, take, drop, refl, sym, ap, ◌∙◌, arith}
use Rattle.std.specs.Prelude.{nat_lt, ◌==◌, if◌then◌else◌}
use Rattle.std.specs.Int.{Width, w8, w16, w32, w64, byte_len, to_be_bytes, from_be_bytes}
use Rattle.std.proofs.lemmas.Bool.{cases_lt, le-ltb, lt-ltb}
use Rattle.std.proofs.lemmas.Nat.{from_be_bytes-to_be_bytes_2, from_be_bytes-to_be_bytes_4, from_be_bytes-to_be_bytes_8}
use Rattle.std.proofs.lemmas.List.{take_at, drop_at}
use Rattle.cbor_profile.specs.Parts.{number_of}
use Rattle.cbor_profile.specs.declared.major.Major.{Major}
use Rattle.cbor_profile.specs.declared.major.Major.TheVariants as major_type
use Rattle.cbor_profile.specs.Head.{information, following, head}

-- the size of an argument, with its additional information and the bytes that follow
pub data Size (n info : ℕ) (bytes : List ℕ) : Type 0 where
  none : n < 24 → info ≡ n → bytes ≡ [] → Size n info bytes
  one : 24 ≤ n → n < 2 ^ 8 → info ≡ 24 → bytes ≡ n ∷ [] → Size n info bytes
  two : 2 ^ 8 ≤ n → n < 2 ^ 16 → info ≡ 25 → bytes ≡ to_be_bytes w16 n → Size n info bytes
  four : 2 ^ 16 ≤ n → n < 2 ^ 32 → info ≡ 26 → bytes ≡ to_be_bytes w32 n → Size n info bytes
  eight : 2 ^ 32 ≤ n → info ≡ 27 → bytes ≡ to_be_bytes w64 n → Size n info bytes

pub size_of : (n : ℕ) → Size n (information n) (following n)
unfolding information following
size_of n = elim (cases_lt n 24) [
  | inl below ↦ let e = lt-ltb n 24 below in none below (rw e refl) (rw e refl)
  | inr over ↦ let e = le-ltb n 24 over in elim (cases_lt n (2 ^ 8)) [
    | inl below ↦ let f = lt-ltb n (2 ^ 8) below in one over below (rw (e, f) refl) (rw (e, f) refl)
    | inr over8 ↦ let f = le-ltb n (2 ^ 8) over8 in elim (cases_lt n (2 ^ 16)) [
      | inl below ↦ let g = lt-ltb n (2 ^ 16) below in two over8 below (rw (e, f, g) refl) (rw (e, f, g) refl)
      | inr over16 ↦ let g = le-ltb n (2 ^ 16) over16 in elim (cases_lt n (2 ^ 32)) [
        | inl below ↦ let h = lt-ltb n (2 ^ 32) below in four over16 below (rw (e, f, g, h) refl) (rw (e, f, g, h) refl)
        | inr over32 ↦ let h = le-ltb n (2 ^ 32) over32 in eight over32 (rw (e, f, g, h) refl) (rw (e, f, g, h) refl)
      ]
    ]
  ]
]

pub information_small : (n : ℕ) → information n < 28
information_small n = elim (size_of n) [
  | none below i b ↦ omega arith
  | one over below i b ↦ omega arith
  | two over below i b ↦ omega arith
  | four over below i b ↦ omega arith
  | eight over i b ↦ omega arith
]

-- ---- an argument is taken as it was written

-- how many bytes follow, by the additional information
abbrev width_of : ℕ → Width
width_of info = if info == 24 then w8 else if info == 25 then w16 else if info == 26 then w32 else w64

abbrev number_front : Width → List ℕ → ℕ × List ℕ
number_front w bytes = (from_be_bytes w (take (byte_len w) bytes), drop (byte_len w) bytes)

-- the argument in front of the bytes, and those behind it
argument_front : ℕ → List ℕ → ℕ × List ℕ
argument_front info bytes = if nat_lt info 24 then (info, bytes) else number_front (width_of info) bytes

number_taken : (w : Width) (bytes rest : List ℕ) → length bytes ≡ byte_len w → number_front w (bytes ++ rest) ≡ (from_be_bytes w bytes, rest)
number_taken w bytes rest len = rw (take_at bytes rest (byte_len w) len, drop_at bytes rest (byte_len w) len) refl

taken : (n info : ℕ) (bytes rest : List ℕ) → n < 2 ^ 64 → Size n info bytes → argument_front info (bytes ++ rest) ≡ (n, rest)
unfolding argument_front
taken n info bytes rest fits size = elim size [
  | none below i b ↦ let e = lt-ltb n 24 below in rw (i, b, e) refl
  | one over below i b ↦ rw (i, b) (number_taken w8 (n ∷ []) rest refl)
  | two over below i b ↦ rw (i, b) (number_taken w16 (to_be_bytes w16 n) rest refl ∙ ap (λ (m : ℕ). (m, rest)) (from_be_bytes-to_be_bytes_2 n below))
  | four over below i b ↦ rw (i, b) (number_taken w32 (to_be_bytes w32 n) rest refl ∙ ap (λ (m : ℕ). (m, rest)) (from_be_bytes-to_be_bytes_4 n below))
  | eight over i b ↦ rw (i, b) (number_taken w64 (to_be_bytes w64 n) rest refl ∙ ap (λ (m : ℕ). (m, rest)) (from_be_bytes-to_be_bytes_8 n fits))
]

argument_taken : (n : ℕ) (rest : List ℕ) → n < 2 ^ 64 → argument_front (information n) (following n ++ rest) ≡ (n, rest)
argument_taken n rest fits = taken n (information n) (following n) rest fits (size_of n)

-- ---- the whole head

one_argument : (m n : ℕ) (x y : List ℕ) → m < 2 ^ 64 → n < 2 ^ 64 → information m ≡ information n → following m ++ x ≡ following n ++ y → (m ≡ n) × (x ≡ y)
one_argument m n x y f g i e =
    let here = argument_taken m x f in
    let there = argument_taken n y g in
    let same : argument_front (information m) (following m ++ x) ≡ argument_front (information n) (following n ++ y) = rw (i, e) refl in
    let both = sym here ∙ same ∙ there in
    (ap (λ (p : ℕ × List ℕ). p.0) both, ap (λ (p : ℕ × List ℕ). p.1) both)

number_back : ℕ → Major
number_back n =
    cond (n == 0) major_type.Unsigned (cond (n == 1) major_type.Negative (cond (n == 2) major_type.Bytes (cond (n == 3) major_type.Text
    (cond (n == 4) major_type.Array (cond (n == 5) major_type.Map (cond (n == 6) major_type.Tag major_type.Simple))))))

back_is : (a : Major) → number_back (number_of a) ≡ a
unfolding number_back
back_is major_type.Unsigned = refl
back_is major_type.Negative = refl
back_is major_type.Bytes = refl
back_is major_type.Text = refl
back_is major_type.Array = refl
back_is major_type.Map = refl
back_is major_type.Tag = refl
back_is major_type.Simple = refl

pub number_same : (a b : Major) → number_of a ≡ number_of b → a ≡ b
number_same a b e = sym (back_is a) ∙ ap number_back e ∙ back_is b

-- no head is the front of another
pub one_head : (a b : Major) (m n : ℕ) (x y : List ℕ) → m < 2 ^ 64 → n < 2 ^ 64 → head (number_of a) m ++ x ≡ head (number_of b) n ++ y → (a ≡ b) × (m ≡ n) × (x ≡ y)
unfolding head
one_head a b m n x y f g e =
    let first : 32 * number_of a + information m ≡ 32 * number_of b + information n = ap (λ (l : List ℕ). get_or l 0 0) e in
    let rest : following m ++ x ≡ following n ++ y = ap (λ (l : List ℕ). drop 1 l) e in
    let i : information m < 28 = information_small m in
    let j : information n < 28 = information_small n in
    let same = one_argument m n x y f g (omega arith) rest in
    (number_same a b (omega arith), same.0, same.1)

-- ---- the head that is written

pub head_none : (major n : ℕ) → n < 24 → head major n ≡ (32 * major + n) ∷ []
unfolding head
head_none major n h = elim (size_of n) [
  | none below i b ↦ rw (i, b) refl
  | one over below i b ↦ absurd (omega arith)
  | two over below i b ↦ absurd (omega arith)
  | four over below i b ↦ absurd (omega arith)
  | eight over i b ↦ absurd (omega arith)
]

pub head_one : (major n : ℕ) → 24 ≤ n → n < 2 ^ 8 → head major n ≡ (32 * major + 24) ∷ n ∷ []
unfolding head
head_one major n g h = elim (size_of n) [
  | none below i b ↦ absurd (omega arith)
  | one over below i b ↦ rw (i, b) refl
  | two over below i b ↦ absurd (omega arith)
  | four over below i b ↦ absurd (omega arith)
  | eight over i b ↦ absurd (omega arith)
]

pub head_two : (major n : ℕ) → 2 ^ 8 ≤ n → n < 2 ^ 16 → head major n ≡ (32 * major + 25) ∷ to_be_bytes w16 n
unfolding head
head_two major n g h = elim (size_of n) [
  | none below i b ↦ absurd (omega arith)
  | one over below i b ↦ absurd (omega arith)
  | two over below i b ↦ rw (i, b) refl
  | four over below i b ↦ absurd (omega arith)
  | eight over i b ↦ absurd (omega arith)
]

pub head_four : (major n : ℕ) → 2 ^ 16 ≤ n → n < 2 ^ 32 → head major n ≡ (32 * major + 26) ∷ to_be_bytes w32 n
unfolding head
head_four major n g h = elim (size_of n) [
  | none below i b ↦ absurd (omega arith)
  | one over below i b ↦ absurd (omega arith)
  | two over below i b ↦ absurd (omega arith)
  | four over below i b ↦ rw (i, b) refl
  | eight over i b ↦ absurd (omega arith)
]

pub head_eight : (major n : ℕ) → 2 ^ 32 ≤ n → head major n ≡ (32 * major + 27) ∷ to_be_bytes w64 n
unfolding head
head_eight major n g = elim (size_of n) [
  | none below i b ↦ absurd (omega arith)
  | one over below i b ↦ absurd (omega arith)
  | two over below i b ↦ absurd (omega arith)
  | four over below i b ↦ absurd (omega arith)
  | eight over i b ↦ rw (i, b) refl
]

-- ---- the same in an array

pub array_none : (kind major n : ℕ) → kind ≡ major → n < 24 → (32 * kind + n) ∷ [] ≡ head major n
array_none kind major n is h = rw (is, head_none major n h) refl

pub array_one : (kind major n : ℕ) → kind ≡ major → 24 ≤ n → n < 2 ^ 8 → (32 * kind + 24) ∷ n ∷ [] ≡ head major n
array_one kind major n is g h = rw (is, head_one major n g h) refl

pub array_two : (kind major n : ℕ) (r : List ℕ) → kind ≡ major → 2 ^ 8 ≤ n → n < 2 ^ 16 → r ≡ to_be_bytes w16 n
    → (32 * kind + 25) ∷ slice_index_or r 0 0 ∷ slice_index_or r 1 0 ∷ [] ≡ head major n
array_two kind major n r is g h e = rw (is, head_two major n g h, e) refl

pub array_four : (kind major n : ℕ) (r : List ℕ) → kind ≡ major → 2 ^ 16 ≤ n → n < 2 ^ 32 → r ≡ to_be_bytes w32 n
    → (32 * kind + 26) ∷ slice_index_or r 0 0 ∷ slice_index_or r 1 0 ∷ slice_index_or r 2 0 ∷ slice_index_or r 3 0 ∷ [] ≡ head major n
array_four kind major n r is g h e = rw (is, head_four major n g h, e) refl

pub array_eight : (kind major n : ℕ) (r : List ℕ) → kind ≡ major → 2 ^ 32 ≤ n → r ≡ to_be_bytes w64 n
    → (32 * kind + 27) ∷ slice_index_or r 0 0 ∷ slice_index_or r 1 0 ∷ slice_index_or r 2 0 ∷ slice_index_or r 3 0
    ∷ slice_index_or r 4 0 ∷ slice_index_or r 5 0 ∷ slice_index_or r 6 0 ∷ slice_index_or r 7 0 ∷ [] ≡ head major n
array_eight kind major n r is g e = rw (is, head_eight major n g, e) refl
