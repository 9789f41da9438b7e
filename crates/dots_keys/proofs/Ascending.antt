-- The fields of a valid map ascend.
use Rattle.std.proofs.Common.{◌≡◌, ℕ, zero, suc, ◌+◌, ◌*◌, ◌^◌, ◌<◌, ◌⊎◌, lit<, Bool, true, false, cond, List, [], ◌∷◌, length, refl, sym, ap, subst, ◌∙◌, arith, inl, inr}
use Rattle.std.specs.Int.{w16, w32, w64, to_be_bytes, bytes_high_first, byte_at}
use Rattle.std.specs.Ordering.{nat_cmp, ordering_then, MatchOrdering}
use Rattle.std.specs.declared.cmp.Ordering.{Ordering}
use Rattle.std.specs.declared.cmp.Ordering.TheVariants.{Less, Equal, Greater}
use Rattle.std.specs.Cmp.Lexicographic.{slice_cmp}
use Rattle.std.proofs.lemmas.Cmp.{ranked}
use Rattle.std.proofs.lemmas.Nat.{from_be_bytes-to_be_bytes_2, from_be_bytes-to_be_bytes_4, from_be_bytes-to_be_bytes_8}
use Rattle.std.proofs.Math.Nat.{mul-le-mul_left, pow-suc}
use Rattle.cbor_profile.specs.Canon.{canon}
use Rattle.cbor_profile.specs.Head.{head, information, following}
use Rattle.cbor_profile.specs.Tree.{Tree, unsigned, negative, byte_string, text, array, mapping, tag, boolean, null, Pairs, no_pairs, pair}
use Rattle.cbor_profile.specs.Valid.{IsBefore, RiseFrom, KeysRise, ArePairsSound}
use Rattle.cbor_profile.proofs.Heads.{Size, none, one, two, four, eight, size_of}
use Rattle.dots_keys.specs.declared.keys.Role.TheVariants as role
use Rattle.dots_keys.specs.Fields.{Field, fields_in, field_before, all_unsigned, number_of, AllAbove, Ascend}
use Rattle.dots_keys.specs.Keys.{key_role, is_known, is_ignored}

-- ---- bytes, the highest first

abbrev value : List ℕ → ℕ
value [] = 0
value (b ∷ bs) = 256 ^ length bs * b + value bs

abbrev AreBytes : List ℕ → Type 0
AreBytes [] = Unit {0}
AreBytes (b ∷ bs) = (b < 256) × AreBytes bs

one_more : (p x y u v : ℕ) → x < y → u < p → p * x + u < p * y + v
one_more p x y u v below small = omega (arith, mul-le-mul_left p below, mul_suc p x)
  where
    mul_suc : (p x : ℕ) → p * suc x ≡ p * x + p
    mul_suc p x = omega arith

bounded : (bs : List ℕ) → AreBytes bs → value bs < 256 ^ length bs
bounded [] all = lit< tt
bounded (b ∷ bs) all =
    let rest = bounded bs all.1 in
    let most : 256 ^ length bs * b + value bs < 256 ^ length bs * 256 + 0 = one_more (256 ^ length bs) b 256 (value bs) 0 all.0 rest in
    let power : 256 ^ suc (length bs) ≡ 256 ^ length bs * 256 = pow-suc 256 (length bs) in
    omega (arith, most, power)

ordered : (xs ys : List ℕ) → AreBytes xs → AreBytes ys → length xs ≡ length ys → slice_cmp nat_cmp xs ys ≡ Less → value xs < value ys
ordered [] [] f g same less = absurd (cc)
ordered [] (y ∷ ys) f g same less = absurd (omega arith)
ordered (x ∷ xs) [] f g same less = absurd (omega arith)
ordered (x ∷ xs) (y ∷ ys) f g same less = by_first (omega arith) (ordered xs ys f.1 g.1 (omega arith)) (nat_cmp x y) (ranked x y (nat_cmp x y) refl) less
  where
    by_first : length xs ≡ length ys → (slice_cmp nat_cmp xs ys ≡ Less → value xs < value ys) → (o : Ordering) → MatchOrdering o (x < y) (x ≡ y) (y < x)
        → ordering_then o (slice_cmp nat_cmp xs ys) ≡ Less → value (x ∷ xs) < value (y ∷ ys)
    by_first as_long later Less below less =
        let more = one_more (256 ^ length xs) x y (value xs) (value ys) below (bounded xs f.1) in
        subst (λ (n : ℕ). 256 ^ length xs * x + value xs < 256 ^ n * y + value ys) as_long more
    by_first as_long later Equal equal less =
        let rest = later less in
        let first : 256 ^ length xs * x ≡ 256 ^ length ys * y = ap (λ (n : ℕ). 256 ^ n * x) as_long ∙ ap (λ (z : ℕ). 256 ^ length ys * z) equal in
        omega (arith, rest, first)
    by_first as_long later Greater above less = absurd (cc)

are_bytes : (k n : ℕ) → AreBytes (bytes_high_first k n)
are_bytes zero n = tt
are_bytes (suc k) n = (byte_small k n, are_bytes k n)
  where
    byte_small : (k n : ℕ) → byte_at k n < 256
    byte_small zero n = omega arith
    byte_small (suc k) n = omega arith

as_many : (k n : ℕ) → length (bytes_high_first k n) ≡ k
as_many zero n = refl
as_many (suc k) n = ap suc (as_many k n)

two_bytes : (n : ℕ) → n < 2 ^ 16 → value (to_be_bytes w16 n) ≡ n
two_bytes n small = omega (arith, from_be_bytes-to_be_bytes_2 n small)

four_bytes : (n : ℕ) → n < 2 ^ 32 → value (to_be_bytes w32 n) ≡ n
four_bytes n small = omega (arith, from_be_bytes-to_be_bytes_4 n small)

eight_bytes : (n : ℕ) → n < 2 ^ 64 → value (to_be_bytes w64 n) ≡ n
eight_bytes n small = omega (arith, from_be_bytes-to_be_bytes_8 n small)

-- numbers whose bytes are in order
in_order : (k m n : ℕ) → value (bytes_high_first k m) ≡ m → value (bytes_high_first k n) ≡ n → slice_cmp nat_cmp (bytes_high_first k m) (bytes_high_first k n) ≡ Less → m < n
in_order k m n is_m is_n less =
    let more = ordered (bytes_high_first k m) (bytes_high_first k n) (are_bytes k m) (are_bytes k n) (as_many k m ∙ sym (as_many k n)) less in
    omega (arith, more, is_m, is_n)

-- ---- encodings of unsigned numbers

-- the first byte is lower, or the bytes behind it come before
first_or_rest : (a b : ℕ) (xs ys : List ℕ) → slice_cmp nat_cmp (a ∷ xs) (b ∷ ys) ≡ Less → (a < b) ⊎ ((a ≡ b) × (slice_cmp nat_cmp xs ys ≡ Less))
first_or_rest a b xs ys less = by_first (nat_cmp a b) (ranked a b (nat_cmp a b) refl) less
  where
    by_first : (o : Ordering) → MatchOrdering o (a < b) (a ≡ b) (b < a) → ordering_then o (slice_cmp nat_cmp xs ys) ≡ Less → (a < b) ⊎ ((a ≡ b) × (slice_cmp nat_cmp xs ys ≡ Less))
    by_first Less below less = inl below
    by_first Equal equal less = inr (equal, less)
    by_first Greater above less = absurd (cc)

cmp_at : (xs ys us vs : List ℕ) → xs ≡ us → ys ≡ vs → slice_cmp nat_cmp xs ys ≡ Less → slice_cmp nat_cmp us vs ≡ Less
cmp_at xs ys us vs first second less = ap (λ (l : List ℕ). slice_cmp nat_cmp l vs) (sym first) ∙ ap (λ (l : List ℕ). slice_cmp nat_cmp xs l) (sym second) ∙ less

no_bytes : {P : Type 0} → slice_cmp {A = ℕ} {B = ℕ} nat_cmp [] [] ≡ Less → P
no_bytes less = absurd (cc)

one_byte : (m n : ℕ) → slice_cmp nat_cmp (m ∷ []) (n ∷ []) ≡ Less → m < n
one_byte m n less = elim (first_or_rest m n [] [] less) [ inl below ↦ below | inr same ↦ no_bytes same.1 ]

-- a lower additional information is that of a lower number
lower_size : (m n i j : ℕ) (xs ys : List ℕ) → Size m i xs → Size n j ys → i < j → m < n
lower_size m n i j xs ys (none a0 a1 a2) (none b0 b1 b2) below = omega arith
lower_size m n i j xs ys (none a0 a1 a2) (one b0 b1 b2 b3) below = omega arith
lower_size m n i j xs ys (none a0 a1 a2) (two b0 b1 b2 b3) below = omega arith
lower_size m n i j xs ys (none a0 a1 a2) (four b0 b1 b2 b3) below = omega arith
lower_size m n i j xs ys (none a0 a1 a2) (eight b0 b1 b2) below = omega arith
lower_size m n i j xs ys (one a0 a1 a2 a3) (none b0 b1 b2) below = omega arith
lower_size m n i j xs ys (one a0 a1 a2 a3) (one b0 b1 b2 b3) below = omega arith
lower_size m n i j xs ys (one a0 a1 a2 a3) (two b0 b1 b2 b3) below = omega arith
lower_size m n i j xs ys (one a0 a1 a2 a3) (four b0 b1 b2 b3) below = omega arith
lower_size m n i j xs ys (one a0 a1 a2 a3) (eight b0 b1 b2) below = omega arith
lower_size m n i j xs ys (two a0 a1 a2 a3) (none b0 b1 b2) below = omega arith
lower_size m n i j xs ys (two a0 a1 a2 a3) (one b0 b1 b2 b3) below = omega arith
lower_size m n i j xs ys (two a0 a1 a2 a3) (two b0 b1 b2 b3) below = omega arith
lower_size m n i j xs ys (two a0 a1 a2 a3) (four b0 b1 b2 b3) below = omega arith
lower_size m n i j xs ys (two a0 a1 a2 a3) (eight b0 b1 b2) below = omega arith
lower_size m n i j xs ys (four a0 a1 a2 a3) (none b0 b1 b2) below = omega arith
lower_size m n i j xs ys (four a0 a1 a2 a3) (one b0 b1 b2 b3) below = omega arith
lower_size m n i j xs ys (four a0 a1 a2 a3) (two b0 b1 b2 b3) below = omega arith
lower_size m n i j xs ys (four a0 a1 a2 a3) (four b0 b1 b2 b3) below = omega arith
lower_size m n i j xs ys (four a0 a1 a2 a3) (eight b0 b1 b2) below = omega arith
lower_size m n i j xs ys (eight a0 a1 a2) (none b0 b1 b2) below = omega arith
lower_size m n i j xs ys (eight a0 a1 a2) (one b0 b1 b2 b3) below = omega arith
lower_size m n i j xs ys (eight a0 a1 a2) (two b0 b1 b2 b3) below = omega arith
lower_size m n i j xs ys (eight a0 a1 a2) (four b0 b1 b2 b3) below = omega arith
lower_size m n i j xs ys (eight a0 a1 a2) (eight b0 b1 b2) below = omega arith

-- of two numbers with equal additional information the one whose bytes come before is lower
same_size : (m n i j : ℕ) (xs ys : List ℕ) → m < 2 ^ 64 → n < 2 ^ 64 → Size m i xs → Size n j ys → i ≡ j → slice_cmp nat_cmp xs ys ≡ Less → m < n
same_size m n i j xs ys f g (none a0 a1 a2) (none b0 b1 b2) same less = no_bytes (cmp_at xs ys [] [] a2 b2 less)
same_size m n i j xs ys f g (none a0 a1 a2) (one b0 b1 b2 b3) same less = absurd (omega arith)
same_size m n i j xs ys f g (none a0 a1 a2) (two b0 b1 b2 b3) same less = absurd (omega arith)
same_size m n i j xs ys f g (none a0 a1 a2) (four b0 b1 b2 b3) same less = absurd (omega arith)
same_size m n i j xs ys f g (none a0 a1 a2) (eight b0 b1 b2) same less = absurd (omega arith)
same_size m n i j xs ys f g (one a0 a1 a2 a3) (none b0 b1 b2) same less = absurd (omega arith)
same_size m n i j xs ys f g (one a0 a1 a2 a3) (one b0 b1 b2 b3) same less = one_byte m n (cmp_at xs ys (m ∷ []) (n ∷ []) a3 b3 less)
same_size m n i j xs ys f g (one a0 a1 a2 a3) (two b0 b1 b2 b3) same less = absurd (omega arith)
same_size m n i j xs ys f g (one a0 a1 a2 a3) (four b0 b1 b2 b3) same less = absurd (omega arith)
same_size m n i j xs ys f g (one a0 a1 a2 a3) (eight b0 b1 b2) same less = absurd (omega arith)
same_size m n i j xs ys f g (two a0 a1 a2 a3) (none b0 b1 b2) same less = absurd (omega arith)
same_size m n i j xs ys f g (two a0 a1 a2 a3) (one b0 b1 b2 b3) same less = absurd (omega arith)
same_size m n i j xs ys f g (two a0 a1 a2 a3) (two b0 b1 b2 b3) same less = in_order 2 m n (two_bytes m a1) (two_bytes n b1) (cmp_at xs ys _ _ a3 b3 less)
same_size m n i j xs ys f g (two a0 a1 a2 a3) (four b0 b1 b2 b3) same less = absurd (omega arith)
same_size m n i j xs ys f g (two a0 a1 a2 a3) (eight b0 b1 b2) same less = absurd (omega arith)
same_size m n i j xs ys f g (four a0 a1 a2 a3) (none b0 b1 b2) same less = absurd (omega arith)
same_size m n i j xs ys f g (four a0 a1 a2 a3) (one b0 b1 b2 b3) same less = absurd (omega arith)
same_size m n i j xs ys f g (four a0 a1 a2 a3) (two b0 b1 b2 b3) same less = absurd (omega arith)
same_size m n i j xs ys f g (four a0 a1 a2 a3) (four b0 b1 b2 b3) same less = in_order 4 m n (four_bytes m a1) (four_bytes n b1) (cmp_at xs ys _ _ a3 b3 less)
same_size m n i j xs ys f g (four a0 a1 a2 a3) (eight b0 b1 b2) same less = absurd (omega arith)
same_size m n i j xs ys f g (eight a0 a1 a2) (none b0 b1 b2) same less = absurd (omega arith)
same_size m n i j xs ys f g (eight a0 a1 a2) (one b0 b1 b2 b3) same less = absurd (omega arith)
same_size m n i j xs ys f g (eight a0 a1 a2) (two b0 b1 b2 b3) same less = absurd (omega arith)
same_size m n i j xs ys f g (eight a0 a1 a2) (four b0 b1 b2 b3) same less = absurd (omega arith)
same_size m n i j xs ys f g (eight a0 a1 a2) (eight b0 b1 b2) same less = in_order 8 m n (eight_bytes m f) (eight_bytes n g) (cmp_at xs ys _ _ a2 b2 less)

-- the encodings of unsigned numbers are in the order of the numbers
head_ascends : (m n : ℕ) → m < 2 ^ 64 → n < 2 ^ 64 → IsBefore (canon (unsigned m)) (canon (unsigned n)) → m < n
unfolding head
head_ascends m n f g before = elim (first_or_rest (0 + information m) (0 + information n) (following m) (following n) before) [
  | inl below ↦ lower_size m n (information m) (information n) (following m) (following n) (size_of m) (size_of n) (omega arith)
  | inr same ↦ same_size m n (information m) (information n) (following m) (following n) f g (size_of m) (size_of n) (let equal : 0 + information m ≡ 0 + information n = same.0 in omega arith) same.1
]

-- ---- fields

above_more : (m n : ℕ) (fields : List Field) → m < n → AllAbove n fields → AllAbove m fields
above_more m n [] below all = tt
above_more m n (field ∷ fields) below all = let first : n < number_of field = all.0 in (omega arith, above_more m n fields below all.1)

field_ascends : (m n : ℕ) (value : Tree) (fields : List Field) → m < n → AllAbove n fields → Ascend fields
    → AllAbove m (field_before (key_role n) value fields) × Ascend (field_before (key_role n) value fields)
field_ascends m n value fields below above ascend = by_role (is_known n) (is_ignored n)
  where
    by_role : (a b : Bool) → AllAbove m (field_before (cond a (role.Known n) (cond b role.Ignored (role.Unknown n))) value fields)
        × Ascend (field_before (cond a (role.Known n) (cond b role.Ignored (role.Unknown n))) value fields)
    by_role true b = ((below, above_more m n fields below above), (above, ascend))
    by_role false true = (above_more m n fields below above, ascend)
    by_role false false = ((below, above_more m n fields below above), (above, ascend))

fields_above : (m : ℕ) (pairs : Pairs) → m < 2 ^ 64 → RiseFrom (canon (unsigned m)) pairs → ArePairsSound pairs → all_unsigned pairs ≡ true → AllAbove m (fields_in pairs) × Ascend (fields_in pairs)
fields_above m no_pairs small rise sound all = (tt, tt)
fields_above m (pair (unsigned n) value pairs) small rise sound all =
    let below = head_ascends m n small sound.0 rise.0 in
    let rest = fields_above n pairs sound.0 rise.1 sound.2 all in
    field_ascends m n value (fields_in pairs) below rest.0 rest.1
fields_above m (pair (negative n) value pairs) small rise sound all = absurd (cc)
fields_above m (pair (byte_string bytes) value pairs) small rise sound all = absurd (cc)
fields_above m (pair (text bytes) value pairs) small rise sound all = absurd (cc)
fields_above m (pair (array items) value pairs) small rise sound all = absurd (cc)
fields_above m (pair (mapping inner) value pairs) small rise sound all = absurd (cc)
fields_above m (pair (tag n inner) value pairs) small rise sound all = absurd (cc)
fields_above m (pair (boolean b) value pairs) small rise sound all = absurd (cc)
fields_above m (pair null value pairs) small rise sound all = absurd (cc)

-- the fields of a valid map whose keys are unsigned
pub fields_ascend : (pairs : Pairs) → KeysRise pairs → ArePairsSound pairs → all_unsigned pairs ≡ true → Ascend (fields_in pairs)
fields_ascend no_pairs rise sound all = tt
fields_ascend (pair (unsigned n) value pairs) rise sound all =
    let rest = fields_above n pairs sound.0 rise.1 sound.2 all in
    by_role (is_known n) (is_ignored n) rest.0 rest.1
  where
    by_role : (a b : Bool) → AllAbove n (fields_in pairs) → Ascend (fields_in pairs) → Ascend (field_before (cond a (role.Known n) (cond b role.Ignored (role.Unknown n))) value (fields_in pairs))
    by_role true b above ascend = (above, ascend)
    by_role false true above ascend = ascend
    by_role false false above ascend = (above, ascend)
fields_ascend (pair (negative n) value pairs) rise sound all = absurd (cc)
fields_ascend (pair (byte_string bytes) value pairs) rise sound all = absurd (cc)
fields_ascend (pair (text bytes) value pairs) rise sound all = absurd (cc)
fields_ascend (pair (array items) value pairs) rise sound all = absurd (cc)
fields_ascend (pair (mapping inner) value pairs) rise sound all = absurd (cc)
fields_ascend (pair (tag n inner) value pairs) rise sound all = absurd (cc)
fields_ascend (pair (boolean b) value pairs) rise sound all = absurd (cc)
fields_ascend (pair null value pairs) rise sound all = absurd (cc)
