-- Readers of numbers, names and lists.
use Rattle.std.proofs.Common.{◌≡◌, ℕ, zero, suc, ◌-◌, ◌%◌, ◌^◌, ◌<◌, ◌≤◌, Bool, true, false, nat_lt, nat_le, List, [], ◌∷◌, ◌++◌, length, get_or, take, drop, Ok, Err, refl, sym, ap, subst, arith}
use Rattle.std.specs.Prelude.{if◌then◌else◌, replicate}
use Rattle.std.specs.List.{AllByRecursion, flat_map}
use Rattle.std.specs.Int.{w16, w32, w64, to_be_bytes, from_be_bytes}
use Rattle.std.proofs.lemmas.Bool.{and_from, and_parts}
use Rattle.std.proofs.lemmas.Bool.Decides.{nat_tests}
use Rattle.std.proofs.lemmas.List.{append-nil, length-append}
use Rattle.std.proofs.lemmas.Nat.{be_bytes_2, be_bytes_4, be_bytes_8, from_be_bytes-to_be_bytes_2, from_be_bytes-to_be_bytes_4, from_be_bytes-to_be_bytes_8}
use Rattle.slot_journal.specs.Values.{IsByte}
use Rattle.slot_journal.specs.Layout.{byte, counted, listed}
use Rattle.slot_journal.specs.RecordReading.{Read, pair_at, both_at, second, prepended, items_at, bytes_at, number_at, between, within_at, counted_at, list_at}
use Rattle.slot_journal.proofs.Readers.{AreBytes, IsReader, Sound, byte_reader, made_reader, pair_reader, no_head}

-- ---- a byte from the least to the most

abbrev pub IsWithin : ℕ → ℕ → ℕ → Type 0
IsWithin least most b = (between least most b ≡ true) × IsByte b

pub is_between : (least most b : ℕ) → least ≤ b → b ≤ most → between least most b ≡ true
is_between least most b low high =
    let l : nat_le least b ≡ true = grind (arith, nat_tests) in
    let m : nat_le b most ≡ true = grind (arith, nat_tests) in
    and_from _ _ l m

pub between_most : (least most b : ℕ) → between least most b ≡ true → b ≤ most
between_most least most b is = let parts = and_parts (nat_le least b) (nat_le b most) is in let h : nat_le b most ≡ true = parts.1 in grind (arith, nat_tests)

pub between_least : (least most b : ℕ) → between least most b ≡ true → least ≤ b
between_least least most b is = let parts = and_parts (nat_le least b) (nat_le b most) is in let h : nat_le least b ≡ true = parts.0 in grind (arith, nat_tests)

pub within_reader : (least most : ℕ) → least ≤ most → most < 256 → IsReader (IsWithin least most) byte (within_at least most)
within_reader least most order small = byte_reader (between least most) most (is_between least most most order (omega arith)) (omega (arith, small))

-- ---- so many bytes

abbrev pub AreSoMany : ℕ → List ℕ → Type 0
AreSoMany n xs = (length xs ≡ n) × AreBytes xs

pub same_list : List ℕ → List ℕ
same_list xs = xs

zeros_are_bytes : (n : ℕ) → AreBytes (replicate n 0)
zeros_are_bytes zero = tt
zeros_are_bytes (suc n) = (omega arith, zeros_are_bytes n)

zeros_length : (n : ℕ) → length {A = ℕ} (replicate n 0) ≡ n
zeros_length zero = refl
zeros_length (suc n) = ap suc (zeros_length n)

pub are_bytes_joined : (xs ys : List ℕ) → AreBytes xs → AreBytes ys → AreBytes (xs ++ ys)
are_bytes_joined [] ys a b = b
are_bytes_joined (x ∷ xs) ys a b = (a.0, are_bytes_joined xs ys a.1 b)

pub front_bytes : (n : ℕ) (xs : List ℕ) → AreBytes xs → AreBytes (take n xs)
front_bytes zero xs a = tt
front_bytes (suc n) [] a = tt
front_bytes (suc n) (x ∷ xs) a = (a.0, front_bytes n xs a.1)

take_drop : (n : ℕ) (xs : List ℕ) → xs ≡ take n xs ++ drop n xs
take_drop zero xs = refl
take_drop (suc n) [] = refl
take_drop (suc n) (x ∷ xs) = ap (λ l. x ∷ l) (take_drop n xs)

take_whole : (xs rest : List ℕ) → take (length xs) (xs ++ rest) ≡ xs
take_whole [] rest = refl
take_whole (x ∷ xs) rest = ap (λ l. x ∷ l) (take_whole xs rest)

drop_whole : (xs rest : List ℕ) → drop (length xs) (xs ++ rest) ≡ rest
drop_whole [] rest = refl
drop_whole (x ∷ xs) rest = drop_whole xs rest

front_length : (n : ℕ) (xs : List ℕ) → n ≤ length xs → length (take n xs) ≡ n
front_length zero xs few = refl
front_length (suc n) [] few = absurd (omega arith)
front_length (suc n) (x ∷ xs) few = ap suc (front_length n xs (omega arith))

bytes_sound : (n end : ℕ) (bytes : List ℕ) (v : Bool) → nat_lt (length bytes) n ≡ v → AreBytes bytes
    → Sound (AreSoMany n) (λ xs. xs) (bytes_at n) end bytes (if v then Err end else Ok (take n bytes, drop n bytes))
bytes_sound n end bytes false many fits = let few : n ≤ length bytes = grind (arith, nat_tests) in ((front_length n bytes few, front_bytes n bytes fits), take_drop n bytes)
bytes_sound n end bytes true short fits =
    let less : length bytes < n = grind (arith, nat_tests) in
    let more = replicate (n - length bytes) 0 in
    record {
      passed = bytes;
      left = [];
      more = more;
      value = bytes ++ more;
      is = sym (append-nil bytes);
      place = omega arith;
      holds = (omega (arith, length-append bytes more, zeros_length (n - length bytes)), are_bytes_joined bytes more fits (zeros_are_bytes (n - length bytes)));
      goes_on = refl;
      blocked = λ b l other e same. no_head b l same;
    }

bytes_whole : (n end : ℕ) (xs rest : List ℕ) → length xs ≡ n → bytes_at n end (xs ++ rest) ≡ Ok (xs, rest)
unfolding bytes_at
bytes_whole n end xs rest size =
    let no : nat_lt (length (xs ++ rest)) n ≡ false = let all = length-append xs rest in grind (arith, nat_tests) in
    let front : take n (xs ++ rest) ≡ xs = subst (λ (k : ℕ). take k (xs ++ rest) ≡ xs) size (take_whole xs rest) in
    let behind : drop n (xs ++ rest) ≡ rest = subst (λ (k : ℕ). drop k (xs ++ rest) ≡ rest) size (drop_whole xs rest) in
    rw (no, front, behind) refl

pub bytes_reader : (n : ℕ) → IsReader (AreSoMany n) (λ xs. xs) (bytes_at n)
unfolding bytes_at
bytes_reader n = record {
  whole = λ end xs rest holds. bytes_whole n end xs rest holds.0;
  sound = λ end bytes fits. bytes_sound n end bytes (nat_lt (length bytes) n) refl fits;
}

-- ---- numbers

pub byte_at_place : (xs : List ℕ) (i : ℕ) → AreBytes xs → get_or xs i 0 < 256
byte_at_place [] i fits = omega arith
byte_at_place (x ∷ xs) zero fits = omega (arith, fits.0)
byte_at_place (x ∷ xs) (suc i) fits = byte_at_place xs i fits.1

below_2 : (xs : List ℕ) → AreBytes xs → from_be_bytes w16 xs < 2 ^ 16
below_2 xs fits = omega (arith, byte_at_place xs 0 fits, byte_at_place xs 1 fits)

below_4 : (xs : List ℕ) → AreBytes xs → from_be_bytes w32 xs < 2 ^ 32
below_4 xs fits = omega (arith, byte_at_place xs 0 fits, byte_at_place xs 1 fits, byte_at_place xs 2 fits, byte_at_place xs 3 fits)

below_8 : (xs : List ℕ) → AreBytes xs → from_be_bytes w64 xs < 2 ^ 64
below_8 xs fits =
    omega (arith, byte_at_place xs 0 fits, byte_at_place xs 1 fits, byte_at_place xs 2 fits, byte_at_place xs 3 fits, byte_at_place xs 4 fits, byte_at_place xs 5 fits, byte_at_place xs 6 fits, byte_at_place xs 7 fits)

remainder : (n : ℕ) → n % 256 < 2 ^ 8
remainder n = omega arith

pub bytes_of_2 : (n : ℕ) → AreSoMany 2 (to_be_bytes w16 n)
bytes_of_2 n = (refl, (remainder _, (remainder _, tt)))

pub bytes_of_4 : (n : ℕ) → AreSoMany 4 (to_be_bytes w32 n)
bytes_of_4 n = (refl, (remainder _, (remainder _, (remainder _, (remainder _, tt)))))

pub bytes_of_8 : (n : ℕ) → AreSoMany 8 (to_be_bytes w64 n)
bytes_of_8 n = (refl, (remainder _, (remainder _, (remainder _, (remainder _, (remainder _, (remainder _, (remainder _, (remainder _, tt)))))))))

pub two_reader : IsReader (λ n. n < 2 ^ 16) (to_be_bytes w16) (number_at w16)
two_reader =
    made_reader (AreSoMany 2) (λ xs. xs) (bytes_at 2) (λ n. n < 2 ^ 16) (to_be_bytes w16) (from_be_bytes w16)
    (λ xs holds. (below_2 xs holds.1, be_bytes_2 xs (from_be_bytes w16 xs) holds.0 (λ i. byte_at_place xs i holds.1) refl))
    (λ n fits. (to_be_bytes w16 n, bytes_of_2 n, from_be_bytes-to_be_bytes_2 n fits))
    (bytes_reader 2)

pub four_reader : IsReader (λ n. n < 2 ^ 32) (to_be_bytes w32) (number_at w32)
four_reader =
    made_reader (AreSoMany 4) (λ xs. xs) (bytes_at 4) (λ n. n < 2 ^ 32) (to_be_bytes w32) (from_be_bytes w32)
    (λ xs holds. (below_4 xs holds.1, be_bytes_4 xs (from_be_bytes w32 xs) holds.0 (λ i. byte_at_place xs i holds.1) refl))
    (λ n fits. (to_be_bytes w32 n, bytes_of_4 n, from_be_bytes-to_be_bytes_4 n fits))
    (bytes_reader 4)

pub eight_reader : IsReader (λ n. n < 2 ^ 64) (to_be_bytes w64) (number_at w64)
eight_reader =
    made_reader (AreSoMany 8) (λ xs. xs) (bytes_at 8) (λ n. n < 2 ^ 64) (to_be_bytes w64) (from_be_bytes w64)
    (λ xs holds. (below_8 xs holds.1, be_bytes_8 xs (from_be_bytes w64 xs) holds.0 (λ i. byte_at_place xs i holds.1) refl))
    (λ n fits. (to_be_bytes w64 n, bytes_of_8 n, from_be_bytes-to_be_bytes_8 n fits))
    (bytes_reader 8)

-- ---- items

pub both_reader : {A B : Type 0} (vA : A → Type 0) (lA : A → List ℕ) (rA : ℕ → List ℕ → Read A) (vB : B → Type 0) (lB : B → List ℕ) (rB : ℕ → List ℕ → Read B)
    → IsReader vA lA rA → IsReader vB lB rB → IsReader (λ p. vA p.0 × vB p.1) (λ p. lA p.0 ++ lB p.1) (both_at rA rB)
both_reader vA lA rA vB lB rB first next = pair_reader vA lA rA (λ _. vB) (λ _. lB) (λ _. rB) first (λ a holds. next)

abbrev pub AreItems : {A : Type 0} → (A → Type 0) → ℕ → List A → Type 0
AreItems valid n xs = (length xs ≡ n) × AllByRecursion valid xs

no_items : {A : Type 0} (valid : A → Type 0) (layout : A → List ℕ) (read : ℕ → List ℕ → Read A) (end : ℕ) (xs : List A) (rest : List ℕ) → AreItems valid 0 xs → items_at read 0 end (flat_map layout xs ++ rest) ≡ Ok (xs, rest)
unfolding items_at
no_items valid layout read end [] rest holds = refl
no_items valid layout read end (x ∷ xs) rest holds = absurd (omega (arith, holds.0))

parted : {A : Type 0} (valid : A → Type 0) (layout : A → List ℕ) (n : ℕ) (xs : List A) → AreItems valid (suc n) xs → (p : A × List A) × (valid p.0 × AreItems valid n p.1) × (prepended p ≡ xs)
parted valid layout n [] holds = absurd (omega (arith, holds.0))
parted valid layout n (x ∷ xs) holds = ((x, xs), (holds.1.0, (omega (arith, holds.0), holds.1.1)), refl)

pub items_reader : {A : Type 0} (valid : A → Type 0) (layout : A → List ℕ) (read : ℕ → List ℕ → Read A) → IsReader valid layout read → (n : ℕ) → IsReader (AreItems valid n) (flat_map layout) (items_at read n)
unfolding items_at
items_reader valid layout read reader zero = record {
  whole = λ end xs rest holds. no_items valid layout read end xs rest holds;
  sound = λ end bytes fits. ((refl, tt), refl);
}
items_reader valid layout read reader (suc n) =
    made_reader (λ p. valid p.0 × AreItems valid n p.1) (λ p. layout p.0 ++ flat_map layout p.1) (both_at read (items_at read n))
    (AreItems valid (suc n)) (flat_map layout) prepended
    (λ p holds. ((ap suc holds.1.0, (holds.0, holds.1.1)), refl))
    (parted valid layout n)
    (both_reader valid layout read (AreItems valid n) (flat_map layout) (items_at read n) reader (items_reader valid layout read reader n))

-- ---- how many, and then so many

abbrev pub AtMost : {A : Type 0} → ℕ → (A → Type 0) → List A → Type 0
AtMost most valid xs = (length xs ≤ most) × AllByRecursion valid xs

pub list_reader : {A : Type 0} (most : ℕ) (valid : A → Type 0) (layout : A → List ℕ) (read : ℕ → List ℕ → Read A) → most < 256 → IsReader valid layout read → IsReader (AtMost most valid) (listed layout) (list_at most read)
unfolding list_at
list_reader most valid layout read small reader =
    made_reader (λ p. IsWithin 0 most p.0 × AreItems valid p.0 p.1) (λ p. byte p.0 ++ flat_map layout p.1) (pair_at (within_at 0 most) (items_at read))
    (AtMost most valid) (listed layout) second
    (λ p holds. ((subst (λ (n : ℕ). n ≤ most) (sym holds.1.0) (between_most 0 most p.0 holds.0.0), holds.1.1), ap (λ (n : ℕ). n ∷ flat_map layout p.1) holds.1.0))
    (λ xs holds. ((length xs, xs), ((is_between 0 most (length xs) (omega arith) holds.0, omega (arith, holds.0)), (refl, holds.1)), refl))
    (pair_reader (IsWithin 0 most) byte (within_at 0 most) (AreItems valid) (λ _. flat_map layout) (items_at read)
    (within_reader 0 most (omega arith) small) (λ n holds. items_reader valid layout read reader n))

pub counted_reader : (most : ℕ) → most < 256 → IsReader (AtMost most IsByte) counted (counted_at most)
unfolding counted_at
counted_reader most small =
    made_reader (λ p. IsWithin 0 most p.0 × AreSoMany p.0 p.1) (λ p. byte p.0 ++ p.1) (pair_at (within_at 0 most) bytes_at)
    (AtMost most IsByte) counted second
    (λ p holds. ((subst (λ (n : ℕ). n ≤ most) (sym holds.1.0) (between_most 0 most p.0 holds.0.0), holds.1.1), ap (λ (n : ℕ). n ∷ p.1) holds.1.0))
    (λ xs holds. ((length xs, xs), ((is_between 0 most (length xs) (omega arith) holds.0, omega (arith, holds.0)), (refl, holds.1)), refl))
    (pair_reader (IsWithin 0 most) byte (within_at 0 most) AreSoMany (λ _ xs. xs) bytes_at
    (within_reader 0 most (omega arith) small) (λ n holds. bytes_reader n))
