-- Readers of the parts of an entry.
use Rattle.std.proofs.Common.{◌≡◌, ℕ, zero, suc, ◌<◌, ◌≤◌, ◌⊎◌, inl, inr, Bool, true, false, ◌==◌, ◌&&◌, nat_le, Option, Some, None, List, [], ◌∷◌, ◌++◌, length, Ok, Err, refl, sym, ap, subst, ◌∙◌, arith}
use Rattle.std.specs.Char.{is_ascii_graphic}
use Rattle.std.specs.List.{AllByRecursion, flat_map, list_all}
use Rattle.std.proofs.lemmas.Bool.{and_from, and_parts, cases_lt}
use Rattle.std.proofs.lemmas.Bool.Decides.{nat_tests}
use Rattle.ip_scope.specs.declared.family.Family.{Family}
use Rattle.ip_scope.specs.declared.family.Family.TheVariants.{V4, V6}
use Rattle.slot_journal.specs.Values.{IsByte, IsName, IfThere}
use Rattle.slot_journal.specs.Layout.{byte, counted, optional, flag_number, version}
use Rattle.slot_journal.specs.RecordReading.{Read, pair_at, second, nothing_at, items_at, byte_at, within_at, visible_at, name_at, optional_at, there_at, flag_at, is_version, family_of, version_at}
use Rattle.slot_journal.proofs.Readers.{IsReader, Sound, byte_reader, made_reader, pair_reader}
use Rattle.slot_journal.proofs.Fields.{IsWithin, within_reader, is_between, between_most, between_least, AreItems, items_reader}

-- ---- nothing

pub nothing_reader : {A : Type 0} (a : A) → IsReader (λ x. x ≡ a) (λ _. []) (nothing_at a)
nothing_reader a = record {
  whole = λ end x rest is. ap (λ y. Ok (y, rest)) (sym is);
  sound = λ end bytes fits. (refl, refl);
}

-- ---- visible characters

abbrev pub IsVisible : ℕ → Type 0
IsVisible b = (is_ascii_graphic b ≡ true) × IsByte b

pub record AreVisible (least most : ℕ) (xs : List ℕ) : Type 0 where
  pub low : least ≤ length xs
  pub high : length xs ≤ most
  pub visible : AllByRecursion IsVisible xs

each_itself : (xs : List ℕ) → flat_map byte xs ≡ xs
each_itself [] = refl
each_itself (x ∷ xs) = ap (λ l. x ∷ l) (each_itself xs)

pub visible_reader : (least most : ℕ) → least ≤ most → most < 256 → IsReader (AreVisible least most) counted (visible_at least most)
unfolding visible_at
visible_reader least most order small =
    made_reader (λ p. IsWithin least most p.0 × AreItems IsVisible p.0 p.1) (λ p. byte p.0 ++ flat_map byte p.1) (pair_at (within_at least most) (items_at (byte_at is_ascii_graphic)))
    (AreVisible least most) counted second
    (λ p holds. (
      record {
        low = subst (λ (n : ℕ). least ≤ n) (sym holds.1.0) (between_least least most p.0 holds.0.0);
        high = subst (λ (n : ℕ). n ≤ most) (sym holds.1.0) (between_most least most p.0 holds.0.0);
        visible = holds.1.1;
      },
      ap (λ (n : ℕ). n ∷ p.1) holds.1.0 ∙ ap (λ l. p.0 ∷ l) (sym (each_itself p.1)),
    ))
    (λ xs holds. ((length xs, xs), ((is_between least most (length xs) holds.low holds.high, omega (arith, small, holds.high)), (refl, holds.visible)), refl))
    (pair_reader (IsWithin least most) byte (within_at least most) (AreItems IsVisible) (λ _. flat_map byte) (items_at (byte_at is_ascii_graphic))
    (within_reader least most order small)
    (λ n holds. items_reader IsVisible byte (byte_at is_ascii_graphic) (byte_reader is_ascii_graphic 33 refl (omega arith)) n))

graphic_is_byte : (b : ℕ) → is_ascii_graphic b ≡ true → IsByte b
graphic_is_byte b visible = grind (arith, nat_tests)

pub visible_each : (xs : List ℕ) → list_all is_ascii_graphic xs ≡ true → AllByRecursion IsVisible xs
visible_each [] is = tt
visible_each (x ∷ xs) is = let parts = and_parts (is_ascii_graphic x) (list_all is_ascii_graphic xs) is in ((parts.0, graphic_is_byte x parts.0), visible_each xs parts.1)

pub each_visible : (xs : List ℕ) → AllByRecursion IsVisible xs → list_all is_ascii_graphic xs ≡ true
each_visible [] holds = refl
each_visible (x ∷ xs) holds = and_from _ _ holds.0.0 (each_visible xs holds.1)

pub name_visible : (xs : List ℕ) → IsName xs → AreVisible 1 64 xs
name_visible xs name =
    let parts = and_parts (nat_le 1 (length xs) && nat_le (length xs) 64) (list_all is_ascii_graphic xs) name in
    let sizes = and_parts (nat_le 1 (length xs)) (nat_le (length xs) 64) parts.0 in
    let low : nat_le 1 (length xs) ≡ true = sizes.0 in
    let high : nat_le (length xs) 64 ≡ true = sizes.1 in
    record { low = grind (arith, nat_tests); high = grind (arith, nat_tests); visible = visible_each xs parts.1 }

pub visible_name : (xs : List ℕ) → AreVisible 1 64 xs → IsName xs
visible_name xs holds =
    let few = holds.low in
    let many = holds.high in
    let low : nat_le 1 (length xs) ≡ true = grind (arith, nat_tests) in
    let high : nat_le (length xs) 64 ≡ true = grind (arith, nat_tests) in
    and_from _ _ (and_from _ _ low high) (each_visible xs holds.visible)

same_sound : {A : Type 0} (v w : A → Type 0) (layout : A → List ℕ) (read : ℕ → List ℕ → Read A) (end : ℕ) (bytes : List ℕ) → ((a : A) → v a → w a) → (r : Read A) → Sound v layout read end bytes r → Sound w layout read end bytes r
same_sound v w layout read end bytes to (Ok x) s = (to x.0 s.0, s.1)
same_sound v w layout read end bytes to (Err at) s = record { passed = s.passed; left = s.left; more = s.more; value = s.value; is = s.is; place = s.place; holds = to s.value s.holds; goes_on = s.goes_on; blocked = s.blocked }

-- a reader of what is the same
pub weaker_reader : {A : Type 0} (v w : A → Type 0) (layout : A → List ℕ) (read : ℕ → List ℕ → Read A) → ((a : A) → v a → w a) → ((a : A) → w a → v a) → IsReader v layout read → IsReader w layout read
weaker_reader v w layout read to from reader = record {
  whole = λ end a rest holds. reader.whole end a rest (from a holds);
  sound = λ end bytes fits. same_sound v w layout read end bytes to (read end bytes) (reader.sound end bytes fits);
}

pub name_reader : IsReader IsName counted name_at
name_reader = weaker_reader (AreVisible 1 64) IsName counted name_at visible_name name_visible (visible_reader 1 64 (omega arith) (omega arith))

-- ---- what may be there

abbrev pub IsOptional : {A : Type 0} → (A → Type 0) → ℕ → Option A → Type 0
IsOptional valid zero None = Unit {0}
IsOptional valid zero (Some x) = ⊥
IsOptional valid (suc n) None = ⊥
IsOptional valid (suc n) (Some x) = valid x

abbrev pub optional_rest : {A : Type 0} → (A → List ℕ) → Option A → List ℕ
optional_rest layout None = []
optional_rest layout (Some x) = layout x

none_is : {A : Type 0} (valid : A → Type 0) (o : Option A) → o ≡ None → IsOptional valid 0 o
none_is valid None is = tt
none_is valid (Some x) is = cc

is_none : {A : Type 0} (valid : A → Type 0) (o : Option A) → IsOptional valid 0 o → o ≡ None
is_none valid None holds = refl
is_none valid (Some x) holds = absurd holds

none_rest : {A : Type 0} (valid : A → Type 0) (layout : A → List ℕ) (n : ℕ) (read : ℕ → List ℕ → Read A) → IsReader (IsOptional valid zero) (optional_rest layout) (there_at read zero)
none_rest valid layout n read = record {
  whole = λ end o rest holds. rw (is_none valid o holds) refl;
  sound = λ end bytes fits. (tt, refl);
}

some_from : {A : Type 0} (valid : A → Type 0) (n : ℕ) (o : Option A) → IsOptional valid (suc n) o → (x : A) × valid x × (Some x ≡ o)
some_from valid n None holds = absurd holds
some_from valid n (Some x) holds = (x, holds, refl)

there_reader : {A : Type 0} (valid : A → Type 0) (layout : A → List ℕ) (read : ℕ → List ℕ → Read A) → IsReader valid layout read → (n : ℕ) → IsReader (IsOptional valid n) (optional_rest layout) (there_at read n)
there_reader valid layout read reader zero = none_rest valid layout 0 read
there_reader valid layout read reader (suc n) = made_reader valid layout read (IsOptional valid (suc n)) (optional_rest layout) Some (λ x holds. (holds, refl)) (some_from valid n) reader

optional_to_at : {A : Type 0} (valid : A → Type 0) (layout : A → List ℕ) (n : ℕ) (o : Option A) → IsWithin 0 1 n → IsOptional valid n o → IfThere valid o × (optional layout o ≡ byte n ++ optional_rest layout o)
optional_to_at valid layout zero None small holds = (tt, refl)
optional_to_at valid layout zero (Some x) small holds = absurd holds
optional_to_at valid layout (suc n) None small holds = absurd holds
optional_to_at valid layout (suc zero) (Some x) small holds = (holds, refl)
optional_to_at valid layout (suc (suc n)) (Some x) small holds = absurd (omega (arith, between_most 0 1 (suc (suc n)) small.0))

optional_to : {A : Type 0} (valid : A → Type 0) (layout : A → List ℕ) (p : ℕ × Option A) → IsWithin 0 1 p.0 × IsOptional valid p.0 p.1 → IfThere valid p.1 × (optional layout p.1 ≡ byte p.0 ++ optional_rest layout p.1)
optional_to valid layout p holds = optional_to_at valid layout p.0 p.1 holds.0 holds.1

optional_from : {A : Type 0} (valid : A → Type 0) (o : Option A) → IfThere valid o → (p : ℕ × Option A) × (IsWithin 0 1 p.0 × IsOptional valid p.0 p.1) × (p.1 ≡ o)
optional_from valid None holds = ((0, None), ((refl, omega arith), tt), refl)
optional_from valid (Some x) holds = ((1, Some x), ((refl, omega arith), holds), refl)

pub optional_reader : {A : Type 0} (valid : A → Type 0) (layout : A → List ℕ) (read : ℕ → List ℕ → Read A) → IsReader valid layout read → IsReader (IfThere valid) (optional layout) (optional_at read)
unfolding optional_at
optional_reader valid layout read reader =
    made_reader (λ p. IsWithin 0 1 p.0 × IsOptional valid p.0 p.1) (λ p. byte p.0 ++ optional_rest layout p.1) (pair_at (within_at 0 1) (there_at read))
    (IfThere valid) (optional layout) second
    (optional_to valid layout) (optional_from valid)
    (pair_reader (IsWithin 0 1) byte (within_at 0 1) (IsOptional valid) (λ _. optional_rest layout) (there_at read)
    (within_reader 0 1 (omega arith) (omega arith)) (λ n holds. there_reader valid layout read reader n))

-- ---- yes or no

flag_back : (b : Bool) → (n : ℕ) × IsWithin 0 1 n × ((n == 1) ≡ b)
flag_back true = (1, (refl, omega arith), refl)
flag_back false = (0, (refl, omega arith), refl)

flag_to : (n : ℕ) → IsWithin 0 1 n → Unit {0} × (byte (flag_number (n == 1)) ≡ byte n)
flag_to zero holds = (tt, refl)
flag_to (suc zero) holds = (tt, refl)
flag_to (suc (suc n)) holds = absurd (omega (arith, between_most 0 1 (suc (suc n)) holds.0))

pub flag_reader : IsReader (λ _. Unit {0}) (λ b. byte (flag_number b)) flag_at
flag_reader = made_reader (IsWithin 0 1) byte (within_at 0 1) (λ _. Unit {0}) (λ b. byte (flag_number b)) (λ n. n == 1) flag_to (λ b holds. flag_back b) (within_reader 0 1 (omega arith) (omega arith))

-- ---- prefixes

version_back : (family : Family) → (n : ℕ) × ((is_version n ≡ true) × IsByte n) × (family_of n ≡ family)
version_back V4 = (4, (refl, omega arith), refl)
version_back V6 = (6, (refl, omega arith), refl)

version_cases : (n : ℕ) → is_version n ≡ true → (n ≡ 4) ⊎ (n ≡ 6)
version_cases n is = elim (cases_lt n 5) as (λ _. (n ≡ 4) ⊎ (n ≡ 6)) [ inl low ↦ inl (grind (arith, nat_tests)) | inr high ↦ inr (grind (arith, nat_tests)) ]

version_to : (n : ℕ) → (is_version n ≡ true) × IsByte n → Unit {0} × (byte (version (family_of n)) ≡ byte n)
version_to n holds = elim (version_cases n holds.0) as (λ _. Unit {0} × (byte (version (family_of n)) ≡ byte n)) [ inl four ↦ (tt, rw four refl) | inr six ↦ (tt, rw six refl) ]

pub version_reader : IsReader (λ _. Unit {0}) (λ family. byte (version family)) version_at
unfolding version_at
version_reader = made_reader (λ n. (is_version n ≡ true) × IsByte n) byte (byte_at is_version) (λ _. Unit {0}) (λ family. byte (version family)) family_of version_to (λ family holds. version_back family)
    (byte_reader is_version 4 refl (omega arith))
