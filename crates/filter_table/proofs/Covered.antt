-- Which ranks of a level cover an address.
use Rattle.std.proofs.Common.{◌≡◌, ℕ, ◌+◌, ◌-◌, ◌*◌, ◌/◌, ◌%◌, ◌^◌, ◌<◌, ◌≤◌, Bool, true, false, ◌&&◌, cond, ◌==◌, nat_lt, nat_le, List, [], ◌∷◌, map, filter, refl, sym, ap, ◌∙◌, arith, inl, inr, add-zero}
use Rattle.std.specs.List.{AllByRecursion}
use Rattle.std.proofs.lemmas.Bool.{cases_eq, ne_eqb, eq-eqb}
use Rattle.std.proofs.lemmas.Nat.{pow_pos, div-mul-add}
use Rattle.ip_scope.specs.declared.family.Family.{Family}
use Rattle.ip_scope.specs.declared.family.Family.TheVariants.{V4, V6}
use Rattle.ip_scope.specs.Family.{width}
use Rattle.ip_scope.specs.Prefix.{block_size, holds}
use Rattle.filter_table.specs.declared.rank.Rank.{Rank}
use Rattle.filter_table.specs.Ranks.{rank_of}
use Rattle.filter_table.specs.Covers.{cleared, covers}
use Rattle.filter_table.proofs.Each.{each_weaker}
use Rattle.filter_table.proofs.Runs.{OfKind}

filter_agree_on : (p q : Rank → Bool) (xs : List Rank) → AllByRecursion (λ x. p x ≡ q x) xs → filter p xs ≡ filter q xs
filter_agree_on p q [] all = refl
filter_agree_on p q (x ∷ xs) all =
    ap (λ (v : Bool). cond v (x ∷ filter p xs) (filter p xs)) all.0 ∙ ap (λ zs. cond (q x) (x ∷ zs) zs) (filter_agree_on p q xs all.1)

filter_none_on : (p : Rank → Bool) (xs : List Rank) → AllByRecursion (λ x. p x ≡ false) xs → filter p xs ≡ []
filter_none_on p [] all = refl
filter_none_on p (x ∷ xs) all = rw all.0 (filter_none_on p xs all.1)

covers_short : (number kind : ℕ) (x : Rank) → kind < 256 → x.kind ≡ kind → covers V4 number x ≡ (x.number == cleared number (32 - kind))
covers_short number kind x low is =
    ap (λ (k : ℕ). nat_lt k 256 && (x.number == cleared number (32 - k))) is ∙ ap (λ (v : Bool). v && (x.number == cleared number (32 - kind))) (let below : nat_lt kind 256 ≡ true = grind arith in below)

covers_long : (number kind : ℕ) (x : Rank) → 256 ≤ kind → x.kind ≡ kind → covers V6 number x ≡ (x.number == cleared number (384 - kind))
covers_long number kind x high is =
    ap (λ (k : ℕ). nat_le 256 k && (x.number == cleared number (384 - k))) is ∙ ap (λ (v : Bool). v && (x.number == cleared number (384 - kind))) (let above : nat_le 256 kind ≡ true = grind arith in above)

not_short : (number kind : ℕ) (x : Rank) → 256 ≤ kind → x.kind ≡ kind → covers V4 number x ≡ false
not_short number kind x high is =
    ap (λ (k : ℕ). nat_lt k 256 && (x.number == cleared number (32 - k))) is ∙ ap (λ (v : Bool). v && (x.number == cleared number (32 - kind))) (let above : nat_lt kind 256 ≡ false = grind arith in above)

not_long : (number kind : ℕ) (x : Rank) → kind < 256 → x.kind ≡ kind → covers V6 number x ≡ false
not_long number kind x low is =
    ap (λ (k : ℕ). nat_le 256 k && (x.number == cleared number (384 - k))) is ∙ ap (λ (v : Bool). v && (x.number == cleared number (384 - kind))) (let below : nat_le 256 kind ≡ false = grind arith in below)

pub short_covering : (number kind : ℕ) (xs : List Rank) → kind < 256 → OfKind kind xs → filter (λ (x : Rank). x.number == cleared number (32 - kind)) xs ≡ filter (covers V4 number) xs
short_covering number kind xs low of_kind =
    sym (filter_agree_on (covers V4 number) (λ (x : Rank). x.number == cleared number (32 - kind)) xs
    (each_weaker (λ (x : Rank). x.kind ≡ kind) (λ (x : Rank). covers V4 number x ≡ (x.number == cleared number (32 - kind))) (λ x is. covers_short number kind x low is) xs of_kind))

pub long_covering : (number kind : ℕ) (xs : List Rank) → 256 ≤ kind → OfKind kind xs → filter (λ (x : Rank). x.number == cleared number (384 - kind)) xs ≡ filter (covers V6 number) xs
long_covering number kind xs high of_kind =
    sym (filter_agree_on (covers V6 number) (λ (x : Rank). x.number == cleared number (384 - kind)) xs
    (each_weaker (λ (x : Rank). x.kind ≡ kind) (λ (x : Rank). covers V6 number x ≡ (x.number == cleared number (384 - kind))) (λ x is. covers_long number kind x high is) xs of_kind))

pub none_short : (number kind : ℕ) (xs : List Rank) → 256 ≤ kind → OfKind kind xs → filter (covers V4 number) xs ≡ []
none_short number kind xs high of_kind =
    filter_none_on (covers V4 number) xs (each_weaker (λ (x : Rank). x.kind ≡ kind) (λ (x : Rank). covers V4 number x ≡ false) (λ x is. not_short number kind x high is) xs of_kind)

pub none_long : (number kind : ℕ) (xs : List Rank) → kind < 256 → OfKind kind xs → filter (covers V6 number) xs ≡ []
none_long number kind xs low of_kind =
    filter_none_on (covers V6 number) xs (each_weaker (λ (x : Rank). x.kind ≡ kind) (λ (x : Rank). covers V6 number x ≡ false) (λ x is. not_long number kind x low is) xs of_kind)

-- ---- the prefix of a rank

block_times : (q b r n : ℕ) → n ≡ b * q + r → r ≡ 0 → n ≡ q * b
block_times q b r n is none = omega (arith, is, none)

div_of : (m b : ℕ) → 0 < b → m * b / b ≡ m
div_of m b some = ap (λ (x : ℕ). x / b) (sym (add-zero (m * b))) ∙ div-mul-add m b 0 some

same_multiple : (b m q n : ℕ) → 0 < b → n ≡ q * b → n ≡ m * b → m ≡ q
same_multiple b m q n some one other =
    sym (div_of m b some) ∙ ap (λ (x : ℕ). x / b) (sym other ∙ one) ∙ div_of q b some

same_block : (b number n : ℕ) → 0 < b → number % b ≡ 0 → (number == n / b * b) ≡ (n / b == number / b)
same_block b number n some none =
    let whole : number ≡ number / b * b = block_times (number / b) b (number % b) number (omega (arith, some)) none in
    elim (cases_eq (n / b) (number / b)) [
      | inl is ↦ eq-eqb number (n / b * b) (whole ∙ ap (λ (q : ℕ). q * b) (sym is)) ∙ sym (eq-eqb _ _ is)
      | inr differs ↦ ne_eqb number (n / b * b) (λ same. differs (same_multiple b (n / b) (number / b) number some whole same)) ∙ sym (ne_eqb _ _ differs)
    ]

length_below : (length : ℕ) → length ≤ 32 → nat_lt length 256 ≡ true
length_below length short = grind arith

kind_above : (length : ℕ) → nat_le 256 (256 + length) ≡ true
kind_above length = grind arith

not_above : (length : ℕ) → length ≤ 32 → nat_le 256 length ≡ false
not_above length short = grind arith

not_below : (length : ℕ) → nat_lt (256 + length) 256 ≡ false
not_below length = grind arith

bits_left : (length : ℕ) → 384 - (256 + length) ≡ 128 - length
bits_left length = omega arith

pub cover_by : (own family : Family) (length number n place slot : ℕ) → length ≤ width own → number % block_size own length ≡ 0
    → covers family n (rank_of (record { family = own; number = number; length = length }) place slot) ≡ holds (record { family = own; number = number; length = length }) family n
cover_by V4 V4 length number n place slot short none = rw (length_below length short) (same_block (2 ^ (32 - length)) number n (pow_pos (32 - length)) none)
cover_by V4 V6 length number n place slot short none = rw (not_above length short) refl
cover_by V6 V4 length number n place slot short none = rw (not_below length) refl
cover_by V6 V6 length number n place slot short none =
    rw (kind_above length) rw (bits_left length) (same_block (2 ^ (128 - length)) number n (pow_pos (128 - length)) none)
