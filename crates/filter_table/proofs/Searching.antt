-- Where a search among what falls comes to.
use Rattle.std.proofs.Common.{◌≡◌, ℕ, ◌+◌, ◌<◌, ◌≤◌, Bool, true, false, cond, nat_lt, nat_le, List, [], ◌∷◌, map, length, get_or, ◌-◌, ◌*◌, ◌/◌, zero, suc, refl, sym, ap, ◌∙◌, arith, one-add, subst, ltb-true, ltb-false}
use Rattle.std.specs.List.{prefix_len, AllByRecursion}
use Rattle.std.specs.List.Sorted.{IsPartitionedBy, IsPartitionPoint}
use Rattle.std.proofs.lemmas.List.Sums.{prefix_len_is}
use Rattle.filter_table.specs.declared.rank.Rank.{Rank}
use Rattle.filter_table.specs.Ranks.{is_before}
use Rattle.filter_table.specs.Numbers.{Falls}
use Rattle.filter_table.specs.Levels.{AreFrom, KindsRise}
use Rattle.filter_table.specs.RankLaws.{AreRanked}
use Rattle.filter_table.proofs.Each.{each_weaker, each_map, each_at}
use Rattle.filter_table.proofs.Ranked.{not_between}

true_front : (n : ℕ) → true ≡ nat_lt 0 (1 + n)
true_front n = grind arith

one_later : (i n : ℕ) → nat_lt i n ≡ nat_lt (suc i) (1 + n)
one_later i n = grind arith

none_below : (i : ℕ) → false ≡ nat_lt (suc i) 0
none_below i = grind arith

-- what the test says of each
pub test_at : {A : Type 0} → (p : A → Bool) (xs : List A) (i : ℕ) (d : A) → Falls p xs → i < length xs → p (get_or xs i d) ≡ nat_lt i (prefix_len p xs)
test_at p [] i d falls within = absurd (omega arith)
test_at p (x ∷ xs) zero d falls within =
    elim (p x) as (λ v. v ≡ nat_lt 0 (cond v (1 + prefix_len p xs) 0)) [ true ↦ true_front (prefix_len p xs) | false ↦ refl ]
test_at p (x ∷ xs) (suc i) d falls within =
    elim (p x) as (λ v. p x ≡ v → p (get_or xs i d) ≡ nat_lt (suc i) (cond v (1 + prefix_len p xs) 0)) [
      | true ↦ λ is. test_at p xs i d falls.1 (omega arith) ∙ one_later i (prefix_len p xs)
      | false ↦ λ is. each_at (λ later. p later ≡ false) xs i d (falls.0 is) (omega arith) ∙ none_below i
    ] refl

not_later : (i j n : ℕ) → i ≤ j → nat_lt j n ≡ true → nat_lt i n ≡ true
not_later i j n less is = grind arith

pub falls_partitioned : {A : Type 0} → (p : A → Bool) (xs : List A) → Falls p xs → IsPartitionedBy p xs
falls_partitioned p xs falls = λ i j d before within passes.
    test_at p xs i d falls (omega (arith, before, within)) ∙ not_later i j (prefix_len p xs) before (sym (test_at p xs j d falls within) ∙ passes)

pub searched : {A : Type 0} → (p : A → Bool) (xs : List A) (i : ℕ) → i ≤ length xs → IsPartitionPoint (λ y. p y ≡ true) (λ y. p y ≡ false) xs i → i ≡ prefix_len p xs
searched p [] i within point = omega (arith, within)
searched p (x ∷ xs) i within point =
    sym (prefix_len_is p (x ∷ xs) i x within (λ k less. point.0 k x (omega arith) less) (λ less. point.1 i x (omega arith) less))

pub falls_map : {A B : Type 0} → (p : B → Bool) (f : A → B) (xs : List A) → Falls (λ x. p (f x)) xs → Falls p (map f xs)
falls_map p f [] falls = tt
falls_map p f (x ∷ xs) falls = (λ fails. each_map (λ later. p later ≡ false) f xs (falls.0 fails), falls_map p f xs falls.1)

-- ---- what falls

pub before_falls : (rank : Rank) (xs : List Rank) → AreRanked xs → Falls (λ other. is_before other rank) xs
before_falls rank [] order = tt
before_falls rank (x ∷ xs) order = (
  λ fails. each_weaker (λ later. is_before later x ≡ false) (λ later. is_before later rank ≡ false) (λ later no. not_between rank x later no fails) xs order.0,
  before_falls rank xs order.1,
)

not_below : (kind low high : ℕ) → nat_lt low kind ≡ false → low ≤ high → nat_lt high kind ≡ false
not_below kind low high fails more = grind arith

not_up_to : (kind low high : ℕ) → nat_le low kind ≡ false → low ≤ high → nat_le high kind ≡ false
not_up_to kind low high fails more = grind arith

each_from : (P : ℕ → Type 0) (low : ℕ) → ((high : ℕ) → low ≤ high → P high) → (xs : List Rank) → AreFrom low xs → AllByRecursion (λ (rank : Rank). P rank.kind) xs
each_from P low step [] from = tt
each_from P low step (x ∷ xs) from = (step x.kind from.0, each_from P low step xs from.1)

pub kinds_below_fall : (kind : ℕ) (xs : List Rank) → KindsRise xs → Falls (λ (rank : Rank). nat_lt rank.kind kind) xs
kinds_below_fall kind [] rise = tt
kinds_below_fall kind (x ∷ xs) rise =
    (λ fails. each_from (λ (high : ℕ). nat_lt high kind ≡ false) x.kind (λ high more. not_below kind x.kind high fails more) xs rise.0, kinds_below_fall kind xs rise.1)

pub kinds_up_to_fall : (kind : ℕ) (xs : List Rank) → KindsRise xs → Falls (λ (rank : Rank). nat_le rank.kind kind) xs
kinds_up_to_fall kind [] rise = tt
kinds_up_to_fall kind (x ∷ xs) rise =
    (λ fails. each_from (λ (high : ℕ). nat_le high kind ≡ false) x.kind (λ high more. not_up_to kind x.kind high fails more) xs rise.0, kinds_up_to_fall kind xs rise.1)

-- ---- halving what is left

pub record IsHalved (base half size place len less : ℕ) : Type 0 where
  pub fits : half * less ≤ half
  pub left : 1 ≤ size - half
  pub within : base + half * less + (size - half) ≤ len
  pub from : base + half * less ≤ place
  pub to : place ≤ base + half * less + (size - half)

halved_by : (v : Bool) (base half size place len : ℕ) → nat_lt (base + half) place ≡ v → half ≡ size / 2 → 1 < size → base + size ≤ len → base ≤ place → place ≤ base + size
    → IsHalved base half size place len (cond v 1 0)
halved_by true base half size place len is halves many within from to =
    let less : base + half < place = ltb-true _ _ is in
    record { fits = omega arith; left = omega arith; within = omega arith; from = omega arith; to = omega arith }
halved_by false base half size place len is halves many within from to =
    let more : place ≤ base + half = ltb-false _ _ is in
    record { fits = omega arith; left = omega arith; within = omega arith; from = omega arith; to = omega arith }

pub halved : (bound base half size less len : ℕ) (numbers : List ℕ) → Falls (λ n. nat_lt n bound) numbers → half ≡ size / 2 → 1 < size → base + size ≤ len → len ≡ length numbers
    → base ≤ prefix_len (λ n. nat_lt n bound) numbers → prefix_len (λ n. nat_lt n bound) numbers ≤ base + size
    → less ≡ cond (nat_lt (get_or numbers (base + half) 0) bound) 1 0
    → IsHalved base half size (prefix_len (λ n. nat_lt n bound) numbers) len less
halved bound base half size less len numbers falls halves many within all from to is =
    let place = prefix_len (λ n. nat_lt n bound) numbers in
    let same : less ≡ cond (nat_lt (base + half) place) 1 0 =
    is ∙ ap (λ (v : Bool). cond v 1 0) (test_at (λ n. nat_lt n bound) numbers (base + half) 0 falls (omega (arith, halves, many, within, all))) in
    subst (λ (n : ℕ). IsHalved base half size place len n) (sym same) (halved_by (nat_lt (base + half) place) base half size place len refl halves many within from to)

last_by : (v : Bool) (base place : ℕ) → nat_lt base place ≡ v → base ≤ place → place ≤ base + 1 → base + cond v 1 0 ≡ place
last_by true base place is from to = let less : base < place = ltb-true _ _ is in omega arith
last_by false base place is from to = let more : place ≤ base = ltb-false _ _ is in omega arith

pub last_one : (bound base size less : ℕ) (numbers : List ℕ) → Falls (λ n. nat_lt n bound) numbers → size ≤ 1 → base < length numbers
    → base ≤ prefix_len (λ n. nat_lt n bound) numbers → prefix_len (λ n. nat_lt n bound) numbers ≤ base + size
    → less ≡ cond (nat_lt (get_or numbers base 0) bound) 1 0
    → base + less ≡ prefix_len (λ n. nat_lt n bound) numbers
last_one bound base size less numbers falls few within from to is =
    let place = prefix_len (λ n. nat_lt n bound) numbers in
    let same : less ≡ cond (nat_lt base place) 1 0 = is ∙ ap (λ (v : Bool). cond v 1 0) (test_at (λ n. nat_lt n bound) numbers base 0 falls within) in
    ap (λ (n : ℕ). base + n) same ∙ last_by (nat_lt base place) base place refl from (omega (arith, to, few))
