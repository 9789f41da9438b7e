-- The ranks of one level, and those of one number among them.
use Rattle.std.proofs.Common.{◌≡◌, ℕ, ◌+◌, ◌<◌, ◌≤◌, ◌^◌, ◌%◌, Bool, true, false, cond, ◌==◌, nat_lt, List, [], ◌∷◌, map, filter, length, take, drop, refl, sym, ap, ◌∙◌, arith, one-add, add-one, subst, inl, inr}
use Rattle.std.specs.List.{prefix_len, AllByRecursion}
use Rattle.std.proofs.lemmas.Bool.{cases_eq, ne_eqb, eq-eqb, eqb-true}
use Rattle.std.proofs.lemmas.List.{drop-map}
use Rattle.filter_table.specs.declared.rank.Rank.{Rank}
use Rattle.filter_table.specs.declared.level.Level.{Level}
use Rattle.filter_table.specs.Ranks.{is_before, slot_of, is_of_kind}
use Rattle.filter_table.specs.Numbers.{low_of, number_of, Falls}
use Rattle.filter_table.specs.Levels.{joined, levels_of}
use Rattle.filter_table.specs.RankLaws.{AreRanked}
use Rattle.filter_table.specs.Covers.{IsShort}
use Rattle.filter_table.proofs.Each.{each_weaker, each_both}
use Rattle.filter_table.proofs.Ranked.{map_part}

-- ---- the first level

abbrev pub OfKind : ℕ → List Rank → Type 0
OfKind kind xs = AllByRecursion (λ (rank : Rank). rank.kind ≡ kind) xs

pub record FirstLevel (l : Level) (ls : List Level) (xs : List Rank) : Type 0 where
  pub within : l.len ≤ length xs
  pub of_kind : OfKind l.kind (take l.len xs)
  pub later : levels_of (drop l.len xs) ≡ ls

abbrev level : ℕ → ℕ → Level
level kind len = record { kind = kind; len = len }

one_level : (x : Rank) (xs : List Rank) (ms : List Level) → levels_of xs ≡ ms → FirstLevel (level x.kind 1) ms (x ∷ xs)
one_level x xs ms are = record { within = omega arith; of_kind = (refl, tt); later = are }

longer_level : (x : Rank) (xs : List Rank) (m : Level) (ms : List Level) → m.kind ≡ x.kind → FirstLevel m ms xs → FirstLevel (level m.kind (m.len + 1)) ms (x ∷ xs)
longer_level x xs m ms same first = record {
  within = omega (arith, first.within);
  of_kind = rw (add-one m.len) (sym same, first.of_kind);
  later = rw (add-one m.len) first.later;
}

same_level : (l m : Level) (ls ms : List Level) (xs : List Rank) → m ∷ ms ≡ l ∷ ls → FirstLevel m ms xs → FirstLevel l ls xs
same_level l m ls ms xs is first =
    let one : m ≡ l = cc in
    let rest : ms ≡ ls = cc in
    subst (λ (k : Level). FirstLevel k ls xs) one (subst (λ (ks : List Level). FirstLevel m ks xs) rest first)

first_joined : (x : Rank) (xs : List Rank) (ms : List Level) → levels_of xs ≡ ms → ((m : Level) (rest : List Level) → ms ≡ m ∷ rest → FirstLevel m rest xs)
    → (l : Level) (ls : List Level) → joined x.kind ms ≡ l ∷ ls → FirstLevel l ls (x ∷ xs)
first_joined x xs [] are known l ls is = same_level l (level x.kind 1) ls [] (x ∷ xs) is (one_level x xs [] are)
first_joined x xs (m ∷ ms) are known l ls is =
    elim (m.kind == x.kind) as (λ v. m.kind == x.kind ≡ v → cond v (level m.kind (m.len + 1) ∷ ms) (level x.kind 1 ∷ m ∷ ms) ≡ l ∷ ls → FirstLevel l ls (x ∷ xs)) [
      | true ↦ λ same is. same_level l (level m.kind (m.len + 1)) ls ms (x ∷ xs) is (longer_level x xs m ms (eqb-true _ _ same) (known m ms refl))
      | false ↦ λ differs is. same_level l (level x.kind 1) ls (m ∷ ms) (x ∷ xs) is (one_level x xs (m ∷ ms) are)
    ] refl is

pub first_level : (xs : List Rank) (l : Level) (ls : List Level) → levels_of xs ≡ l ∷ ls → FirstLevel l ls xs
first_level [] l ls is = absurd (cc)
first_level (x ∷ xs) l ls is = first_joined x xs (levels_of xs) refl (first_level xs) l ls is

-- ---- numbers in order

abbrev pub NumbersRise : List Rank → Type 0
NumbersRise [] = Unit {0}
NumbersRise (x ∷ xs) = AllByRecursion (λ (later : Rank). x.number ≤ later.number) xs × NumbersRise xs

number_rises : (x y : Rank) → is_before y x ≡ false → y.kind ≡ x.kind → x.number ≤ y.number
number_rises x y behind same = grind arith

pub numbers_rise : (kind : ℕ) (xs : List Rank) → AreRanked xs → OfKind kind xs → NumbersRise xs
numbers_rise kind [] order of_kind = tt
numbers_rise kind (x ∷ xs) order of_kind = (
  each_both (λ later. is_before later x ≡ false) (λ (later : Rank). later.kind ≡ kind) (λ (later : Rank). x.number ≤ later.number)
      (λ later no is. number_rises x later no (is ∙ sym of_kind.0)) xs order.0 of_kind.1,
  numbers_rise kind xs order.1 of_kind.1,
)

each_filtered : (P : Rank → Type 0) (p : Rank → Bool) (xs : List Rank) → AllByRecursion P xs → AllByRecursion P (filter p xs)
each_filtered P p [] all = all
each_filtered P p (x ∷ xs) all =
    elim (p x) as (λ v. AllByRecursion P (cond v (x ∷ filter p xs) (filter p xs))) [ true ↦ (all.0, each_filtered P p xs all.1) | false ↦ each_filtered P p xs all.1 ]

pub filtered_in_order : (p : Rank → Bool) (xs : List Rank) → AreRanked xs → AreRanked (filter p xs)
filtered_in_order p [] order = order
filtered_in_order p (x ∷ xs) order =
    elim (p x) as (λ v. AreRanked (cond v (x ∷ filter p xs) (filter p xs))) [
      | true ↦ (each_filtered (λ later. is_before later x ≡ false) p xs order.0, filtered_in_order p xs order.1)
      | false ↦ filtered_in_order p xs order.1
    ]

filtered_of_kind : (kind : ℕ) (xs : List Rank) → OfKind kind (filter (is_of_kind kind) xs)
filtered_of_kind kind [] = tt
filtered_of_kind kind (x ∷ xs) =
    elim (x.kind == kind) as (λ v. x.kind == kind ≡ v → OfKind kind (cond v (x ∷ filter (is_of_kind kind) xs) (filter (is_of_kind kind) xs))) [
      | true ↦ λ is. (eqb-true _ _ is, filtered_of_kind kind xs)
      | false ↦ λ is. filtered_of_kind kind xs
    ] refl

-- the ranks of one kind among all are in order of their numbers
pub numbers_of_kind : (kind : ℕ) (xs : List Rank) → AreRanked xs → NumbersRise (filter (is_of_kind kind) xs)
numbers_of_kind kind xs order = numbers_rise kind (filter (is_of_kind kind) xs) (filtered_in_order (is_of_kind kind) xs order) (filtered_of_kind kind xs)

still_not_below : (bound low high : ℕ) → nat_lt low bound ≡ false → low ≤ high → nat_lt high bound ≡ false
still_not_below bound low high fails more = grind arith

pub numbers_fall : (bound : ℕ) (xs : List Rank) → NumbersRise xs → Falls (λ (rank : Rank). nat_lt rank.number bound) xs
numbers_fall bound [] rise = tt
numbers_fall bound (x ∷ xs) rise = (
  λ fails. each_weaker (λ (later : Rank). x.number ≤ later.number) (λ (later : Rank). nat_lt later.number bound ≡ false)
      (λ later more. still_not_below bound x.number later.number fails more) xs rise.0,
  numbers_fall bound xs rise.1,
)

-- ---- those of one number

abbrev equals : ℕ → Rank → Bool
equals w rank = rank.number == w

abbrev equal_at : ℕ → List Rank → ℕ
equal_at w xs = prefix_len (equals w) xs

none_equal : (w low : ℕ) (xs : List Rank) → w < low → AllByRecursion (λ (rank : Rank). low ≤ rank.number) xs → filter (equals w) xs ≡ []
none_equal w low [] less all = refl
none_equal w low (x ∷ xs) less all = grind (arith, all.0, none_equal w low xs less all.1)

front_same : (w : ℕ) (x : Rank) (xs : List Rank) (v : Bool) → equals w x ≡ v → v ≡ true → filter (equals w) xs ≡ take (equal_at w xs) xs
    → filter (equals w) (x ∷ xs) ≡ take (equal_at w (x ∷ xs)) (x ∷ xs)
front_same w x xs v is passes same = rw (is ∙ passes) rw one-add (ap (λ zs. x ∷ zs) same)

front_differs : (w : ℕ) (x : Rank) (xs : List Rank) → equals w x ≡ false → filter (equals w) xs ≡ []
    → filter (equals w) (x ∷ xs) ≡ take (equal_at w (x ∷ xs)) (x ∷ xs)
front_differs w x xs fails none = rw fails none

equal_front : (w : ℕ) (xs : List Rank) → AllByRecursion (λ (rank : Rank). w ≤ rank.number) xs → NumbersRise xs
    → filter (equals w) xs ≡ take (equal_at w xs) xs
equal_front w [] all rise = refl
equal_front w (x ∷ xs) all rise =
    elim (cases_eq x.number w) [
      | inl is ↦ front_same w x xs true (eq-eqb _ _ is) refl (equal_front w xs all.1 rise.1)
      | inr differs ↦ let more : w ≤ x.number = all.0 in front_differs w x xs (ne_eqb _ _ differs) (none_equal w x.number xs (omega (arith, more, differs)) rise.0)
    ]

below_differs : (w n : ℕ) → nat_lt n w ≡ true → n == w ≡ false
below_differs w n is = grind arith

not_below_is : (w n : ℕ) → nat_lt n w ≡ false → w ≤ n
not_below_is w n is = grind arith

abbrev pub start : ℕ → List Rank → ℕ
start w xs = prefix_len (λ (rank : Rank). nat_lt rank.number w) xs

pub run_is : (w : ℕ) (xs : List Rank) → NumbersRise xs → filter (λ (rank : Rank). rank.number == w) xs ≡ take (equal_at w (drop (start w xs) xs)) (drop (start w xs) xs)
run_is w [] rise = refl
run_is w (x ∷ xs) rise =
    elim (nat_lt x.number w) as (λ v. nat_lt x.number w ≡ v
    → filter (equals w) (x ∷ xs) ≡ take (equal_at w (drop (cond v (1 + start w xs) 0) (x ∷ xs))) (drop (cond v (1 + start w xs) 0) (x ∷ xs))) [
      | true ↦ λ is. rw one-add rw (below_differs w x.number is) (run_is w xs rise.1)
      | false ↦ λ no.
          let more : w ≤ x.number = not_below_is w x.number no in
          equal_front w (x ∷ xs)
          (more, each_weaker (λ (later : Rank). x.number ≤ later.number) (λ (later : Rank). w ≤ later.number) (λ later higher. omega (arith, more, higher)) xs rise.0) rise
    ] refl

-- the slots of a number, as a search over the ranks finds them
pub slots_run : (w : ℕ) (ranks : List Rank) (slots : List ℕ) → NumbersRise ranks → slots ≡ map slot_of ranks
    → take (prefix_len (λ (rank : Rank). rank.number == w) (drop (start w ranks) ranks)) (drop (start w ranks) slots) ≡ map slot_of (filter (λ (rank : Rank). rank.number == w) ranks)
slots_run w ranks slots rise beside =
    ap (λ ss. take (equal_at w (drop (start w ranks) ranks)) (drop (start w ranks) ss)) beside
    ∙ map_part ranks (start w ranks) (equal_at w (drop (start w ranks) ranks))
    ∙ ap (map slot_of) (sym (run_is w ranks rise))

prefix_map : {A B : Type 0} → (p : B → Bool) (f : A → B) (xs : List A) → prefix_len p (map f xs) ≡ prefix_len (λ x. p (f x)) xs
prefix_map p f [] = refl
prefix_map p f (x ∷ xs) = ap (λ (n : ℕ). cond (p (f x)) (1 + n) 0) (prefix_map p f xs)

-- and as a search over their numbers alone does
pub slots_run_short : (w : ℕ) (ranks : List Rank) (numbers slots : List ℕ) → NumbersRise ranks → numbers ≡ map number_of ranks → slots ≡ map slot_of ranks
    → take (prefix_len (λ n. n == w) (drop (prefix_len (λ n. nat_lt n w) numbers) numbers)) (drop (prefix_len (λ n. nat_lt n w) numbers) slots)
    ≡ map slot_of (filter (λ (rank : Rank). rank.number == w) ranks)
slots_run_short w ranks numbers slots rise are beside =
    let at : prefix_len (λ n. nat_lt n w) numbers ≡ start w ranks = ap (prefix_len (λ n. nat_lt n w)) are ∙ prefix_map (λ n. nat_lt n w) number_of ranks in
    let len : prefix_len (λ n. n == w) (drop (start w ranks) numbers) ≡ equal_at w (drop (start w ranks) ranks) =
    ap (λ ns. prefix_len (λ n. n == w) (drop (start w ranks) ns)) are ∙ ap (prefix_len (λ n. n == w)) (drop-map number_of (start w ranks) ranks)
    ∙ prefix_map (λ n. n == w) number_of (drop (start w ranks) ranks) in
    ap (λ (i : ℕ). take (prefix_len (λ n. n == w) (drop i numbers)) (drop i slots)) at
    ∙ ap (λ (n : ℕ). take n (drop (start w ranks) slots)) len
    ∙ slots_run w ranks slots rise beside

-- ---- short numbers

low_same : (n : ℕ) → n < 2 ^ 32 → n % 2 ^ 64 ≡ n
low_same n short = omega arith

pub short_numbers : (kind : ℕ) (xs : List Rank) → kind < 256 → OfKind kind xs → AllByRecursion IsShort xs → map low_of xs ≡ map number_of xs
short_numbers kind [] low of_kind short = refl
short_numbers kind (x ∷ xs) low of_kind short =
    let kind_low : x.kind < 256 = omega (arith, low, of_kind.0) in
    ap (λ (n : ℕ). n ∷ map low_of xs) (low_same x.number (short.0 kind_low)) ∙ ap (λ ns. x.number ∷ ns) (short_numbers kind xs low of_kind.1 short.1)

pub small_numbers : (kind : ℕ) (xs : List Rank) → kind < 256 → OfKind kind xs → AllByRecursion IsShort xs → AllByRecursion (λ n. n < 2 ^ 63) (map number_of xs)
small_numbers kind [] low of_kind short = tt
small_numbers kind (x ∷ xs) low of_kind short =
    let kind_low : x.kind < 256 = omega (arith, low, of_kind.0) in
    let small : x.number < 2 ^ 32 = short.0 kind_low in
    (omega (arith, small), small_numbers kind xs low of_kind.1 short.1)
