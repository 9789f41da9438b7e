-- How many ranks there are of each kind, once there is one more or one less.
use Rattle.std.proofs.Common.{◌≡◌, ℕ, ◌+◌, ◌-◌, ◌<◌, ◌≤◌, Bool, true, false, cond, ◌==◌, nat_lt, nat_le, List, [], ◌∷◌, length, get_or, set, take, drop, zero, suc, refl, sym, ap, ◌∙◌, arith, one-add, inl, inr}
use Rattle.std.specs.List.{insert, remove, prefix_len, AllByRecursion}
use Rattle.std.proofs.lemmas.Bool.{cases_eq, ne_eqb, eq-eqb}
use Rattle.filter_table.specs.declared.rank.Rank.{Rank}
use Rattle.filter_table.specs.declared.level.Level.{Level}
use Rattle.filter_table.specs.Ranks.{is_before, place_of, with_rank}
use Rattle.filter_table.specs.Levels.{joined, levels_of, one_more, without_one, one_less, AreFrom, KindsRise}
use Rattle.filter_table.specs.RankLaws.{AreRanked}
use Rattle.filter_table.proofs.Each.{each_weaker}
use Rattle.filter_table.proofs.Ranked.{not_before_kind, kinds_rise}

abbrev level : ℕ → ℕ → Level
level kind len = record { kind = kind; len = len }

-- ---- a rank joined in front of those behind it

abbrev HeadFrom : ℕ → List Level → Type 0
HeadFrom kind [] = Unit {0}
HeadFrom kind (l ∷ ls) = kind ≤ l.kind

joined_head : (low kind : ℕ) (ls : List Level) → low ≤ kind → HeadFrom low (joined kind ls)
joined_head low kind [] less = less
joined_head low kind (l ∷ ls) less =
    elim (cases_eq l.kind kind) [
      | inl is ↦ rw (eq-eqb _ _ is) (omega (arith, is, less))
      | inr differs ↦ rw (ne_eqb _ _ differs) less
    ]

head_from : (low : ℕ) (ranks : List Rank) → AreFrom low ranks → HeadFrom low (levels_of ranks)
head_from low [] from = tt
head_from low (x ∷ xs) from = joined_head low x.kind (levels_of xs) from.0

joined_same : (kind : ℕ) (l : Level) (ls : List Level) → l.kind ≡ kind → joined kind (l ∷ ls) ≡ level l.kind (l.len + 1) ∷ ls
joined_same kind l ls is = rw (eq-eqb _ _ is) refl

joined_new : (kind : ℕ) (l : Level) (ls : List Level) → (l.kind ≡ kind → ⊥) → joined kind (l ∷ ls) ≡ level kind 1 ∷ l ∷ ls
joined_new kind l ls differs = rw (ne_eqb _ _ differs) refl

more_later : (kind : ℕ) (l : Level) (ls : List Level) → nat_lt l.kind kind ≡ true → one_more kind (l ∷ ls) ≡ l ∷ one_more kind ls
more_later kind l ls less = rw less refl

more_here : (kind : ℕ) (l : Level) (ls : List Level) → nat_lt l.kind kind ≡ false → one_more kind (l ∷ ls) ≡ joined kind (l ∷ ls)
more_here kind l ls more = rw more refl

less_is : (a b : ℕ) → a < b → nat_lt a b ≡ true
less_is a b less = grind arith

more_is : (a b : ℕ) → b ≤ a → nat_lt a b ≡ false
more_is a b more = grind arith

-- one more of a kind not below the first of those joined
more_joined : (kind high : ℕ) (ls : List Level) → kind ≤ high → one_more kind (joined high ls) ≡ joined kind (joined high ls)
more_joined kind high [] less = more_here kind (level high 1) [] (more_is high kind less)
more_joined kind high (l ∷ ls) less =
    elim (cases_eq l.kind high) [
      | inl is ↦ rw (joined_same high l ls is) (more_here kind (level l.kind (l.len + 1)) ls (more_is l.kind kind (omega (arith, is, less))))
      | inr differs ↦ rw (joined_new high l ls differs) (more_here kind (level high 1) (l ∷ ls) (more_is high kind less))
    ]

join_same_kind : (kind : ℕ) (ls : List Level) → HeadFrom kind ls → joined kind (one_more kind ls) ≡ one_more kind (joined kind ls)
join_same_kind kind [] from = sym (more_here kind (level kind 1) [] (more_is kind kind (omega arith)))
join_same_kind kind (l ∷ ls) from =
    ap (joined kind) (more_here kind l ls (more_is l.kind kind from)) ∙ sym (more_joined kind kind (l ∷ ls) (omega arith))

differs_below : (a b : ℕ) → a < b → a ≡ b → ⊥
differs_below a b less same = absurd (omega (arith, less, same))

-- what comes in front where the first kind differs, and one more comes behind it or with it
joins_in_front : (kind high : ℕ) (l : Level) (ls : List Level) → kind < high → (l.kind ≡ kind → ⊥) → joined kind (one_more high (l ∷ ls)) ≡ level kind 1 ∷ one_more high (l ∷ ls)
joins_in_front kind high l ls less differs =
    elim (nat_lt l.kind high) as (λ v. nat_lt l.kind high ≡ v → joined kind (cond v (l ∷ one_more high ls) (joined high (l ∷ ls))) ≡ level kind 1 ∷ cond v (l ∷ one_more high ls) (joined high (l ∷ ls))) [
      | true ↦ λ is. joined_new kind l (one_more high ls) differs
      | false ↦ λ is.
          elim (cases_eq l.kind high) [
            | inl same ↦ rw (joined_same high l ls same) (joined_new kind (level l.kind (l.len + 1)) ls differs)
            | inr other ↦ rw (joined_new high l ls other) (joined_new kind (level high 1) (l ∷ ls) (λ same. differs_below kind high less (sym same)))
          ]
    ] refl

join_lower : (kind high : ℕ) (ls : List Level) → kind < high → HeadFrom kind ls → joined kind (one_more high ls) ≡ one_more high (joined kind ls)
join_lower kind high [] less from =
    joined_new kind (level high 1) [] (λ same. differs_below kind high less (sym same)) ∙ sym (more_later high (level kind 1) [] (less_is kind high less))
join_lower kind high (l ∷ ls) less from =
    elim (cases_eq l.kind kind) [
      | inl is ↦
          ap (joined kind) (more_later high l ls (less_is l.kind high (omega (arith, is, less))))
          ∙ joined_same kind l (one_more high ls) is
          ∙ sym (ap (one_more high) (joined_same kind l ls is) ∙ more_later high (level l.kind (l.len + 1)) ls (less_is l.kind high (omega (arith, is, less))))
      | inr differs ↦
          joins_in_front kind high l ls less differs
          ∙ sym (ap (one_more high) (joined_new kind l ls differs) ∙ more_later high (level kind 1) (l ∷ ls) (less_is kind high less))
    ]

join_more : (kind high : ℕ) (ls : List Level) → kind ≤ high → HeadFrom kind ls → joined kind (one_more high ls) ≡ one_more high (joined kind ls)
join_more kind high ls less from =
    elim (cases_eq kind high) [
      | inl is ↦ ap (λ (n : ℕ). joined kind (one_more n ls)) (sym is) ∙ join_same_kind kind ls from ∙ ap (λ (n : ℕ). one_more n (joined kind ls)) is
      | inr differs ↦ join_lower kind high ls (omega (arith, less, differs)) from
    ]

before_kind : (a b : Rank) → is_before a b ≡ true → a.kind ≤ b.kind
before_kind a b is = grind arith

pub levels_with : (r : Rank) (xs : List Rank) → KindsRise xs → levels_of (with_rank r xs) ≡ one_more r.kind (levels_of xs)
levels_with r [] rise = refl
levels_with r (y ∷ xs) rise =
    elim (is_before y r) as (λ v. is_before y r ≡ v → levels_of (insert (y ∷ xs) (cond v (1 + place_of r xs) 0) r) ≡ one_more r.kind (levels_of (y ∷ xs))) [
      | true ↦ λ is. rw one-add (ap (joined y.kind) (levels_with r xs rise.1) ∙ join_more y.kind r.kind (levels_of xs) (before_kind y r is) (head_from y.kind xs rise.0))
      | false ↦ λ is. sym (more_joined r.kind y.kind (levels_of xs) (not_before_kind y r is))
    ] refl

-- ---- one less

abbrev AreFilled : List Level → Type 0
AreFilled ls = AllByRecursion (λ (l : Level). 1 ≤ l.len) ls

joined_filled : (kind : ℕ) (ls : List Level) → AreFilled ls → AreFilled (joined kind ls)
joined_filled kind [] filled = (omega arith, tt)
joined_filled kind (l ∷ ls) filled =
    elim (l.kind == kind) as (λ v. AreFilled (cond v (level l.kind (l.len + 1) ∷ ls) (level kind 1 ∷ l ∷ ls))) [
      | true ↦ (omega arith, filled.1)
      | false ↦ (omega arith, filled)
    ]

pub are_filled : (xs : List Rank) → AreFilled (levels_of xs)
are_filled [] = tt
are_filled (x ∷ xs) = joined_filled x.kind (levels_of xs) (are_filled xs)

above_one : (n : ℕ) → 1 ≤ n → nat_le (n + 1) 1 ≡ false
above_one n filled = grind arith

back_one : (n : ℕ) → n + 1 - 1 ≡ n
back_one n = omega arith

less_here : (kind : ℕ) (l : Level) (ls : List Level) → nat_lt l.kind kind ≡ false → one_less kind (l ∷ ls) ≡ without_one l ls
less_here kind l ls more = rw more refl

less_more : (kind : ℕ) (ls : List Level) → AreFilled ls → one_less kind (one_more kind ls) ≡ ls
less_more kind [] filled = less_here kind (level kind 1) [] (more_is kind kind (omega arith))
less_more kind (l ∷ ls) filled =
    elim (nat_lt l.kind kind) as (λ v. nat_lt l.kind kind ≡ v → one_less kind (cond v (l ∷ one_more kind ls) (joined kind (l ∷ ls))) ≡ l ∷ ls) [
      | true ↦ λ is. rw is (ap (λ zs. l ∷ zs) (less_more kind ls filled.1))
      | false ↦ λ is.
          elim (cases_eq l.kind kind) [
            | inl same ↦
                ap (one_less kind) (joined_same kind l ls same) ∙ less_here kind (level l.kind (l.len + 1)) ls is
                ∙ (rw (above_one l.len filled.0) rw (back_one l.len) refl)
            | inr other ↦ ap (one_less kind) (joined_new kind l ls other) ∙ less_here kind (level kind 1) (l ∷ ls) (more_is kind kind (omega arith))
          ]
    ] refl

pub levels_without : (r : Rank) (xs others : List Rank) → xs ≡ with_rank r others → KindsRise others → levels_of others ≡ one_less r.kind (levels_of xs)
levels_without r xs others split rise =
    sym (less_more r.kind (levels_of others) (are_filled others))
    ∙ ap (one_less r.kind) (sym (levels_with r others rise) ∙ ap levels_of (sym split))

-- ---- as the code does it, at the first level that isn't lower

abbrev pub below : ℕ → List Level → ℕ
below kind ls = prefix_len (λ (l : Level). nat_lt l.kind kind) ls

pub more_with : (kind : ℕ) (ls : List Level) (l : Level) → below kind ls < length ls → l ≡ get_or ls (below kind ls) l → l.kind ≡ kind
    → set ls (below kind ls) (level l.kind (l.len + 1)) ≡ one_more kind ls
more_with kind [] l within is same = absurd (omega (arith, within))
more_with kind (m ∷ ls) l within is same =
    elim (nat_lt m.kind kind) as (λ v. nat_lt m.kind kind ≡ v → cond v (1 + below kind ls) 0 < length (m ∷ ls) → l ≡ get_or (m ∷ ls) (cond v (1 + below kind ls) 0) l
    → set (m ∷ ls) (cond v (1 + below kind ls) 0) (level l.kind (l.len + 1)) ≡ cond v (m ∷ one_more kind ls) (joined kind (m ∷ ls))) [
      | true ↦ λ less within is.
          let found : l ≡ get_or ls (below kind ls) l = is ∙ ap (λ (n : ℕ). get_or (m ∷ ls) n l) (one-add (below kind ls)) in
          rw one-add (ap (λ zs. m ∷ zs) (more_with kind ls l (omega (arith, within)) found same))
      | false ↦ λ more within is.
          ap (λ (k : Level). level k.kind (k.len + 1) ∷ ls) is ∙ sym (joined_same kind m ls (ap (λ (k : Level). k.kind) (sym is) ∙ same))
    ] refl within is

pub more_between : (kind : ℕ) (ls : List Level) → (below kind ls < length ls → (l : Level) → l ≡ get_or ls (below kind ls) l → l.kind ≡ kind → ⊥)
    → insert ls (below kind ls) (level kind 1) ≡ one_more kind ls
more_between kind [] none = refl
more_between kind (m ∷ ls) none =
    elim (nat_lt m.kind kind) as (λ v. nat_lt m.kind kind ≡ v
    → (cond v (1 + below kind ls) 0 < length (m ∷ ls) → (l : Level) → l ≡ get_or (m ∷ ls) (cond v (1 + below kind ls) 0) l → l.kind ≡ kind → ⊥)
    → insert (m ∷ ls) (cond v (1 + below kind ls) 0) (level kind 1) ≡ cond v (m ∷ one_more kind ls) (joined kind (m ∷ ls))) [
      | true ↦ λ less none.
          rw one-add (ap (λ zs. m ∷ zs) (more_between kind ls (λ within l is. none (omega (arith, within)) l (is ∙ ap (λ (n : ℕ). get_or (m ∷ ls) n l) (sym (one-add (below kind ls)))))))
      | false ↦ λ more none. sym (joined_new kind m ls (λ same. none (omega arith) m refl same))
    ] refl none

not_one : (n : ℕ) → 1 < n → nat_le n 1 ≡ false
not_one n many = grind arith

is_one : (n : ℕ) → n ≤ 1 → nat_le n 1 ≡ true
is_one n few = grind arith

pub less_within : (kind : ℕ) (ls : List Level) (l : Level) → below kind ls < length ls → l ≡ get_or ls (below kind ls) l → 1 < l.len
    → set ls (below kind ls) (level l.kind (l.len - 1)) ≡ one_less kind ls
less_within kind [] l within is more = absurd (omega (arith, within))
less_within kind (m ∷ ls) l within is many =
    elim (nat_lt m.kind kind) as (λ v. nat_lt m.kind kind ≡ v → cond v (1 + below kind ls) 0 < length (m ∷ ls) → l ≡ get_or (m ∷ ls) (cond v (1 + below kind ls) 0) l
    → set (m ∷ ls) (cond v (1 + below kind ls) 0) (level l.kind (l.len - 1)) ≡ cond v (m ∷ one_less kind ls) (without_one m ls)) [
      | true ↦ λ less within is.
          let found : l ≡ get_or ls (below kind ls) l = is ∙ ap (λ (n : ℕ). get_or (m ∷ ls) n l) (one-add (below kind ls)) in
          rw one-add (ap (λ zs. m ∷ zs) (less_within kind ls l (omega (arith, within)) found many))
      | false ↦ λ more within is.
          let above : nat_le m.len 1 ≡ false = ap (λ (k : Level). nat_le k.len 1) (sym is) ∙ not_one l.len many in
          rw above (ap (λ (k : Level). level k.kind (k.len - 1) ∷ ls) is)
    ] refl within is

pub less_gone : (kind : ℕ) (ls : List Level) (l : Level) → below kind ls < length ls → l ≡ get_or ls (below kind ls) l → l.len ≤ 1
    → remove ls (below kind ls) ≡ one_less kind ls
less_gone kind [] l within is few = absurd (omega (arith, within))
less_gone kind (m ∷ ls) l within is few =
    elim (nat_lt m.kind kind) as (λ v. nat_lt m.kind kind ≡ v → cond v (1 + below kind ls) 0 < length (m ∷ ls) → l ≡ get_or (m ∷ ls) (cond v (1 + below kind ls) 0) l
    → remove (m ∷ ls) (cond v (1 + below kind ls) 0) ≡ cond v (m ∷ one_less kind ls) (without_one m ls)) [
      | true ↦ λ less within is.
          let found : l ≡ get_or ls (below kind ls) l = is ∙ ap (λ (n : ℕ). get_or (m ∷ ls) n l) (one-add (below kind ls)) in
          rw one-add (ap (λ zs. m ∷ zs) (less_gone kind ls l (omega (arith, within)) found few))
      | false ↦ λ more within is.
          let one : nat_le m.len 1 ≡ true = ap (λ (k : Level). nat_le k.len 1) (sym is) ∙ is_one l.len few in
          rw one refl
    ] refl within is

pub less_none : (kind : ℕ) (ls : List Level) → length ls ≤ below kind ls → ls ≡ one_less kind ls
less_none kind [] past = refl
less_none kind (m ∷ ls) past =
    elim (nat_lt m.kind kind) as (λ v. length (m ∷ ls) ≤ cond v (1 + below kind ls) 0 → m ∷ ls ≡ cond v (m ∷ one_less kind ls) (without_one m ls)) [
      | true ↦ λ past. ap (λ zs. m ∷ zs) (less_none kind ls (omega (arith, past)))
      | false ↦ λ past. absurd (omega (arith, past))
    ] past

-- ---- how many there are in all

joined_number : (kind : ℕ) (ls : List Level) → length (joined kind ls) ≤ 1 + length ls
joined_number kind [] = omega arith
joined_number kind (l ∷ ls) =
    elim (l.kind == kind) as (λ v. length (cond v (level l.kind (l.len + 1) ∷ ls) (level kind 1 ∷ l ∷ ls)) ≤ 1 + length (l ∷ ls)) [
      | true ↦ omega arith
      | false ↦ omega arith
    ]

pub levels_number : (xs : List Rank) → length (levels_of xs) ≤ length xs
levels_number [] = omega arith
levels_number (x ∷ xs) = omega (arith, joined_number x.kind (levels_of xs), levels_number xs)

joined_counts : (most kind : ℕ) (ls : List Level) → AllByRecursion (λ (l : Level). l.len ≤ most) ls → AllByRecursion (λ (l : Level). l.len ≤ most + 1) (joined kind ls)
joined_counts most kind [] all = (omega arith, tt)
joined_counts most kind (l ∷ ls) all =
    let later : AllByRecursion (λ (m : Level). m.len ≤ most + 1) ls = each_weaker (λ (m : Level). m.len ≤ most) (λ (m : Level). m.len ≤ most + 1) (λ m less. omega (arith, less)) ls all.1 in
    let first : l.len ≤ most = all.0 in
    elim (l.kind == kind) as (λ v. AllByRecursion (λ (m : Level). m.len ≤ most + 1) (cond v (level l.kind (l.len + 1) ∷ ls) (level kind 1 ∷ l ∷ ls))) [
      | true ↦ (omega (arith, first), later)
      | false ↦ (omega arith, (omega (arith, first), later))
    ]

pub level_counts : (xs : List Rank) → AllByRecursion (λ (l : Level). l.len ≤ length xs) (levels_of xs)
level_counts [] = tt
level_counts (x ∷ xs) =
    each_weaker (λ (l : Level). l.len ≤ length xs + 1) (λ (l : Level). l.len ≤ length (x ∷ xs)) (λ l less. omega (arith, less)) (joined x.kind (levels_of xs))
    (joined_counts (length xs) x.kind (levels_of xs) (level_counts xs))

pub counts_fit : (xs : List Rank) (most : ℕ) → length xs < most → AllByRecursion (λ (l : Level). l.len + 1 < most + 1) (levels_of xs)
counts_fit xs most short =
    each_weaker (λ (l : Level). l.len ≤ length xs) (λ (l : Level). l.len + 1 < most + 1) (λ l less. omega (arith, less, short)) (levels_of xs) (level_counts xs)

-- ---- the same where an index was read

pub same_read : (ls : List Level) (i : ℕ) (l m : Level) → i < length ls → l ≡ get_or ls i l → m ≡ get_or ls i m → l ≡ m
same_read [] i l m within one other = absurd (omega (arith, within))
same_read (x ∷ ls) zero l m within one other = one ∙ sym other
same_read (x ∷ ls) (suc i) l m within one other = same_read ls i l m (omega (arith, within)) one other

pub more_at : (kind i : ℕ) (ls : List Level) (l m : Level) → i ≡ below kind ls → i < length ls → l ≡ get_or ls i l → m ≡ get_or ls i m → m.kind ≡ kind
    → set ls i (record { kind = l.kind; len = l.len + 1 }) ≡ one_more kind ls
more_at kind i ls l m at within is other same =
    let kinds : l.kind ≡ kind = ap (λ (k : Level). k.kind) (same_read ls i l m within is other) ∙ same in
    let first : below kind ls < length ls = omega (arith, at, within) in
    ap (λ (n : ℕ). set ls n (level l.kind (l.len + 1))) at ∙ more_with kind ls l first (is ∙ ap (λ (n : ℕ). get_or ls n l) at) kinds

pub new_at : (kind i : ℕ) (ls : List Level) → i ≡ below kind ls → (i < length ls → (l : Level) → l ≡ get_or ls i l → l.kind ≡ kind → ⊥)
    → insert ls i (record { kind = kind; len = 1 }) ≡ one_more kind ls
new_at kind i ls at none =
    ap (λ (n : ℕ). insert ls n (level kind 1)) at
    ∙ more_between kind ls (λ within l is same. none (omega (arith, at, within)) l (is ∙ ap (λ (n : ℕ). get_or ls n l) (sym at)) same)

pub less_at : (kind i : ℕ) (ls : List Level) (l m : Level) → i ≡ below kind ls → i < length ls → l ≡ get_or ls i l → m ≡ get_or ls i m → 1 < m.len
    → set ls i (record { kind = l.kind; len = l.len - 1 }) ≡ one_less kind ls
less_at kind i ls l m at within is other many =
    let more : 1 < l.len = omega (arith, many, ap (λ (k : Level). k.len) (same_read ls i l m within is other)) in
    let first : below kind ls < length ls = omega (arith, at, within) in
    ap (λ (n : ℕ). set ls n (level l.kind (l.len - 1))) at ∙ less_within kind ls l first (is ∙ ap (λ (n : ℕ). get_or ls n l) at) more

pub gone_at : (kind i : ℕ) (ls : List Level) (l : Level) → i ≡ below kind ls → i < length ls → l ≡ get_or ls i l → l.len ≤ 1 → remove ls i ≡ one_less kind ls
gone_at kind i ls l at within is few =
    let first : below kind ls < length ls = omega (arith, at, within) in
    ap (remove ls) at ∙ less_gone kind ls l first (is ∙ ap (λ (n : ℕ). get_or ls n l) at) few

joined_some : (kind : ℕ) (ls : List Level) → joined kind ls ≡ [] → ⊥
joined_some kind [] is = absurd (cc)
joined_some kind (l ∷ ls) is =
    elim (l.kind == kind) as (λ v. cond v (level l.kind (l.len + 1) ∷ ls) (level kind 1 ∷ l ∷ ls) ≡ [] → ⊥) [
      | true ↦ λ is. absurd (cc)
      | false ↦ λ is. absurd (cc)
    ] is

pub no_levels : (xs : List Rank) → levels_of xs ≡ [] → xs ≡ []
no_levels [] is = refl
no_levels (x ∷ xs) is = absurd (joined_some x.kind (levels_of xs) is)
