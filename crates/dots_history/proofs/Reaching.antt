-- What meets a prefix has an address in each reach that is wide enough for it.
use Rattle.std.proofs.Common.{◌≡◌, ℕ, ◌+◌, ◌-◌, ◌*◌, ◌/◌, ◌%◌, ◌^◌, ◌<◌, ◌≤◌, ◌⊎◌, Bool, true, false, ◌&&◌, ◌||◌, List, [], ◌∷◌, nat_le, min, max, inl, inr, refl, sym, ap, ◌∙◌, subst, arith}
use Rattle.std.proofs.lemmas.Bool.{leb-true, le-leb}
use Rattle.std.proofs.lemmas.Nat.{pow_pos, pow-add, div_below, div-add-mod'}
use Rattle.std.proofs.Math.Nat.{le-max_left, le-max_right, min-le_left, min-le_right, mul-le-mul_right, pow-le-pow_right}
use Rattle.std.specs.List.{list_any}
use Rattle.ip_scope.specs.declared.family.Family.{Family}
use Rattle.ip_scope.specs.declared.family.Family.TheVariants.{V4, V6}
use Rattle.ip_scope.specs.Family.{width}
use Rattle.ip_scope.specs.Prefix.{PrefixValue, IsPrefix, block_size, inside, meets}
use Rattle.ip_scope.proofs.Prefixes.{IsInside, inside-says}
use Rattle.dots_history.specs.declared.put.Target.{Target}
use Rattle.dots_history.specs.declared.reach.Reach.{Reach}
use Rattle.dots_history.specs.declared.reach.Reaches.{Reaches}
use Rattle.dots_history.specs.Entries.{some_prefix}
use Rattle.dots_history.specs.Reach.{first_of, last_of, reach_in, with_reach, widened_by, widened, over_prefixes, over_targets, is_within, touches, Encloses}

and_parts : (a b : Bool) → (a && b) ≡ true → (a ≡ true) × (b ≡ true)
and_parts true true h = (refl, refl)
and_parts true false h = (refl, h)
and_parts false b h = let wrong : false ≡ true = h in cc

and_true : (a b : Bool) → a ≡ true → b ≡ true → (a && b) ≡ true
and_true a b p q = rw (p, q) refl

or_parts : (a b : Bool) → (a || b) ≡ true → (a ≡ true) ⊎ (b ≡ true)
or_parts true b h = inl refl
or_parts false b h = inr h

-- ---- two prefixes that meet

record IsAcross (p q : PrefixValue) : Type 0 where
  pub same : p.family ≡ q.family
  pub first : first_of p ≤ last_of q
  pub second : first_of q ≤ last_of p

record IsBetween (n low high : ℕ) : Type 0 where
  pub low_is : low ≤ n
  pub high_is : n ≤ high

in_block : (n s : ℕ) → 0 < s → IsBetween n (n / s * s) (n / s * s + (s - 1))
in_block n s some = record { low_is = omega (arith, div-add-mod' n s); high_is = omega (arith, div-add-mod' n s) }

across : (p q : PrefixValue) → inside p q ≡ true → IsAcross p q
across p q within =
    let is = inside-says p q within in
    let size = block_size q.family q.length in
    let own = block_size p.family p.length in
    let there = in_block p.number size (pow_pos (width q.family - q.length)) in
    let here = in_block p.number own (pow_pos (width p.family - p.length)) in
    let moved : p.number / size * size ≡ first_of q = ap (λ x. x * size) is.held.leading in
    record {
      same = sym is.held.same;
      first = omega (arith, there.low_is, there.high_is, here.low_is, here.high_is, moved);
      second = omega (arith, there.low_is, there.high_is, here.low_is, here.high_is, moved);
    }

across-sym : (p q : PrefixValue) → IsAcross q p → IsAcross p q
across-sym p q is = record { same = sym is.same; first = is.second; second = is.first }

met : (p q : PrefixValue) → meets p q ≡ true → IsAcross p q
met p q h = elim (or_parts (inside p q) (inside q p) h) [
  | inl first ↦ across p q first
  | inr second ↦ across-sym p q (across q p second)
]

-- ---- reaches that are wider

record IsWider (old new : Reach) : Type 0 where
  pub lowest : new.lowest ≤ old.lowest
  pub highest : old.highest ≤ new.highest

abbrev AreWider : Reaches → Reaches → Type 0
AreWider old new = (f : Family) → IsWider (reach_in f old) (reach_in f new)

wider_by : (q : PrefixValue) (reach : Reach) → IsWider reach (widened_by q reach)
wider_by q reach = record { lowest = min-le_left reach.lowest (first_of q); highest = le-max_left reach.highest (last_of q) }

wider-itself : (reach : Reach) → IsWider reach reach
wider-itself reach = record { lowest = omega arith; highest = omega arith }

wider-with : (f g : Family) (reach : Reach) (old : Reaches) → IsWider (reach_in g old) reach → IsWider (reach_in f old) (reach_in f (with_reach g reach old))
wider-with V4 V4 reach old is = is
wider-with V4 V6 reach old is = wider-itself old.short
wider-with V6 V4 reach old is = wider-itself old.long
wider-with V6 V6 reach old is = is

wider-widened : (q : PrefixValue) (old : Reaches) → AreWider old (widened q old)
wider-widened q old = λ f. wider-with f q.family (widened_by q (reach_in q.family old)) old (wider_by q (reach_in q.family old))

wider-trans : (a b c : Reaches) → AreWider a b → AreWider b c → AreWider a c
wider-trans a b c first second = λ f.
    record { lowest = omega (arith, (first f).lowest, (second f).lowest); highest = omega (arith, (first f).highest, (second f).highest) }

wider-prefixes : (qs : List PrefixValue) (old : Reaches) → AreWider old (over_prefixes qs old)
wider-prefixes [] old = λ f. wider-itself (reach_in f old)
wider-prefixes (q ∷ qs) old = wider-trans old (widened q old) (over_prefixes qs (widened q old)) (wider-widened q old) (wider-prefixes qs (widened q old))

wider-targets : (ts : List Target) (old : Reaches) → AreWider old (over_targets ts old)
wider-targets [] old = λ f. wider-itself (reach_in f old)
wider-targets (t ∷ ts) old =
    wider-trans old (over_prefixes t.prefixes old) (over_targets ts (over_prefixes t.prefixes old)) (wider-prefixes t.prefixes old) (wider-targets ts (over_prefixes t.prefixes old))

-- ---- what has an address there

within_from : (p : PrefixValue) (reach : Reach) → first_of p ≤ reach.highest → reach.lowest ≤ last_of p → is_within p reach ≡ true
within_from p reach low high =
    and_true (nat_le (first_of p) reach.highest) (nat_le reach.lowest (last_of p)) (le-leb (first_of p) reach.highest low) (le-leb reach.lowest (last_of p) high)

within-wider : (p : PrefixValue) (old new : Reach) → IsWider old new → is_within p old ≡ true → is_within p new ≡ true
within-wider p old new wider h =
    let (low, high) = and_parts (nat_le (first_of p) old.highest) (nat_le old.lowest (last_of p)) h in
    let below = leb-true (first_of p) old.highest low in
    let above = leb-true old.lowest (last_of p) high in
    within_from p new (omega (arith, below, wider.highest)) (omega (arith, above, wider.lowest))

touches-wider : (p : PrefixValue) (old new : Reaches) → AreWider old new → touches p old ≡ true → touches p new ≡ true
touches-wider p old new wider h = within-wider p (reach_in p.family old) (reach_in p.family new) (wider p.family) h

reach_there : (f : Family) (reach : Reach) (old : Reaches) → reach_in f (with_reach f reach old) ≡ reach
reach_there V4 reach old = refl
reach_there V6 reach old = refl

touches-widened : (p q : PrefixValue) (old : Reaches) → IsAcross p q → touches p (widened q old) ≡ true
touches-widened p q old is =
    let reach = reach_in q.family old in
    let there : reach_in p.family (widened q old) ≡ widened_by q reach =
    subst (λ (f : Family). reach_in f (widened q old) ≡ widened_by q reach) (sym is.same) (reach_there q.family (widened_by q reach) old) in
    let low : first_of p ≤ max reach.highest (last_of q) = omega (arith, is.first, le-max_right reach.highest (last_of q)) in
    let high : min reach.lowest (first_of q) ≤ last_of p = omega (arith, is.second, min-le_right reach.lowest (first_of q)) in
    ap (is_within p) there ∙ within_from p (widened_by q reach) low high

met_prefixes : (p : PrefixValue) (qs : List PrefixValue) (old : Reaches) → list_any (meets p) qs ≡ true → touches p (over_prefixes qs old) ≡ true
met_prefixes p [] old h = let wrong : false ≡ true = h in cc
met_prefixes p (q ∷ qs) old h = elim (or_parts (meets p q) (list_any (meets p) qs) h) [
  | inl here ↦ touches-wider p (widened q old) (over_prefixes qs (widened q old)) (wider-prefixes qs (widened q old)) (touches-widened p q old (met p q here))
  | inr later ↦ met_prefixes p qs (widened q old) later
]

pub met_targets : (p : PrefixValue) (ts : List Target) (old : Reaches) → some_prefix (meets p) ts ≡ true → touches p (over_targets ts old) ≡ true
met_targets p [] old h = let wrong : false ≡ true = h in cc
met_targets p (t ∷ ts) old h = elim (or_parts (list_any (meets p) t.prefixes) (some_prefix (meets p) ts) h) [
  | inl here ↦ touches-wider p (over_prefixes t.prefixes old) (over_targets ts (over_prefixes t.prefixes old)) (wider-targets ts (over_prefixes t.prefixes old))
      (met_prefixes p t.prefixes old here)
  | inr later ↦ met_targets p ts (over_prefixes t.prefixes old) later
]

-- ---- the highest address

width_most : (f : Family) → width f ≤ 128
width_most V4 = omega arith
width_most V6 = omega arith

pub highest_fits : (p : PrefixValue) → IsPrefix p → p.number + (block_size p.family p.length - 1) < 2 ^ 128
highest_fits p valid =
    let bits = width p.family in
    let size = block_size p.family p.length in
    let some : 0 < size = pow_pos (bits - p.length) in
    let whole : 2 ^ p.length * size ≡ 2 ^ bits = sym (pow-add 2 p.length (bits - p.length)) ∙ ap (λ e. 2 ^ e) (omega (arith, valid.length)) in
    let row : p.number / size < 2 ^ p.length = div_below p.number size (2 ^ p.length) some (omega (arith, valid.number, whole)) in
    let rows : (p.number / size + 1) * size ≤ 2 ^ p.length * size = mul-le-mul_right size (omega (arith, row)) in
    let start : p.number / size * size ≡ p.number = omega (arith, div-add-mod' p.number size, valid.host_bits) in
    let most : 2 ^ bits ≤ 2 ^ 128 = pow-le-pow_right (omega arith) (width_most p.family) in
    omega (arith, rows, start, whole, most, some)

pub highest_sum : (p : PrefixValue) (n s : ℕ) → IsPrefix p → n ≡ p.number → s ≡ block_size p.family p.length - 1 → n + s < 2 ^ 128
highest_sum p n s valid number span = rw (number, span) (highest_fits p valid)
