-- What fields, arrays and maps come to, by their parts.
use Rattle.std.proofs.Common.{◌≡◌, ℕ, suc, ◌+◌, ◌*◌, ◌^◌, ◌<◌, ◌≤◌, List, [], ◌∷◌, ◌++◌, length, refl, sym, ap, subst, ◌∙◌, arith, inl, inr, ℤ, pos, negsuc, Option, Some, None}
use Rattle.std.specs.Prelude.{FitsSigned, IfSome, OnOk, Result, Ok, Err}
use Rattle.std.specs.Int.{w32}
use Rattle.std.specs.List.{AllByRecursion}
use Rattle.std.specs.Ordering.{nat_cmp, ordering_then}
use Rattle.std.specs.Cmp.{nat_cmp_is}
use Rattle.std.specs.Cmp.Lexicographic.{slice_cmp}
use Rattle.std.specs.declared.cmp.Ordering.{Ordering}
use Rattle.std.specs.declared.cmp.Ordering.TheVariants.{Less, Equal}
use Rattle.std.proofs.lemmas.Bool.{cases_lt}
use Rattle.cbor_profile.specs.Canon.{canon}
use Rattle.cbor_profile.specs.Tree.{Tree, unsigned, array, count, items_of, pair_count, pairs_of}
use Rattle.cbor_profile.specs.Valid.{IsSound, AreSound, ArePairsSound, RiseFrom, KeysRise, IsBefore, IsValid, depth, items_depth, pairs_depth}
use Rattle.cbor_profile.specs.Within.{IsWithin}
use Rattle.cbor_profile.proofs.Heads.{head_none, head_one}
use Rattle.cbor_profile.proofs.KeyOrder.{after_nothing}
use Rattle.reply_bodies.specs.Maps.{field, listed, numbered, map_of, sole, integer}
use Rattle.reply_bodies.specs.Within.{AllWithin, Rises, AreFieldsWithin}

-- what holds anyway
pub always : {T E P : Type 0} (r : Result T E) → P → OnOk r P
always (Ok x) p = p
always (Err e) p = tt

-- ---- items

pub raised : (low high : ℕ) (t : Tree) → IsWithin low t → low ≤ high → IsWithin high t
raised low high t h le = let d = h.nests in record { sound = h.sound; nests = omega arith }

pub valid : (levels : ℕ) (t : Tree) → IsWithin levels t → levels ≤ 16 → IsValid t
valid levels t h le = let d = h.nests in record { sound = h.sound; nests = omega arith }

pub number_within : (levels n : ℕ) → n < 2 ^ 64 → IsWithin levels (unsigned n)
number_within levels n small = record { sound = small; nests = omega arith }

pub integer_within : (levels : ℕ) (z : ℤ) → FitsSigned w32 z → IsWithin levels (integer z)
integer_within levels (pos n) fits = record { sound = omega arith; nests = omega arith }
integer_within levels (negsuc n) fits = record { sound = omega arith; nests = omega arith }

-- ---- arrays

count_is : (ts : List Tree) → count (items_of ts) ≡ length ts
count_is [] = refl
count_is (t ∷ ts) = ap suc (count_is ts)

each_sound : (levels : ℕ) (ts : List Tree) → AllByRecursion (IsWithin levels) ts → AreSound (items_of ts)
each_sound levels [] all = tt
each_sound levels (t ∷ ts) all = let first = all.0 in (first.sound, each_sound levels ts all.1)

each_nests : (levels : ℕ) (ts : List Tree) → AllByRecursion (IsWithin levels) ts → items_depth (items_of ts) ≤ levels
each_nests levels [] all = omega arith
each_nests levels (t ∷ ts) all =
    let first : depth t ≤ levels = all.0.nests in
    let rest = each_nests levels ts all.1 in
    omega arith

pub array_within : (levels : ℕ) (ts : List Tree) → AllWithin levels ts → length ts < 2 ^ 64 → IsWithin (suc levels) (array (items_of ts))
array_within levels ts all few =
    let n = count_is ts in
    let d = each_nests levels ts all.each in
    record { sound = (omega arith, each_sound levels ts all.each); nests = omega arith }

-- ---- fields

first_less : (a b : ℕ) (xs ys : List ℕ) → a < b → slice_cmp nat_cmp (a ∷ xs) (b ∷ ys) ≡ Less
first_less a b xs ys below = ap (λ (o : Ordering). ordering_then o (slice_cmp nat_cmp xs ys)) (sym (nat_cmp_is a b Less below))

then_less : (a m n : ℕ) → m < n → slice_cmp nat_cmp (a ∷ m ∷ []) (a ∷ n ∷ []) ≡ Less
then_less a m n below =
    ap (λ (o : Ordering). ordering_then o (slice_cmp nat_cmp (m ∷ []) (n ∷ []))) (sym (nat_cmp_is a a Equal refl))
    ∙ first_less m n [] [] below

-- keys below 256 are in the order of their encodings
unsigned_before : (m n : ℕ) → m < n → n < 256 → IsBefore (canon (unsigned m)) (canon (unsigned n))
unsigned_before m n below small = elim (cases_lt m 24) [
  | inl low ↦ elim (cases_lt n 24) [
    | inl also ↦ rw (head_none 0 m low, head_none 0 n also) (first_less (32 * 0 + m) (32 * 0 + n) [] [] (omega arith))
    | inr over ↦ rw (head_none 0 m low, head_one 0 n over small) (first_less (32 * 0 + m) (32 * 0 + 24) [] (n ∷ []) (omega arith))
  ]
  | inr high ↦ rw (head_one 0 m high (omega arith), head_one 0 n (omega arith) small) (then_less (32 * 0 + 24) m n below)
]

starts_lower : (levels low lower high : ℕ) (fields : List (Tree × Tree)) → lower ≤ low → Rises levels low high fields → Rises levels lower high fields
starts_lower levels low lower high [] le rise = omega arith
starts_lower levels low lower high (f ∷ fields) le rise = (rise.0, rise.1, omega arith, rise.3, rise.4)

joined : (levels low middle high : ℕ) (xs ys : List (Tree × Tree)) → Rises levels low middle xs → Rises levels middle high ys → Rises levels low high (xs ++ ys)
joined levels low middle high [] ys first second = starts_lower levels middle low high ys first second
joined levels low middle high (f ∷ xs) ys first second = (first.0, first.1, first.2, first.3, joined levels (suc first.0) middle high xs ys first.4 second)

pub fields_then : (levels low middle high : ℕ) (xs ys : List (Tree × Tree)) → AreFieldsWithin levels low middle xs → AreFieldsWithin levels middle high ys → AreFieldsWithin levels low high (xs ++ ys)
fields_then levels low middle high xs ys first second = record { rise = joined levels low middle high xs ys first.rise second.rise }

pub no_fields : (levels low high : ℕ) → low ≤ high → AreFieldsWithin levels low high []
no_fields levels low high le = record { rise = le }

pub field_within : (levels low key high : ℕ) (t : Tree) → low ≤ key → key < high → IsWithin levels t → AreFieldsWithin levels low high (field key t)
field_within levels low key high t le below within = record { rise = (key, refl, le, within, omega arith) }

pub listed_within : (levels low key high : ℕ) (ts : List Tree) → low ≤ key → key < high → length ts < 2 ^ 64 → AllWithin levels ts → AreFieldsWithin (suc levels) low high (listed key ts)
listed_within levels low key high [] le below few all = no_fields (suc levels) low high (omega arith)
listed_within levels low key high (t ∷ ts) le below few all = field_within (suc levels) low key high (array (items_of (t ∷ ts))) le below (array_within levels (t ∷ ts) all few)

pub numbered_within : (levels low key high : ℕ) (number : Option ℕ) → low ≤ key → key < high → IfSome number (λ n. n < 2 ^ 64) → AreFieldsWithin levels low high (numbered key number)
numbered_within levels low key high None le below small = no_fields levels low high (omega arith)
numbered_within levels low key high (Some n) le below small = field_within levels low key high (unsigned n) le below (number_within levels n small)

-- ---- maps

least : (levels low high : ℕ) (fields : List (Tree × Tree)) → Rises levels low high fields → low + pair_count (pairs_of fields) ≤ high
least levels low high [] rise = omega arith
least levels low high (f ∷ fields) rise = let rest = least levels (suc rise.0) high fields rise.4 in omega (arith, rise.2)

sound_fields : (levels low high : ℕ) (fields : List (Tree × Tree)) → Rises levels low high fields → high ≤ 256 → ArePairsSound (pairs_of fields)
sound_fields levels low high [] rise small = tt
sound_fields levels low high (f ∷ fields) rise small =
    let more = least levels (suc rise.0) high fields rise.4 in
    let key : rise.0 < 2 ^ 64 = omega arith in
    let value = rise.3 in
    (subst (λ (t : Tree). IsSound t) (sym rise.1) key, value.sound, sound_fields levels (suc rise.0) high fields rise.4 small)

nest_fields : (levels low high : ℕ) (fields : List (Tree × Tree)) → Rises levels low high fields → pairs_depth (pairs_of fields) ≤ levels
nest_fields levels low high [] rise = omega arith
nest_fields levels low high (f ∷ fields) rise =
    let key : depth f.0 ≡ 0 = ap depth rise.1 in
    let value : depth f.1 ≤ levels = rise.3.nests in
    let rest = nest_fields levels (suc rise.0) high fields rise.4 in
    omega arith

rise_fields : (levels last low high : ℕ) (fields : List (Tree × Tree)) → last < low → high ≤ 256 → Rises levels low high fields → RiseFrom (canon (unsigned last)) (pairs_of fields)
rise_fields levels last low high [] below small rise = tt
rise_fields levels last low high (f ∷ fields) below small rise =
    let more = least levels (suc rise.0) high fields rise.4 in
    let le : low ≤ rise.0 = rise.2 in (
      subst (λ (t : Tree). IsBefore (canon (unsigned last)) (canon t)) (sym rise.1) (unsigned_before last rise.0 (omega arith) (omega arith)),
      subst (λ (t : Tree). RiseFrom (canon t) (pairs_of fields)) (sym rise.1) (rise_fields levels rise.0 (suc rise.0) high fields (omega arith) small rise.4),
    )

keys_rise : (levels low high : ℕ) (fields : List (Tree × Tree)) → high ≤ 256 → Rises levels low high fields → KeysRise (pairs_of fields)
keys_rise levels low high [] small rise = tt
keys_rise levels low high (f ∷ fields) small rise = (
  after_nothing f.0,
  subst (λ (t : Tree). RiseFrom (canon t) (pairs_of fields)) (sym rise.1) (rise_fields levels rise.0 (suc rise.0) high fields (omega arith) small rise.4),
)

pub map_within : (levels low high : ℕ) (fields : List (Tree × Tree)) → high ≤ 256 → AreFieldsWithin levels low high fields → IsWithin (suc levels) (map_of fields)
map_within levels low high fields small all =
    let n = least levels low high fields all.rise in
    let d = nest_fields levels low high fields all.rise in
    record {
      sound = (omega arith, sound_fields levels low high fields all.rise small, keys_rise levels low high fields small all.rise);
      nests = omega arith;
    }

pub sole_within : (levels key : ℕ) (t : Tree) → key < 256 → IsWithin levels t → IsWithin (suc levels) (sole key t)
sole_within levels key t small within = map_within levels key (suc key) (field key t) (omega arith) (field_within levels key key (suc key) t (omega arith) (omega arith) within)
