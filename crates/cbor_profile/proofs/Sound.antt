-- What is spelled is sound, and nests no deeper than it may.
use Rattle.std.proofs.Common.{◌≡◌, ℕ, zero, suc, ◌+◌, ◌*◌, ◌^◌, ◌<◌, ◌≤◌, true, false, List, [], ◌∷◌, ◌++◌, length, get_or, refl, sym, ap, subst, inl, inr, arith}
use Rattle.std.specs.Prelude.{◌⊎◌, ◌==◌, IsUtf8}
use Rattle.std.specs.List.{AllByRecursion}
use Rattle.std.specs.Int.{Width, w8, w16, w32, w64, from_be_bytes}
use Rattle.std.proofs.lemmas.Bool.{cond_both}
use Rattle.std.proofs.lemmas.List.{length-append}
use Rattle.std.proofs.lemmas.List.Elements.{All-from_recursion, recursion_from_All}
use Rattle.std.proofs.lemmas.List.Sorted.{All-permutation, length_permutation}
use Rattle.std.proofs.lemmas.Str.{IsUtf8-append}
use Rattle.cbor_profile.specs.Tree.{Tree, unsigned, negative, byte_string, text, array, mapping, tag, boolean, null, Trees, no_items, item, pairs_of, count, pair_count}
use Rattle.cbor_profile.specs.Valid.{IsSound, AreSound, ArePairsSound, depth, items_depth, pairs_depth}
use Rattle.cbor_profile.specs.Spelling.{width, begin, break, IsArgument, itself, follows, IsHead, AreParts, SpellsString, Encloses, SpellsItems, SpellsPairs, IsInOrder, SpellsPlain, SpellsNest, SpellsWithin}
use Rattle.cbor_profile.proofs.Firsts.{Starts}
use Rattle.cbor_profile.proofs.Beginnings.{AreBytes, AreBytes-rest}
use Rattle.cbor_profile.proofs.Nested.{PartStarts, within_starts}

pub AreBytes-front : (front rest : List ℕ) → AreBytes (front ++ rest) → AreBytes front
AreBytes-front [] rest h = tt
AreBytes-front (b ∷ front) rest h = (h.0, AreBytes-front front rest h.1)

-- bytes that memory can hold
pub record ShortBytes (bytes : List ℕ) : Type 0 where
  pub each : AreBytes bytes
  pub short : length bytes < 2 ^ 64

pub short_front : (bytes front rest : List ℕ) → ShortBytes bytes → bytes ≡ front ++ rest → ShortBytes front
short_front bytes front rest h is =
    let l = ap length is in
    let m = length-append front rest in
    let k = h.short in
    record { each = AreBytes-front front rest (subst AreBytes is h.each); short = omega arith }

pub short_rest : (bytes front rest : List ℕ) → ShortBytes bytes → bytes ≡ front ++ rest → ShortBytes rest
short_rest bytes front rest h is =
    let l = ap length is in
    let m = length-append front rest in
    let k = h.short in
    record { each = AreBytes-rest front rest (subst AreBytes is h.each); short = omega arith }

-- ---- numbers

byte_at : (bytes : List ℕ) (i : ℕ) → AreBytes bytes → get_or bytes i 0 < 256
byte_at [] i h = omega arith
byte_at (b ∷ bytes) zero h = h.0
byte_at (b ∷ bytes) (suc i) h = byte_at bytes i h.1

below_8 : (bytes : List ℕ) → AreBytes bytes → from_be_bytes w8 bytes < 2 ^ 64
below_8 bytes h = omega (arith, byte_at bytes 0 h)

below_16 : (bytes : List ℕ) → AreBytes bytes → from_be_bytes w16 bytes < 2 ^ 64
below_16 bytes h = omega (arith, byte_at bytes 0 h, byte_at bytes 1 h)

below_32 : (bytes : List ℕ) → AreBytes bytes → from_be_bytes w32 bytes < 2 ^ 64
below_32 bytes h = omega (arith, byte_at bytes 0 h, byte_at bytes 1 h, byte_at bytes 2 h, byte_at bytes 3 h)

below_64 : (bytes : List ℕ) → AreBytes bytes → from_be_bytes w64 bytes < 2 ^ 64
below_64 bytes h = omega (arith, byte_at bytes 0 h, byte_at bytes 1 h, byte_at bytes 2 h, byte_at bytes 3 h, byte_at bytes 4 h, byte_at bytes 5 h, byte_at bytes 6 h, byte_at bytes 7 h)

number_below : (info : ℕ) (bytes : List ℕ) → AreBytes bytes → from_be_bytes (width info) bytes < 2 ^ 64
number_below info bytes h =
    let P : Width → Type 0 = λ w. from_be_bytes w bytes < 2 ^ 64 in
    cond_both (info == 24) w8 _ P (λ e. below_8 bytes h) (λ e. cond_both (info == 25) w16 _ P (λ e. below_16 bytes h) (λ e. cond_both (info == 26) w32 w64 P (λ e. below_32 bytes h) (λ e. below_64 bytes h)))

argument_below : (info n : ℕ) (following : List ℕ) → AreBytes following → IsArgument info n following → n < 2 ^ 64
argument_below info n following h argument = elim argument [
  | itself lt is nil ↦ omega arith
  | follows least most len is ↦ let b = number_below info following h in omega arith
]

pub head_below : (major n : ℕ) (head : List ℕ) → AreBytes head → IsHead major n head → n < 2 ^ 64
head_below major n head h is =
    let both : AreBytes ((32 * major + is.info) ∷ is.following) = subst AreBytes is.is h in
    argument_below is.info n is.following both.1 is.argument

-- ---- strings

empty_utf8 : IsUtf8 []
empty_utf8 = ([], (refl, refl))

parts_length : (major : ℕ) (parts : List (List ℕ)) (string content : List ℕ) → AreParts major parts string content → length string ≤ length content
parts_length major [] string content h = let e = ap length h.0 in omega arith
parts_length major (part ∷ parts) string content h =
    let rest = parts_length major parts h.2 h.1 h.6 in
    let a = ap length h.3 in
    let b = ap length h.4 in
    let c = length-append part h.2 in
    let d = length-append h.0 h.1 in
    let e = ap length (h.5).is in
    let f = length-append (h.5).head part in
    omega arith

parts_utf8 : (parts : List (List ℕ)) (string content : List ℕ) → AreParts 3 parts string content → IsUtf8 string
parts_utf8 [] string content h = subst IsUtf8 (sym h.0) empty_utf8
parts_utf8 (part ∷ parts) string content h = subst IsUtf8 (sym h.3) (IsUtf8-append part h.2 ((h.5).fits refl) (parts_utf8 parts h.2 h.1 h.6))

string_length : (major : ℕ) (string bytes : List ℕ) → SpellsString major string bytes → length string ≤ length bytes
string_length major string bytes spelled = elim spelled [
  | SpellsString.definite s ↦ let a = ap length s.is in let b = length-append s.head string in omega arith
  | SpellsString.indefinite parts content are is ↦
      let a = ap length is in let b = length-append content (break ∷ []) in let c = parts_length major parts string content are in omega arith
]

text_utf8 : (string bytes : List ℕ) → SpellsString 3 string bytes → IsUtf8 string
text_utf8 string bytes spelled = elim spelled [
  | SpellsString.definite s ↦ s.fits refl
  | SpellsString.indefinite parts content are is ↦ parts_utf8 parts string content are
]

-- ---- items and pairs

abbrev pub PartSound : ℕ → (List ℕ → Tree → Type 0) → Type 0
PartSound levels Part = (bytes : List ℕ) (t : Tree) → ShortBytes bytes → Part bytes t → IsSound t × (depth t ≤ levels)

starts_length : (bytes : List ℕ) → Starts bytes → 1 ≤ length bytes
starts_length bytes s = let e = ap length s.is in omega arith

abbrev pub PairSound : ℕ → Tree × Tree → Type 0
PairSound levels p = IsSound p.0 × IsSound p.1 × (depth p.0 ≤ levels) × (depth p.1 ≤ levels)

pairs_sound_of : (levels : ℕ) (ps : List (Tree × Tree)) → AllByRecursion (PairSound levels) ps → ArePairsSound (pairs_of ps) × (pairs_depth (pairs_of ps) ≤ levels) × (pair_count (pairs_of ps) ≡ length ps)
pairs_sound_of levels [] all = (tt, omega arith, refl)
pairs_sound_of levels (p ∷ ps) all =
    let rest = pairs_sound_of levels ps all.1 in
    let one = all.0 in
    ((one.0, one.1, rest.0), omega arith, ap suc rest.2)

module _ (levels : ℕ) (Part : List ℕ → Tree → Type 0) (starts : PartStarts Part) (sound : PartSound levels Part) where
  items_sound : (ts : Trees) (bytes : List ℕ) → ShortBytes bytes → SpellsItems Part bytes ts → AreSound ts × (items_depth ts ≤ levels) × (count ts ≤ length bytes)
  items_sound no_items bytes fits h = (tt, omega arith, omega arith)
  items_sound (item t ts) bytes fits h =
      let front = h.0 in
      let more = h.1 in
      let one = sound front t (short_front bytes front more fits h.2) h.3 in
      let rest = items_sound ts more (short_rest bytes front more fits h.2) h.4 in
      let long = ap length h.2 in
      let sum = length-append front more in
      let some = starts_length front (starts front t h.3) in
      ((one.0, rest.0), omega arith, omega arith)

  pub pairs_sound : (ps : List (Tree × Tree)) (bytes : List ℕ) → ShortBytes bytes → SpellsPairs Part bytes ps → AllByRecursion (PairSound levels) ps × (length ps ≤ length bytes)
  pairs_sound [] bytes fits h = (tt, omega arith)
  pairs_sound (p ∷ ps) bytes fits h =
      let key = h.0 in
      let value = h.1 in
      let more = h.2 in
      let behind = short_rest bytes key (value ++ more) fits h.3 in
      let one = sound key p.0 (short_front bytes key (value ++ more) fits h.3) h.4 in
      let two = sound value p.1 (short_front (value ++ more) value more behind refl) h.5 in
      let rest = pairs_sound ps more (short_rest (value ++ more) value more behind refl) h.6 in
      let long = ap length h.3 in
      let sum = length-append key (value ++ more) in
      let sum2 = length-append value more in
      let some = starts_length key (starts key p.0 h.4) in
      (((one.0, two.0, one.1, two.1), rest.0), omega arith)

  map_sound : (read : List (Tree × Tree)) (ps : Rattle.cbor_profile.specs.Tree.Pairs) → AllByRecursion (PairSound levels) read → length read < 2 ^ 64 → IsInOrder read ps → IsSound (mapping ps) × (depth (mapping ps) ≤ suc levels)
  map_sound read ps all few order =
      let P : Tree × Tree → Type 0 = PairSound levels in
      let moved = recursion_from_All P order.sorted (All-permutation P read order.sorted order.same (All-from_recursion P read all)) in
      let made = pairs_sound_of levels order.sorted moved in
      let long = length_permutation read order.sorted order.same in
      let n : pair_count ps ≡ pair_count (pairs_of order.sorted) = ap pair_count order.is in
      let d : pairs_depth ps ≡ pairs_depth (pairs_of order.sorted) = ap pairs_depth order.is in
      ((omega arith, subst ArePairsSound (sym order.is) made.0, order.rise), omega arith)

  holds_content : (major n : ℕ) (content bytes : List ℕ) → ShortBytes bytes → Encloses major n content bytes → ShortBytes content
  holds_content major n content bytes fits holds = elim holds [
    | Encloses.definite head counted is ↦ short_rest bytes head content fits is
    | Encloses.indefinite is ↦ short_front (content ++ break ∷ []) content (break ∷ []) (short_rest bytes (begin major ∷ []) (content ++ break ∷ []) fits is) refl
  ]

  nest_sound : (t : Tree) (bytes : List ℕ) → ShortBytes bytes → SpellsNest Part bytes t → IsSound t × (depth t ≤ suc levels)
  nest_sound (unsigned n) bytes fits h = absurd h
  nest_sound (negative n) bytes fits h = absurd h
  nest_sound (byte_string s) bytes fits h = absurd h
  nest_sound (text s) bytes fits h = absurd h
  nest_sound (boolean b) bytes fits h = absurd h
  nest_sound null bytes fits h = absurd h
  nest_sound (array ts) bytes fits h =
      let content = holds_content 4 (count ts) h.0 bytes fits h.1 in
      let items = items_sound ts h.0 content h.2 in
      let short = content.short in
      ((omega arith, items.0), omega arith)
  nest_sound (mapping ps) bytes fits h =
      let content = holds_content 5 (length h.1) h.0 bytes fits h.2 in
      let pairs = pairs_sound h.1 h.0 content h.3 in
      let short = content.short in
      map_sound h.1 ps pairs.0 (omega arith) h.4
  nest_sound (tag n t) bytes fits h =
      let inside = sound h.1 t (short_rest bytes h.0 h.1 fits h.3) h.4 in
      let front = short_front bytes h.0 h.1 fits h.3 in
      ((head_below 6 n h.0 front.each h.2, inside.0), omega arith)

plain_sound : (levels : ℕ) (t : Tree) (bytes : List ℕ) → ShortBytes bytes → SpellsPlain bytes t → IsSound t × (depth t ≤ levels)
plain_sound levels (unsigned n) bytes fits h = (head_below 0 n bytes fits.each h, omega arith)
plain_sound levels (negative n) bytes fits h = (head_below 1 n bytes fits.each h, omega arith)
plain_sound levels (byte_string s) bytes fits h = let l = string_length 2 s bytes h in let k = fits.short in (omega arith, omega arith)
plain_sound levels (text s) bytes fits h = let l = string_length 3 s bytes h in let k = fits.short in ((omega arith, text_utf8 s bytes h), omega arith)
plain_sound levels (array ts) bytes fits h = absurd h
plain_sound levels (mapping ps) bytes fits h = absurd h
plain_sound levels (tag n t) bytes fits h = absurd h
plain_sound levels (boolean false) bytes fits h = (tt, omega arith)
plain_sound levels (boolean true) bytes fits h = (tt, omega arith)
plain_sound levels null bytes fits h = (tt, omega arith)

either_sound : (levels : ℕ) → PartSound levels (SpellsWithin levels) → (bytes : List ℕ) (t : Tree) → ShortBytes bytes → SpellsPlain bytes t ⊎ SpellsNest (SpellsWithin levels) bytes t → IsSound t × (depth t ≤ suc levels)
either_sound levels inner bytes t fits (inl plain) = plain_sound (suc levels) t bytes fits plain
either_sound levels inner bytes t fits (inr nest) = nest_sound levels (SpellsWithin levels) (within_starts levels 0) inner t bytes fits nest

pub within_sound : (levels : ℕ) → PartSound levels (SpellsWithin levels)
unfolding SpellsWithin
within_sound zero bytes t fits h = plain_sound zero t bytes fits h
within_sound (suc levels) bytes t fits h = either_sound levels (within_sound levels) bytes t fits h
