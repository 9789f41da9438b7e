-- What is spelled is read.
use Rattle.std.proofs.Common.{◌≡◌, ℕ, zero, suc, ◌+◌, ◌*◌, ◌-◌, ◌/◌, ◌%◌, ◌<◌, ◌≤◌, true, false, List, [], ◌∷◌, ◌++◌, length, Option, Ok, refl, sym, ap, ◌∙◌, arith, append_assoc}
use Rattle.std.specs.Prelude.{◌==◌}
use Rattle.std.specs.Int.{Width, byte_len, from_be_bytes}
use Rattle.std.proofs.lemmas.Bool.{lt-ltb, le-ltb, ne_eqb, eq-eqb, and_from}
use Rattle.std.proofs.lemmas.List.{take_at, drop_at, length-append}
use Rattle.std.proofs.lemmas.Str.{is_utf8-from_IsUtf8}
use Rattle.cbor_profile.specs.declared.major.Major.{Major}
use Rattle.cbor_profile.specs.declared.major.Major.TheVariants as major_type
use Rattle.cbor_profile.specs.declared.head.Start.TheVariants as start
use Rattle.cbor_profile.specs.Parts.{number_of}
use Rattle.cbor_profile.specs.Tree.{Tree, unsigned, negative, byte_string, text, array, mapping, tag, boolean, null, Trees, no_items, item, items_of, count}
use Rattle.cbor_profile.specs.Spelling.{width, begin, break, IsArgument, itself, follows, IsHead, Fits, AreParts, SpellsString, SpellsItems, SpellsPairs, SpellsPlain}
use Rattle.cbor_profile.specs.Keys.{has_key, put}
use Rattle.cbor_profile.specs.ItemReading.{parts_of, Read, ◌>>=◌, number_at, argument_at, content_at, checked, string_at, is_part, parts_at, items_at, open_items_at, pair_at, pairs_at, open_pairs_at, value_at, indefinite_at, item_at, start_of, start_with, begun_at}
use Rattle.cbor_profile.proofs.Firsts.{HasArgument, start_at, item_begins, value_begins, open_begins, info_small, Starts, Starts-append}
use Rattle.cbor_profile.proofs.Ordered.{Runs}

-- ---- heads and strings

-- a number of so many bytes, which stand in front
number_reads : (end : ℕ) (w : Width) (bytes rest : List ℕ) → length bytes ≡ byte_len w → number_at end w (bytes ++ rest) ≡ Ok (from_be_bytes w bytes, rest)
number_reads end w bytes rest len =
    let long = le-ltb (length (bytes ++ rest)) (byte_len w) (omega (arith, length-append bytes rest)) in
    rw (long, take_at bytes rest (byte_len w) len, drop_at bytes rest (byte_len w) len) refl

pub argument_again : (end info n : ℕ) (following rest : List ℕ) → IsArgument info n following → argument_at end info (following ++ rest) ≡ Ok (n, rest)
unfolding argument_at
argument_again end info n following rest argument = elim argument [
  | itself lt is nil ↦ let e = lt-ltb info 24 lt in rw (nil, e) (ap (λ (m : ℕ). Ok (m, rest)) (sym is))
  | follows least most len is ↦ let e = le-ltb info 24 least in rw e (number_reads end (width info) following rest len ∙ ap (λ (m : ℕ). Ok (m, rest)) (sym is))
]

pub checked_again : (a : Major) (at : ℕ) (string rest : List ℕ) → Fits (number_of a) string → checked a at (string, rest) ≡ Ok (string, rest)
checked_again major_type.Unsigned at string rest fits = refl
checked_again major_type.Negative at string rest fits = refl
checked_again major_type.Bytes at string rest fits = refl
checked_again major_type.Text at string rest fits = rw (is_utf8-from_IsUtf8 string (fits refl)) refl
checked_again major_type.Array at string rest fits = refl
checked_again major_type.Map at string rest fits = refl
checked_again major_type.Tag at string rest fits = refl
checked_again major_type.Simple at string rest fits = refl

content_again : (end n : ℕ) (string rest : List ℕ) → length string ≡ n → content_at end n (string ++ rest) ≡ Ok (string, rest)
content_again end n string rest len =
    let long = le-ltb (length (string ++ rest)) n (omega (arith, length-append string rest)) in
    rw (long, take_at string rest n len, drop_at string rest n len) refl

pub string_again : (end at : ℕ) (a : Major) (info : ℕ) (following string rest : List ℕ) → IsArgument info (length string) following → Fits (number_of a) string
    → string_at end at a info (following ++ (string ++ rest)) ≡ Ok (string, rest)
unfolding string_at
string_again end at a info following string rest argument fits =
    let first = argument_again end info (length string) following (string ++ rest) argument in
    let second = content_again end (length string) string rest refl in
    rw (first, second) (checked_again a at string rest fits)

-- a head and what stands behind it
pub head_parts : (major n : ℕ) (head more : List ℕ) (h : IsHead major n head) → head ++ more ≡ (32 * major + h.info) ∷ (h.following ++ more)
head_parts major n head more h = ap (λ (l : List ℕ). l ++ more) h.is

pub head_begins : (levels end n : ℕ) (a : Major) (head more : List ℕ) (h : IsHead (number_of a) n head) → HasArgument a
    → item_at levels end (head ++ more) ≡ value_at (parts_of levels end) end (end - suc (length (h.following ++ more))) a h.info (h.following ++ more)
head_begins levels end n a head more h has =
    ap (item_at levels end) (head_parts (number_of a) n head more h) ∙ value_begins levels end a h.info (h.following ++ more) has (info_small h.info n h.following h.argument)

-- types of strings
abbrev pub IsStringMajor : Major → Type 0
IsStringMajor major_type.Bytes = Unit {0}
IsStringMajor major_type.Text = Unit {0}
IsStringMajor major = ⊥

string_small : (a : Major) → IsStringMajor a → number_of a < 4
string_small major_type.Bytes is = omega arith
string_small major_type.Text is = omega arith
string_small major_type.Unsigned is = absurd is
string_small major_type.Negative is = absurd is
string_small major_type.Array is = absurd is
string_small major_type.Map is = absurd is
string_small major_type.Tag is = absurd is
string_small major_type.Simple is = absurd is

-- the first byte of a part is told apart from the end and from other items
pub part_begins : (a : Major) (info : ℕ) → IsStringMajor a → info < 28 → ((32 * number_of a + info == break) ≡ false) × (is_part a (32 * number_of a + info) ≡ true) × ((32 * number_of a + info) % 32 ≡ info)
part_begins a info is lt =
    let small = string_small a is in
    let q : (32 * number_of a + info) / 32 ≡ number_of a = omega arith in
    let r : (32 * number_of a + info) % 32 ≡ info = omega arith in
    (ne_eqb _ _ (λ e. omega arith), and_from _ _ (eq-eqb _ _ q) (rw r (lt-ltb info 28 lt)), r)

part_step : (fuel end : ℕ) (a : Major) (info : ℕ) (following string more others rest : List ℕ) → IsStringMajor a → IsArgument info (length string) following → Fits (number_of a) string
    → parts_at fuel end a more ≡ Ok (others, rest) → parts_at (suc fuel) end a ((32 * number_of a + info) ∷ (following ++ (string ++ more))) ≡ Ok (string ++ others, rest)
unfolding parts_at
part_step fuel end a info following string more others rest is argument fits next =
    let begins = part_begins a info is (info_small info (length string) following argument) in
    let first = string_again end (end - suc (length (following ++ (string ++ more)))) a info following string more argument fits in
    rw (begins.0, begins.1, begins.2, first, next) refl

pub parts_again : (parts : List (List ℕ)) (fuel end : ℕ) (a : Major) (string content rest : List ℕ) → IsStringMajor a → AreParts (number_of a) parts string content
    → length (content ++ break ∷ rest) ≤ fuel → parts_at fuel end a (content ++ break ∷ rest) ≡ Ok (string, rest)
unfolding parts_at
parts_again [] zero end a string content rest is h enough = absurd (omega (arith, length-append content (break ∷ rest)))
parts_again [] (suc fuel) end a string content rest is h enough = rw (h.0, h.1) refl
parts_again (part ∷ parts) zero end a string content rest is h enough = absurd (omega (arith, length-append content (break ∷ rest)))
parts_again (part ∷ parts) (suc fuel) end a string content rest is h enough =
    let front = h.0 in
    let more = h.1 in
    let others = h.2 in
    let one = h.5 in
    let head = one.counted in
    let regrouped : content ++ break ∷ rest ≡ (32 * number_of a + head.info) ∷ (head.following ++ (part ++ (more ++ break ∷ rest))) =
    ap (λ (l : List ℕ). l ++ break ∷ rest) h.4 ∙ append_assoc front more (break ∷ rest) ∙ ap (λ (l : List ℕ). l ++ (more ++ break ∷ rest)) one.is ∙ append_assoc one.head part (more ++ break ∷ rest)
    ∙ head_parts (number_of a) (length part) one.head (part ++ (more ++ break ∷ rest)) head in
    let long = ap length regrouped in
    let inner = length-append head.following (part ++ (more ++ break ∷ rest)) in
    let outer = length-append part (more ++ break ∷ rest) in
    let next = parts_again parts fuel end a others more rest is h.6 (omega arith) in
    ap (parts_at (suc fuel) end a) regrouped ∙ part_step fuel end a head.info head.following part (more ++ break ∷ rest) others rest is head.argument one.fits next ∙ ap (λ (l : List ℕ). Ok (l, rest)) (sym h.3)

-- ---- items without parts

number_again : (levels end n : ℕ) (a : Major) (t : ℕ → Tree) (bytes rest : List ℕ) → HasArgument a → IsHead (number_of a) n bytes
    → ((parts : Option (List ℕ → Read Tree)) (at info : ℕ) (more : List ℕ) → value_at parts end at a info more ≡ (argument_at end info more >>= λ n. Ok (t n.0, n.1)))
    → item_at levels end (bytes ++ rest) ≡ Ok (t n, rest)
number_again levels end n a t bytes rest has h value =
    head_begins levels end n a bytes rest h has ∙ value (parts_of levels end) _ h.info (h.following ++ rest)
    ∙ ap (λ (r : Read ℕ). r >>= λ n. Ok (t n.0, n.1)) (argument_again end h.info n h.following rest h.argument)

text_again : (levels end : ℕ) (a : Major) (t : List ℕ → Tree) (string bytes rest : List ℕ) → IsStringMajor a → HasArgument a → start_with a 31 ≡ start.Indefinite a → SpellsString (number_of a) string bytes
    → ((parts : Option (List ℕ → Read Tree)) (at info : ℕ) (more : List ℕ) → value_at parts end at a info more ≡ (string_at end at a info more >>= λ s. Ok (t s.0, s.1)))
    → ((parts : Option (List ℕ → Read Tree)) (at : ℕ) (more : List ℕ) → indefinite_at parts end at a more ≡ (parts_at (length more) end a more >>= λ s. Ok (t s.0, s.1)))
    → item_at levels end (bytes ++ rest) ≡ Ok (t string, rest)
text_again levels end a t string bytes rest is has opens spelled value indefinite = elim spelled [
  | SpellsString.definite s ↦
      let h = s.counted in
      ap (item_at levels end) (ap (λ (l : List ℕ). l ++ rest) s.is ∙ append_assoc s.head string rest)
      ∙ head_begins levels end (length string) a s.head (string ++ rest) h has ∙ value (parts_of levels end) _ h.info (h.following ++ (string ++ rest))
      ∙ ap (λ (r : Read (List ℕ)). r >>= λ s. Ok (t s.0, s.1)) (string_again end _ a h.info h.following string rest h.argument s.fits)
  | SpellsString.indefinite parts content h e ↦
      let more : List ℕ = content ++ break ∷ rest in
      ap (item_at levels end) (ap (λ (l : List ℕ). l ++ rest) e ∙ ap (λ (l : List ℕ). begin (number_of a) ∷ l) (append_assoc content (break ∷ []) rest))
      ∙ open_begins levels end (begin (number_of a)) a more (start_at a 31 (omega arith) ∙ opens) ∙ indefinite (parts_of levels end) _ more
      ∙ ap (λ (r : Read (List ℕ)). r >>= λ s. Ok (t s.0, s.1)) (parts_again parts (length more) end a string content rest is h (omega arith))
]

simple_again : (levels end first info : ℕ) (t : Tree) (bytes rest : List ℕ) → start_of first ≡ start.Value major_type.Simple info
    → ((parts : Option (List ℕ → Read Tree)) (at : ℕ) (more : List ℕ) → value_at parts end at major_type.Simple info more ≡ Ok (t, more)) → bytes ≡ first ∷ [] → item_at levels end (bytes ++ rest) ≡ Ok (t, rest)
unfolding begun_at
simple_again levels end first info t bytes rest begins value is =
    ap (λ (l : List ℕ). item_at levels end (l ++ rest)) is ∙ item_begins levels end first rest (start.Value major_type.Simple info) begins ∙ value (parts_of levels end) _ rest

pub plain_again : (levels end : ℕ) (t : Tree) (bytes rest : List ℕ) → SpellsPlain bytes t → item_at levels end (bytes ++ rest) ≡ Ok (t, rest)
unfolding value_at indefinite_at start_with
plain_again levels end (unsigned n) bytes rest h = number_again levels end n major_type.Unsigned unsigned bytes rest tt h (λ parts at info more. refl)
plain_again levels end (negative n) bytes rest h = number_again levels end n major_type.Negative negative bytes rest tt h (λ parts at info more. refl)
plain_again levels end (byte_string string) bytes rest h = text_again levels end major_type.Bytes byte_string string bytes rest tt tt refl h (λ parts at info more. refl) (λ parts at more. refl)
plain_again levels end (text string) bytes rest h = text_again levels end major_type.Text text string bytes rest tt tt refl h (λ parts at info more. refl) (λ parts at more. refl)
plain_again levels end (array ts) bytes rest h = absurd h
plain_again levels end (mapping ps) bytes rest h = absurd h
plain_again levels end (tag n t) bytes rest h = absurd h
plain_again levels end (boolean false) bytes rest h = simple_again levels end 0xf4 20 (boolean false) bytes rest refl (λ parts at more. refl) h
plain_again levels end (boolean true) bytes rest h = simple_again levels end 0xf5 21 (boolean true) bytes rest refl (λ parts at more. refl) h
plain_again levels end null bytes rest h = simple_again levels end 0xf6 22 null bytes rest refl (λ parts at more. refl) h

-- ---- arrays, maps and tags

abbrev pub list_of : Trees → List Tree
list_of no_items = []
list_of (item t ts) = t ∷ list_of ts

pub items_list : (ts : Trees) → items_of (list_of ts) ≡ ts
items_list no_items = refl
items_list (item t ts) = ap (item t) (items_list ts)

module _ (Part : List ℕ → Tree → Type 0) (read : List ℕ → Read Tree) (starts : (bytes : List ℕ) (t : Tree) → Part bytes t → Starts bytes)
    (again : (bytes : List ℕ) (t : Tree) (rest : List ℕ) → Part bytes t → read (bytes ++ rest) ≡ Ok (t, rest)) where
  pub items_again : (ts : Trees) (bytes rest : List ℕ) → SpellsItems Part bytes ts → items_at read (count ts) (bytes ++ rest) ≡ Ok (list_of ts, rest)
  unfolding items_at
  items_again no_items bytes rest h = rw h refl
  items_again (item t ts) bytes rest h =
      let front = h.0 in
      let more = h.1 in
      let regrouped : bytes ++ rest ≡ front ++ (more ++ rest) = ap (λ (l : List ℕ). l ++ rest) h.2 ∙ append_assoc front more rest in
      let first = again front t (more ++ rest) h.3 in
      let next = items_again ts more rest h.4 in
      rw (regrouped, first, next) refl

  open_step : (fuel end : ℕ) (bytes : List ℕ) → Starts bytes → open_items_at read (suc fuel) end bytes ≡ (read bytes >>= λ item. open_items_at read fuel end item.1 >>= λ others. Ok (item.0 ∷ others.0, others.1))
  unfolding open_items_at
  open_step fuel end bytes s = rw (s.is, s.goes_on) refl

  open_ends : (fuel end : ℕ) (rest : List ℕ) → open_items_at read (suc fuel) end (break ∷ rest) ≡ Ok ([], rest)
  unfolding open_items_at
  open_ends fuel end rest = refl

  pub open_items_again : (ts : Trees) (fuel end : ℕ) (bytes rest : List ℕ) → SpellsItems Part bytes ts → length (bytes ++ break ∷ rest) ≤ fuel
      → open_items_at read fuel end (bytes ++ break ∷ rest) ≡ Ok (list_of ts, rest)
  open_items_again no_items zero end bytes rest h enough = absurd (omega (arith, length-append bytes (break ∷ rest)))
  open_items_again no_items (suc fuel) end bytes rest h enough = ap (λ (l : List ℕ). open_items_at read (suc fuel) end (l ++ break ∷ rest)) h ∙ open_ends fuel end rest
  open_items_again (item t ts) zero end bytes rest h enough = absurd (omega (arith, length-append bytes (break ∷ rest)))
  open_items_again (item t ts) (suc fuel) end bytes rest h enough =
      let front = h.0 in
      let more = h.1 in
      let s = starts front t h.3 in
      let regrouped : bytes ++ break ∷ rest ≡ front ++ (more ++ break ∷ rest) = ap (λ (l : List ℕ). l ++ break ∷ rest) h.2 ∙ append_assoc front more (break ∷ rest) in
      let long = ap length regrouped in
      let sum = length-append front (more ++ break ∷ rest) in
      let some = ap length s.is in
      let first = again front t (more ++ break ∷ rest) h.3 in
      let next = open_items_again ts fuel end more rest h.4 (omega arith) in
      ap (open_items_at read (suc fuel) end) regrouped ∙ open_step fuel end (front ++ (more ++ break ∷ rest)) (Starts-append front (more ++ break ∷ rest) s) ∙ rw (first, next) refl

  pair_again : (end : ℕ) (acc : List (Tree × Tree)) (k v : Tree) (key value rest : List ℕ) → Part key k → Part value v → has_key k acc ≡ false → pair_at read end acc (key ++ (value ++ rest)) ≡ Ok (put k v acc, rest)
  unfolding pair_at
  pair_again end acc k v key value rest f g fresh =
      let first = again key k (value ++ rest) f in
      let second = again value v rest g in
      rw (first, fresh, second) refl

  pub pairs_again : (ps acc final : List (Tree × Tree)) (end : ℕ) (bytes rest : List ℕ) → SpellsPairs Part bytes ps → Runs acc ps final → pairs_at read end (length ps) acc (bytes ++ rest) ≡ Ok (final, rest)
  unfolding pairs_at
  pairs_again [] acc final end bytes rest h runs = rw h (ap (λ (l : List (Tree × Tree)). Ok (l, rest)) runs)
  pairs_again (p ∷ ps) acc final end bytes rest h runs =
      let key = h.0 in
      let value = h.1 in
      let more = h.2 in
      let regrouped : bytes ++ rest ≡ key ++ (value ++ (more ++ rest)) = ap (λ (l : List ℕ). l ++ rest) h.3 ∙ append_assoc key (value ++ more) rest ∙ ap (λ (l : List ℕ). key ++ l) (append_assoc value more rest) in
      let first = pair_again end acc p.0 p.1 key value (more ++ rest) h.4 h.5 runs.0 in
      let next = pairs_again ps (put p.0 p.1 acc) final end more rest h.6 runs.1 in
      rw (regrouped, first) next

  open_pair_step : (fuel end : ℕ) (acc : List (Tree × Tree)) (bytes : List ℕ) → Starts bytes → open_pairs_at read (suc fuel) end acc bytes ≡ (pair_at read end acc bytes >>= λ more. open_pairs_at read fuel end more.0 more.1)
  unfolding open_pairs_at
  open_pair_step fuel end acc bytes s = rw (s.is, s.goes_on) refl

  open_pairs_end : (fuel end : ℕ) (acc : List (Tree × Tree)) (rest : List ℕ) → open_pairs_at read (suc fuel) end acc (break ∷ rest) ≡ Ok (acc, rest)
  unfolding open_pairs_at
  open_pairs_end fuel end acc rest = refl

  pub open_pairs_again : (ps acc final : List (Tree × Tree)) (fuel end : ℕ) (bytes rest : List ℕ) → SpellsPairs Part bytes ps → Runs acc ps final → length (bytes ++ break ∷ rest) ≤ fuel
      → open_pairs_at read fuel end acc (bytes ++ break ∷ rest) ≡ Ok (final, rest)
  open_pairs_again [] acc final zero end bytes rest h runs enough = absurd (omega (arith, length-append bytes (break ∷ rest)))
  open_pairs_again [] acc final (suc fuel) end bytes rest h runs enough =
      ap (λ (l : List ℕ). open_pairs_at read (suc fuel) end acc (l ++ break ∷ rest)) h ∙ open_pairs_end fuel end acc rest ∙ ap (λ (l : List (Tree × Tree)). Ok (l, rest)) runs
  open_pairs_again (p ∷ ps) acc final zero end bytes rest h runs enough = absurd (omega (arith, length-append bytes (break ∷ rest)))
  open_pairs_again (p ∷ ps) acc final (suc fuel) end bytes rest h runs enough =
      let key = h.0 in
      let value = h.1 in
      let more = h.2 in
      let s = starts key p.0 h.4 in
      let regrouped : bytes ++ break ∷ rest ≡ key ++ (value ++ (more ++ break ∷ rest)) =
      ap (λ (l : List ℕ). l ++ break ∷ rest) h.3 ∙ append_assoc key (value ++ more) (break ∷ rest) ∙ ap (λ (l : List ℕ). key ++ l) (append_assoc value more (break ∷ rest)) in
      let long = ap length regrouped in
      let sum = length-append key (value ++ (more ++ break ∷ rest)) in
      let sum2 = length-append value (more ++ break ∷ rest) in
      let some = ap length s.is in
      let first = pair_again end acc p.0 p.1 key value (more ++ break ∷ rest) h.4 h.5 runs.0 in
      let next = open_pairs_again ps (put p.0 p.1 acc) final fuel end more rest h.6 runs.1 (omega arith) in
      ap (open_pairs_at read (suc fuel) end acc) regrouped ∙ open_pair_step fuel end acc (key ++ (value ++ (more ++ break ∷ rest))) (Starts-append key (value ++ (more ++ break ∷ rest)) s)
      ∙ ap (λ (r : Read (List (Tree × Tree))). r >>= λ more. open_pairs_at read fuel end more.0 more.1) first ∙ next
