-- What is read was spelled, however deep it nests.
use Rattle.std.proofs.Common.{◌≡◌, ℕ, zero, suc, ◌+◌, ◌*◌, ◌-◌, ◌/◌, ◌%◌, ◌<◌, ◌≤◌, List, [], ◌∷◌, ◌++◌, length, Option, Ok, refl, sym, ap, ◌∙◌, subst, inl, inr, arith, append_assoc}
use Rattle.std.proofs.lemmas.Bool.{cases_eq}
use Rattle.cbor_profile.specs.declared.fault.CborFault.TheVariants.{Short, Reserved, Unsupported, Deep}
use Rattle.cbor_profile.specs.declared.major.Major.{Major}
use Rattle.cbor_profile.specs.declared.major.Major.TheVariants as major_type
use Rattle.cbor_profile.specs.declared.head.Start.{Start}
use Rattle.cbor_profile.specs.Parts.{number_of}
use Rattle.cbor_profile.specs.Tree.{Tree, unsigned, negative, byte_string, text, array, mapping, tag, items_of, pairs_of, count}
use Rattle.cbor_profile.specs.Spelling.{begin, break, IsHead, SpellsString, Encloses, SpellsPlain, SpellsWithin}
use Rattle.cbor_profile.specs.ItemReading.{parts_of, Read, ◌>>=◌, argument_at, string_at, parts_at, items_at, open_items_at, pairs_at, open_pairs_at, major_of, start_of, simple, value_at, indefinite_at, begun_at, item_at}
use Rattle.cbor_profile.proofs.Results.{done, bind_ok, ok_is, not_both}
use Rattle.cbor_profile.proofs.Firsts.{HasArgument, item_begins, nothing_short}
use Rattle.cbor_profile.proofs.Beginnings.{AreBytes, bytes_rest, byte_is, HasOpen, Begins, begins}
use Rattle.cbor_profile.proofs.Ordered.{runs_in_order}
use Rattle.cbor_profile.proofs.Spellings.{plain_within, nest_within}
use Rattle.cbor_profile.proofs.Taken.{Argument, argument_taken, string_taken, parts_taken, one_part, Took, Takes, items_taken, open_items_taken, pairs_taken, open_pairs_taken}

-- what is known of the parts of an item
abbrev pub Inner : ℕ → ℕ → Type 0
Inner zero end = Unit {0}
Inner (suc levels) end = Takes (SpellsWithin levels) (item_at levels end)

abbrev Spelled : ℕ → List ℕ → Tree × List ℕ → Type 0
Spelled levels bytes x = Took (SpellsWithin levels) bytes x

abbrev head_made : (major info n : ℕ) (bytes rest : List ℕ) (arg : Argument info n bytes rest) → IsHead major n ((32 * major + info) ∷ arg.following)
head_made major info n bytes rest arg = record { info = info; following = arg.following; argument = arg.argument; is = refl }

number_taken : (levels end major info : ℕ) (more : List ℕ) (t : ℕ → Tree) (x : Tree × List ℕ) → info < 28 → ((n : ℕ) (head : List ℕ) → IsHead major n head → SpellsPlain head (t n))
    → (argument_at end info more >>= λ n. Ok (t n.0, n.1)) ≡ Ok x → Spelled levels ((32 * major + info) ∷ more) x
number_taken levels end major info more t x lt plain e =
    let b = bind_ok (argument_at end info more) (λ n. Ok (t n.0, n.1)) x e in
    let arg = argument_taken end info more b.0 lt b.1 in
    let made : Spelled levels ((32 * major + info) ∷ more) (t b.0.0, b.0.1) = record {
      front = (32 * major + info) ∷ arg.following;
      is = ap (λ (l : List ℕ). (32 * major + info) ∷ l) arg.is;
      part = plain_within levels _ (t b.0.0) (plain b.0.0 _ (head_made major info b.0.0 more b.0.1 arg));
    } in
    subst (Spelled levels ((32 * major + info) ∷ more)) (ok_is (t b.0.0, b.0.1) x b.2) made

text_taken : (levels end at : ℕ) (a : Major) (info : ℕ) (more : List ℕ) (t : List ℕ → Tree) (x : Tree × List ℕ) → info < 28 → ((s bytes : List ℕ) → SpellsString (number_of a) s bytes → SpellsPlain bytes (t s))
    → (string_at end at a info more >>= λ s. Ok (t s.0, s.1)) ≡ Ok x → Spelled levels ((32 * number_of a + info) ∷ more) x
text_taken levels end at a info more t x lt plain e =
    let b = bind_ok (string_at end at a info more) (λ s. Ok (t s.0, s.1)) x e in
    let s = string_taken end at a info more b.0 lt b.1 in
    let made : Spelled levels ((32 * number_of a + info) ∷ more) (t b.0.0, b.0.1) = record {
      front = (32 * number_of a + info) ∷ (s.following ++ b.0.0);
      is = ap (λ (l : List ℕ). (32 * number_of a + info) ∷ l) (s.is ∙ sym (append_assoc s.following b.0.0 b.0.1));
      part = plain_within levels _ (t b.0.0) (plain b.0.0 _ (SpellsString.definite (one_part (number_of a) info more b.0.0 b.0.1 s)));
    } in
    subst (Spelled levels ((32 * number_of a + info) ∷ more)) (ok_is (t b.0.0, b.0.1) x b.2) made

array_taken : (levels end info : ℕ) (more : List ℕ) (x : Tree × List ℕ) → Takes (SpellsWithin levels) (item_at levels end) → AreBytes more → info < 28
    → (argument_at end info more >>= λ n. items_at (item_at levels end) n.0 n.1 >>= λ ts. Ok (array (items_of ts.0), ts.1)) ≡ Ok x → Spelled (suc levels) ((32 * 4 + info) ∷ more) x
array_taken levels end info more x inner fits lt e =
    let read = item_at levels end in
    let b = bind_ok (argument_at end info more) (λ n. items_at read n.0 n.1 >>= λ ts. Ok (array (items_of ts.0), ts.1)) x e in
    let c = bind_ok (items_at read b.0.0 b.0.1) (λ ts. Ok (array (items_of ts.0), ts.1)) x b.2 in
    let arg = argument_taken end info more b.0 lt b.1 in
    let items = items_taken (SpellsWithin levels) read inner b.0.0 b.0.1 c.0 (bytes_rest more arg.following b.0.1 fits arg.is) c.1 in
    let head : List ℕ = (32 * 4 + info) ∷ arg.following in
    let counted : IsHead 4 (count (items_of c.0.0)) head = subst (λ (n : ℕ). IsHead 4 n head) (sym items.1) (head_made 4 info b.0.0 more b.0.1 arg) in
    let made : Spelled (suc levels) ((32 * 4 + info) ∷ more) (array (items_of c.0.0), c.0.1) = record {
      front = head ++ items.0.content;
      is = ap (λ (l : List ℕ). (32 * 4 + info) ∷ l) (arg.is ∙ ap (λ (l : List ℕ). arg.following ++ l) items.0.is) ∙ sym (append_assoc head items.0.content c.0.1);
      part = nest_within levels _ (array (items_of c.0.0)) (items.0.content, Encloses.definite head counted refl, items.0.items);
    } in
    subst (Spelled (suc levels) ((32 * 4 + info) ∷ more)) (ok_is (array (items_of c.0.0), c.0.1) x c.2) made

map_taken : (levels end info : ℕ) (more : List ℕ) (x : Tree × List ℕ) → Takes (SpellsWithin levels) (item_at levels end) → AreBytes more → info < 28
    → (argument_at end info more >>= λ n. pairs_at (item_at levels end) end n.0 [] n.1 >>= λ ps. Ok (mapping (pairs_of ps.0), ps.1)) ≡ Ok x → Spelled (suc levels) ((32 * 5 + info) ∷ more) x
map_taken levels end info more x inner fits lt e =
    let read = item_at levels end in
    let b = bind_ok (argument_at end info more) (λ n. pairs_at read end n.0 [] n.1 >>= λ ps. Ok (mapping (pairs_of ps.0), ps.1)) x e in
    let c = bind_ok (pairs_at read end b.0.0 [] b.0.1) (λ ps. Ok (mapping (pairs_of ps.0), ps.1)) x b.2 in
    let arg = argument_taken end info more b.0 lt b.1 in
    let pairs = pairs_taken (SpellsWithin levels) read inner b.0.0 end [] b.0.1 c.0 (bytes_rest more arg.following b.0.1 fits arg.is) c.1 in
    let order = runs_in_order pairs.0.read [] c.0.0 tt pairs.0.runs in
    let head : List ℕ = (32 * 5 + info) ∷ arg.following in
    let counted : IsHead 5 (length pairs.0.read) head = subst (λ (n : ℕ). IsHead 5 n head) (sym pairs.1) (head_made 5 info b.0.0 more b.0.1 arg) in
    let made : Spelled (suc levels) ((32 * 5 + info) ∷ more) (mapping (pairs_of c.0.0), c.0.1) = record {
      front = head ++ pairs.0.content;
      is = ap (λ (l : List ℕ). (32 * 5 + info) ∷ l) (arg.is ∙ ap (λ (l : List ℕ). arg.following ++ l) pairs.0.is) ∙ sym (append_assoc head pairs.0.content c.0.1);
      part =
          nest_within levels _ (mapping (pairs_of c.0.0))
          (pairs.0.content, pairs.0.read, Encloses.definite head counted refl, pairs.0.pairs, record { sorted = c.0.0; same = order.1; is = refl; rise = order.0 });
    } in
    subst (Spelled (suc levels) ((32 * 5 + info) ∷ more)) (ok_is (mapping (pairs_of c.0.0), c.0.1) x c.2) made

tag_taken : (levels end info : ℕ) (more : List ℕ) (x : Tree × List ℕ) → Takes (SpellsWithin levels) (item_at levels end) → AreBytes more → info < 28
    → (argument_at end info more >>= λ n. item_at levels end n.1 >>= λ t. Ok (tag n.0 t.0, t.1)) ≡ Ok x → Spelled (suc levels) ((32 * 6 + info) ∷ more) x
tag_taken levels end info more x inner fits lt e =
    let b = bind_ok (argument_at end info more) (λ n. item_at levels end n.1 >>= λ t. Ok (tag n.0 t.0, t.1)) x e in
    let c = bind_ok (item_at levels end b.0.1) (λ t. Ok (tag b.0.0 t.0, t.1)) x b.2 in
    let arg = argument_taken end info more b.0 lt b.1 in
    let inside = inner b.0.1 c.0 (bytes_rest more arg.following b.0.1 fits arg.is) c.1 in
    let head : List ℕ = (32 * 6 + info) ∷ arg.following in
    let made : Spelled (suc levels) ((32 * 6 + info) ∷ more) (tag b.0.0 c.0.0, c.0.1) = record {
      front = head ++ inside.front;
      is = ap (λ (l : List ℕ). (32 * 6 + info) ∷ l) (arg.is ∙ ap (λ (l : List ℕ). arg.following ++ l) inside.is) ∙ sym (append_assoc head inside.front c.0.1);
      part = nest_within levels _ (tag b.0.0 c.0.0) (head, inside.front, head_made 6 info b.0.0 more b.0.1 arg, refl, inside.part);
    } in
    subst (Spelled (suc levels) ((32 * 6 + info) ∷ more)) (ok_is (tag b.0.0 c.0.0, c.0.1) x c.2) made

value_taken : (levels end at : ℕ) (a : Major) (info : ℕ) (more : List ℕ) (x : Tree × List ℕ) → Inner levels end → AreBytes more → HasArgument a → info < 28 → value_at (parts_of levels end) end at a info more ≡ Ok x
    → Spelled levels ((32 * number_of a + info) ∷ more) x
unfolding value_at
value_taken levels end at major_type.Unsigned info more x inner fits has lt e = number_taken levels end 0 info more unsigned x lt (λ n head h. h) e
value_taken levels end at major_type.Negative info more x inner fits has lt e = number_taken levels end 1 info more negative x lt (λ n head h. h) e
value_taken levels end at major_type.Bytes info more x inner fits has lt e = text_taken levels end at major_type.Bytes info more byte_string x lt (λ s bytes h. h) e
value_taken levels end at major_type.Text info more x inner fits has lt e = text_taken levels end at major_type.Text info more text x lt (λ s bytes h. h) e
value_taken zero end at major_type.Array info more x inner fits has lt e = absurd (not_both x (Deep at) (sym e))
value_taken (suc levels) end at major_type.Array info more x inner fits has lt e = array_taken levels end info more x inner fits lt e
value_taken zero end at major_type.Map info more x inner fits has lt e = absurd (not_both x (Deep at) (sym e))
value_taken (suc levels) end at major_type.Map info more x inner fits has lt e = map_taken levels end info more x inner fits lt e
value_taken zero end at major_type.Tag info more x inner fits has lt e = absurd (not_both x (Deep at) (sym e))
value_taken (suc levels) end at major_type.Tag info more x inner fits has lt e = tag_taken levels end info more x inner fits lt e
value_taken levels end at major_type.Simple info more x inner fits has lt e = absurd has

open_text_taken : (levels end : ℕ) (a : Major) (more : List ℕ) (t : List ℕ → Tree) (x : Tree × List ℕ) → ((s bytes : List ℕ) → SpellsString (number_of a) s bytes → SpellsPlain bytes (t s))
    → (parts_at (length more) end a more >>= λ s. Ok (t s.0, s.1)) ≡ Ok x → Spelled levels (begin (number_of a) ∷ more) x
open_text_taken levels end a more t x plain e =
    let b = bind_ok (parts_at (length more) end a more) (λ s. Ok (t s.0, s.1)) x e in
    let s = parts_taken (length more) end a more b.0 b.1 in
    let made : Spelled levels (begin (number_of a) ∷ more) (t b.0.0, b.0.1) = record {
      front = begin (number_of a) ∷ (s.content ++ break ∷ []);
      is = ap (λ (l : List ℕ). begin (number_of a) ∷ l) (s.is ∙ sym (append_assoc s.content (break ∷ []) b.0.1));
      part = plain_within levels _ (t b.0.0) (plain b.0.0 _ (SpellsString.indefinite s.parts s.content s.are refl));
    } in
    subst (Spelled levels (begin (number_of a) ∷ more)) (ok_is (t b.0.0, b.0.1) x b.2) made

open_array_taken : (levels end : ℕ) (more : List ℕ) (x : Tree × List ℕ) → Takes (SpellsWithin levels) (item_at levels end) → AreBytes more
    → (open_items_at (item_at levels end) (length more) end more >>= λ ts. Ok (array (items_of ts.0), ts.1)) ≡ Ok x → Spelled (suc levels) (begin 4 ∷ more) x
open_array_taken levels end more x inner fits e =
    let b = bind_ok (open_items_at (item_at levels end) (length more) end more) (λ ts. Ok (array (items_of ts.0), ts.1)) x e in
    let items = open_items_taken (SpellsWithin levels) (item_at levels end) inner (length more) end more b.0 fits b.1 in
    let made : Spelled (suc levels) (begin 4 ∷ more) (array (items_of b.0.0), b.0.1) = record {
      front = begin 4 ∷ (items.content ++ break ∷ []);
      is = ap (λ (l : List ℕ). begin 4 ∷ l) (items.is ∙ sym (append_assoc items.content (break ∷ []) b.0.1));
      part = nest_within levels _ (array (items_of b.0.0)) (items.content, Encloses.indefinite refl, items.items);
    } in
    subst (Spelled (suc levels) (begin 4 ∷ more)) (ok_is (array (items_of b.0.0), b.0.1) x b.2) made

open_map_taken : (levels end : ℕ) (more : List ℕ) (x : Tree × List ℕ) → Takes (SpellsWithin levels) (item_at levels end) → AreBytes more
    → (open_pairs_at (item_at levels end) (length more) end [] more >>= λ ps. Ok (mapping (pairs_of ps.0), ps.1)) ≡ Ok x → Spelled (suc levels) (begin 5 ∷ more) x
open_map_taken levels end more x inner fits e =
    let b = bind_ok (open_pairs_at (item_at levels end) (length more) end [] more) (λ ps. Ok (mapping (pairs_of ps.0), ps.1)) x e in
    let pairs = open_pairs_taken (SpellsWithin levels) (item_at levels end) inner (length more) end [] more b.0 fits b.1 in
    let order = runs_in_order pairs.read [] b.0.0 tt pairs.runs in
    let made : Spelled (suc levels) (begin 5 ∷ more) (mapping (pairs_of b.0.0), b.0.1) = record {
      front = begin 5 ∷ (pairs.content ++ break ∷ []);
      is = ap (λ (l : List ℕ). begin 5 ∷ l) (pairs.is ∙ sym (append_assoc pairs.content (break ∷ []) b.0.1));
      part =
          nest_within levels _ (mapping (pairs_of b.0.0))
          (pairs.content, pairs.read, Encloses.indefinite refl, pairs.pairs, record { sorted = b.0.0; same = order.1; is = refl; rise = order.0 });
    } in
    subst (Spelled (suc levels) (begin 5 ∷ more)) (ok_is (mapping (pairs_of b.0.0), b.0.1) x b.2) made

open_taken : (levels end at : ℕ) (a : Major) (more : List ℕ) (x : Tree × List ℕ) → Inner levels end → AreBytes more → HasOpen a → indefinite_at (parts_of levels end) end at a more ≡ Ok x
    → Spelled levels (begin (number_of a) ∷ more) x
unfolding indefinite_at
open_taken levels end at major_type.Bytes more x inner fits has e = open_text_taken levels end major_type.Bytes more byte_string x (λ s bytes h. h) e
open_taken levels end at major_type.Text more x inner fits has e = open_text_taken levels end major_type.Text more text x (λ s bytes h. h) e
open_taken zero end at major_type.Array more x inner fits has e = absurd (not_both x (Deep at) (sym e))
open_taken (suc levels) end at major_type.Array more x inner fits has e = open_array_taken levels end more x inner fits e
open_taken zero end at major_type.Map more x inner fits has e = absurd (not_both x (Deep at) (sym e))
open_taken (suc levels) end at major_type.Map more x inner fits has e = open_map_taken levels end more x inner fits e
open_taken levels end at major_type.Unsigned more x inner fits has e = absurd has
open_taken levels end at major_type.Negative more x inner fits has e = absurd has
open_taken levels end at major_type.Tag more x inner fits has e = absurd has
open_taken levels end at major_type.Simple more x inner fits has e = absurd has

-- the simple values 20, 21 and 22
simple_is : (info : ℕ) → 20 ≤ info → info ≤ 22 → SpellsPlain ((32 * 7 + info) ∷ []) (simple info)
simple_is info least most = elim (cases_eq info 20) [
  | inl a ↦ rw a refl
  | inr other ↦ elim (cases_eq info 21) [
    | inl b ↦ rw b refl
    | inr third ↦ let c : info ≡ 22 = omega arith in rw c refl
  ]
]

simple_taken : (levels info : ℕ) (more : List ℕ) (x : Tree × List ℕ) (t : Tree) → SpellsPlain ((32 * 7 + info) ∷ []) t → done (t, more) ≡ done x → Spelled levels ((32 * 7 + info) ∷ more) x
simple_taken levels info more x t plain e =
    let made : Spelled levels ((32 * 7 + info) ∷ more) (t, more) = record { front = (32 * 7 + info) ∷ []; is = refl; part = plain_within levels _ t plain } in
    subst (Spelled levels ((32 * 7 + info) ∷ more)) (ok_is (t, more) x e) made

simple_value : (parts : Option (List ℕ → Read Tree)) (end at info : ℕ) (more : List ℕ) → value_at parts end at major_type.Simple info more ≡ Ok (simple info, more)
unfolding value_at
simple_value parts end at info more = refl

begun_taken : (levels end at : ℕ) (a : Major) (info : ℕ) (s : Start) (more : List ℕ) (x : Tree × List ℕ) → Inner levels end → AreBytes more → Begins a info s → begun_at (parts_of levels end) end at s more ≡ Ok x
    → Spelled levels ((32 * number_of a + info) ∷ more) x
unfolding begun_at
begun_taken levels end at a info s more x inner fits kind e = elim kind [
  | Begins.value has lt is ↦ value_taken levels end at a info more x inner fits has lt (sym (ap (λ (t : Start). begun_at (parts_of levels end) end at t more) is) ∙ e)
  | Begins.indefinite has last is ↦
      subst (λ (i : ℕ). Spelled levels ((32 * number_of a + i) ∷ more) x) (sym last)
      (open_taken levels end at a more x inner fits has (sym (ap (λ (t : Start). begun_at (parts_of levels end) end at t more) is) ∙ e))
  | Begins.simple same least most is ↦
      subst (λ (b : Major). Spelled levels ((32 * number_of b + info) ∷ more) x) (sym same)
      (simple_taken levels info more x (simple info) (simple_is info least most)
      (sym (simple_value (parts_of levels end) end at info more) ∙ sym (ap (λ (t : Start). begun_at (parts_of levels end) end at t more) is) ∙ e))
  | Begins.unsupported same which is ↦ absurd (not_both x (Unsupported at) (sym e ∙ ap (λ (t : Start). begun_at (parts_of levels end) end at t more) is))
  | Begins.reserved least which is ↦ absurd (not_both x (Reserved at) (sym e ∙ ap (λ (t : Start). begun_at (parts_of levels end) end at t more) is))
]

item_taken : (levels end : ℕ) → Inner levels end → Takes (SpellsWithin levels) (item_at levels end)
item_taken levels end inner [] x fits e = absurd (not_both x (Short end) (sym e ∙ nothing_short levels end))
item_taken levels end inner (first ∷ more) x fits e =
    let a : Major = major_of (first / 32) in
    let begun = sym (item_begins levels end first more (start_of first) refl) ∙ e in
    let made = begun_taken levels end (end - suc (length more)) a (first % 32) (start_of first) more x inner fits.1 (begins a (first % 32) (omega arith)) begun in
    subst (λ (b : ℕ). Spelled levels (b ∷ more) x) (sym (byte_is first fits.0)) made

pub within_taken : (levels end : ℕ) → Takes (SpellsWithin levels) (item_at levels end)
within_taken zero end = item_taken zero end tt
within_taken (suc levels) end = item_taken (suc levels) end (within_taken levels end)
