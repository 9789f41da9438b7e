-- What is read was spelled.
use Rattle.std.proofs.Common.{◌≡◌, ℕ, zero, suc, ◌+◌, ◌*◌, ◌-◌, ◌/◌, ◌%◌, ◌<◌, ◌≤◌, true, false, cond, ltb, List, [], ◌∷◌, ◌++◌, length, take, drop, Ok, Err, refl, sym, ap, ◌∙◌, subst, inl, inr, arith, append_assoc}
use Rattle.std.specs.Prelude.{nat_lt, ◌==◌, not}
use Rattle.std.specs.Int.{byte_len, from_be_bytes}
use Rattle.std.specs.Str.{is_utf8}
use Rattle.std.proofs.lemmas.Bool.{ltb-true, ltb-false, eqb-true, not-false, and_parts}
use Rattle.std.proofs.lemmas.List.{take-append-drop, length-take}
use Rattle.std.proofs.lemmas.Str.{IsUtf8-from_is_utf8}
use Rattle.cbor_profile.specs.declared.fault.CborFault.TheVariants.{Short, Reserved, NotUtf8, Duplicate}
use Rattle.cbor_profile.specs.declared.major.Major.{Major}
use Rattle.cbor_profile.specs.declared.major.Major.TheVariants as major_type
use Rattle.cbor_profile.specs.Parts.{number_of}
use Rattle.cbor_profile.specs.Tree.{Tree, items_of, count}
use Rattle.cbor_profile.specs.Spelling.{width, break, IsArgument, itself, follows, Fits, IsString, AreParts, SpellsItems, SpellsPairs}
use Rattle.cbor_profile.specs.Keys.{has_key, put}
use Rattle.cbor_profile.specs.ItemReading.{Read, ◌>>=◌, argument_at, number_at, content_at, checked, string_at, is_part, parts_at, items_at, open_items_at, pair_at, pairs_at, open_pairs_at}
use Rattle.cbor_profile.proofs.Results.{bind_ok, ok_is, not_both, chosen, done, broken}
use Rattle.cbor_profile.proofs.Beginnings.{AreBytes, bytes_rest}
use Rattle.cbor_profile.proofs.Ordered.{Runs}

-- ---- heads and strings

pub record Argument (info n : ℕ) (bytes rest : List ℕ) : Type 0 where
  pub following : List ℕ
  pub is : bytes ≡ following ++ rest
  pub argument : IsArgument info n following

number_taken : (end info : ℕ) (bytes : List ℕ) (x : ℕ × List ℕ) → 24 ≤ info → info < 28 → number_at end (width info) bytes ≡ Ok x → Argument info x.0 bytes x.1
number_taken end info bytes x least most e = elim (chosen (ltb (length bytes) (byte_len (width info))) (Err (Short end)) (Ok (from_be_bytes (width info) (take (byte_len (width info)) bytes), drop (byte_len (width info)) bytes)) (Ok x) e) [
  | inl short ↦ absurd (not_both x (Short end) (sym short.1))
  | inr long ↦
      let enough = ltb-false _ _ long.0 in
      let is = ok_is (from_be_bytes (width info) (take (byte_len (width info)) bytes), drop (byte_len (width info)) bytes) x long.1 in
      let len : length (take (byte_len (width info)) bytes) ≡ byte_len (width info) = omega (arith, length-take (byte_len (width info)) bytes) in
      record {
        following = take (byte_len (width info)) bytes;
        is = sym (take-append-drop (byte_len (width info)) bytes) ∙ ap (λ (p : ℕ × List ℕ). take (byte_len (width info)) bytes ++ p.1) is;
        argument = follows least most len (sym (ap (λ (p : ℕ × List ℕ). p.0) is));
      }
]

pub argument_taken : (end info : ℕ) (bytes : List ℕ) (x : ℕ × List ℕ) → info < 28 → argument_at end info bytes ≡ Ok x → Argument info x.0 bytes x.1
unfolding argument_at
argument_taken end info bytes x most e = elim (chosen (ltb info 24) (Ok (info, bytes)) (number_at end (width info) bytes) (Ok x) e) [
  | inl small ↦
      let is = ok_is (info, bytes) x small.1 in
      record { following = []; is = ap (λ (p : ℕ × List ℕ). p.1) is; argument = itself (ltb-true _ _ small.0) (sym (ap (λ (p : ℕ × List ℕ). p.0) is)) refl }
  | inr large ↦ number_taken end info bytes x (ltb-false _ _ large.0) most large.1
]

pub content_taken : (end n : ℕ) (bytes : List ℕ) (x : List ℕ × List ℕ) → content_at end n bytes ≡ Ok x → (length x.0 ≡ n) × (bytes ≡ x.0 ++ x.1)
content_taken end n bytes x e = elim (chosen (ltb (length bytes) n) (Err (Short end)) (Ok (take n bytes, drop n bytes)) (Ok x) e) [
  | inl short ↦ absurd (not_both x (Short end) (sym short.1))
  | inr long ↦
      let enough = ltb-false _ _ long.0 in
      let is = ok_is (take n bytes, drop n bytes) x long.1 in
      let len : length (take n bytes) ≡ n = omega (arith, length-take n bytes) in
      (ap (λ (p : List ℕ × List ℕ). length p.0) (sym is) ∙ len, sym (take-append-drop n bytes) ∙ ap (λ (p : List ℕ × List ℕ). p.0 ++ p.1) is)
]

text_checked : (at : ℕ) (s x : List ℕ × List ℕ) → cond (not (is_utf8 s.0)) (broken (NotUtf8 at)) (done s) ≡ Ok x → (s ≡ x) × Fits 3 s.0
text_checked at s x e = elim (chosen (not (is_utf8 s.0)) (broken (NotUtf8 at)) (done s) (Ok x) e) [
  | inl bad ↦ absurd (not_both x (NotUtf8 at) (sym bad.1))
  | inr good ↦ (ok_is s x good.1, λ three. IsUtf8-from_is_utf8 s.0 (not-false _ good.0))
]

other_checked : (n : ℕ) (s x : List ℕ × List ℕ) → (n ≡ 3 → ⊥) → done s ≡ Ok x → (s ≡ x) × Fits n s.0
other_checked n s x other e = (ok_is s x e, λ three. absurd (other three))

checked_taken : (a : Major) (at : ℕ) (s x : List ℕ × List ℕ) → checked a at s ≡ Ok x → (s ≡ x) × Fits (number_of a) s.0
checked_taken major_type.Unsigned at s x e = other_checked 0 s x (λ n. omega arith) e
checked_taken major_type.Negative at s x e = other_checked 1 s x (λ n. omega arith) e
checked_taken major_type.Bytes at s x e = other_checked 2 s x (λ n. omega arith) e
checked_taken major_type.Text at s x e = text_checked at s x e
checked_taken major_type.Array at s x e = other_checked 4 s x (λ n. omega arith) e
checked_taken major_type.Map at s x e = other_checked 5 s x (λ n. omega arith) e
checked_taken major_type.Tag at s x e = other_checked 6 s x (λ n. omega arith) e
checked_taken major_type.Simple at s x e = other_checked 7 s x (λ n. omega arith) e

pub record String (major info : ℕ) (bytes string rest : List ℕ) : Type 0 where
  pub following : List ℕ
  pub is : bytes ≡ following ++ (string ++ rest)
  pub argument : IsArgument info (length string) following
  pub fits : Fits major string

pub string_taken : (end at : ℕ) (a : Major) (info : ℕ) (bytes : List ℕ) (x : List ℕ × List ℕ) → info < 28 → string_at end at a info bytes ≡ Ok x → String (number_of a) info bytes x.0 x.1
unfolding string_at
string_taken end at a info bytes x most e =
    let n = bind_ok (argument_at end info bytes) (λ n. content_at end n.0 n.1 >>= λ s. checked a at s) x e in
    let s = bind_ok (content_at end n.0.0 n.0.1) (λ s. checked a at s) x n.2 in
    let c = checked_taken a at s.0 x s.2 in
    let first = argument_taken end info bytes n.0 most n.1 in
    let second = content_taken end n.0.0 n.0.1 s.0 s.1 in
    let len : length x.0 ≡ n.0.0 = ap (λ (p : List ℕ × List ℕ). length p.0) (sym c.0) ∙ second.0 in
    record {
      following = first.following;
      is = first.is ∙ ap (λ (l : List ℕ). first.following ++ l) (second.1 ∙ ap (λ (p : List ℕ × List ℕ). p.0 ++ p.1) c.0);
      argument = subst (λ (m : ℕ). IsArgument info m first.following) (sym len) first.argument;
      fits = subst (λ (p : List ℕ × List ℕ). Fits (number_of a) p.0) c.0 c.1;
    }

pub part_is : (a : Major) (first : ℕ) → is_part a first ≡ true → (first ≡ 32 * number_of a + first % 32) × (first % 32 < 28)
part_is a first e =
    let both = and_parts (first / 32 == number_of a) (nat_lt (first % 32) 28) e in
    let q = eqb-true _ _ both.0 in
    (omega arith, ltb-true _ _ both.1)

pub record Parts (major : ℕ) (bytes string rest : List ℕ) : Type 0 where
  pub parts : List (List ℕ)
  pub content : List ℕ
  pub are : AreParts major parts string content
  pub is : bytes ≡ content ++ break ∷ rest

pub one_part : (major info : ℕ) (bytes string rest : List ℕ) (s : String major info bytes string rest) → IsString major string ((32 * major + info) ∷ (s.following ++ string))
one_part major info bytes string rest s = record { head = (32 * major + info) ∷ s.following; counted = record { info = info; following = s.following; argument = s.argument; is = refl }; fits = s.fits; is = refl }

abbrev parts_rest : ℕ → ℕ → Major → List ℕ × List ℕ → Read (List ℕ)
parts_rest fuel end a string = parts_at fuel end a string.1 >>= λ others. Ok (string.0 ++ others.0, others.1)

next_taken : (fuel end : ℕ) (a : Major) (first : ℕ) (bytes : List ℕ) (x : List ℕ × List ℕ) → is_part a first ≡ true → ((more : List ℕ) (y : List ℕ × List ℕ) → parts_at fuel end a more ≡ Ok y → Parts (number_of a) more y.0 y.1) → (string_at end (end - suc (length bytes)) a (first % 32) bytes >>= parts_rest fuel end a) ≡ Ok x
    → Parts (number_of a) (first ∷ bytes) x.0 x.1
next_taken fuel end a first bytes x is rec e =
    let kind = part_is a first is in
    let s = bind_ok (string_at end (end - suc (length bytes)) a (first % 32) bytes) (parts_rest fuel end a) x e in
    let o = bind_ok (parts_at fuel end a s.0.1) (λ others. Ok (s.0.0 ++ others.0, others.1)) x s.2 in
    let made = ok_is (s.0.0 ++ o.0.0, o.0.1) x o.2 in
    let one = string_taken end (end - suc (length bytes)) a (first % 32) bytes s.0 kind.1 s.1 in
    let more = rec s.0.1 o.0 o.1 in
    let front : List ℕ = (32 * number_of a + first % 32) ∷ (one.following ++ s.0.0) in record {
      parts = s.0.0 ∷ more.parts;
      content = front ++ more.content;
      are = (front, more.content, o.0.0, ap (λ (p : List ℕ × List ℕ). p.0) (sym made), refl, one_part (number_of a) (first % 32) bytes s.0.0 s.0.1 one, more.are);
      is =
          ap (λ (b : ℕ). b ∷ bytes) kind.0
          ∙ ap (λ (l : List ℕ). (32 * number_of a + first % 32) ∷ l) (one.is ∙ ap (λ (l : List ℕ). one.following ++ (s.0.0 ++ l)) more.is ∙ sym (append_assoc one.following s.0.0 (more.content ++ break ∷ o.0.1)))
          ∙ sym (append_assoc front more.content (break ∷ o.0.1)) ∙ ap (λ (p : List ℕ × List ℕ). (front ++ more.content) ++ break ∷ p.1) made;
    }

pub parts_taken : (fuel end : ℕ) (a : Major) (bytes : List ℕ) (x : List ℕ × List ℕ) → parts_at fuel end a bytes ≡ Ok x → Parts (number_of a) bytes x.0 x.1
unfolding parts_at
parts_taken zero end a bytes x e = absurd (not_both x (Short end) (sym e))
parts_taken (suc fuel) end a [] x e = absurd (not_both x (Short end) (sym e))
parts_taken (suc fuel) end a (first ∷ bytes) x e = elim (chosen (first == break) (Ok ([], bytes)) _ (Ok x) e) [
  | inl ends ↦
      let is = ok_is ([], bytes) x ends.1 in record {
        parts = [];
        content = [];
        are = (ap (λ (p : List ℕ × List ℕ). p.0) (sym is), refl);
        is = ap (λ (b : ℕ). b ∷ bytes) (eqb-true first break ends.0) ∙ ap (λ (p : List ℕ × List ℕ). break ∷ p.1) is;
      }
  | inr goes ↦ elim (chosen (not (is_part a first)) (Err (Reserved (end - suc (length bytes)))) _ (Ok x) goes.1) [
    | inl other ↦ absurd (not_both x _ (sym other.1))
    | inr part ↦ next_taken fuel end a first bytes x (not-false _ part.0) (parts_taken fuel end a) part.1
  ]
]

-- ---- items and pairs

pub record Took (Part : List ℕ → Tree → Type 0) (bytes : List ℕ) (x : Tree × List ℕ) : Type 0 where
  pub front : List ℕ
  pub is : bytes ≡ front ++ x.1
  pub part : Part front x.0

abbrev pub Takes : (List ℕ → Tree → Type 0) → (List ℕ → Read Tree) → Type 0
Takes Part read = (bytes : List ℕ) (x : Tree × List ℕ) → AreBytes bytes → read bytes ≡ Ok x → Took Part bytes x

pub record Items (Part : List ℕ → Tree → Type 0) (bytes : List ℕ) (ts : List Tree) (rest : List ℕ) : Type 0 where
  pub content : List ℕ
  pub is : bytes ≡ content ++ rest
  pub items : SpellsItems Part content (items_of ts)

pub record Pair (Part : List ℕ → Tree → Type 0) (acc : List (Tree × Tree)) (bytes : List ℕ) (x : List (Tree × Tree) × List ℕ) : Type 0 where
  pub k : Tree
  pub v : Tree
  pub key : List ℕ
  pub value : List ℕ
  pub is : bytes ≡ key ++ (value ++ x.1)
  pub key_part : Part key k
  pub value_part : Part value v
  pub fresh : has_key k acc ≡ false
  pub put_is : put k v acc ≡ x.0

pub record Pairs (Part : List ℕ → Tree → Type 0) (acc : List (Tree × Tree)) (bytes : List ℕ) (final : List (Tree × Tree)) (rest : List ℕ) : Type 0 where
  pub read : List (Tree × Tree)
  pub content : List ℕ
  pub is : bytes ≡ content ++ rest
  pub pairs : SpellsPairs Part content read
  pub runs : Runs acc read final

module _ (Part : List ℕ → Tree → Type 0) (read : List ℕ → Read Tree) (takes : Takes Part read) where
  one_more : (bytes rest : List ℕ) (t : Tree) (ts : List Tree) (between : List ℕ) (one : Took Part bytes (t, between)) → Items Part between ts rest → Items Part bytes (t ∷ ts) rest
  one_more bytes rest t ts between one more = record {
    content = one.front ++ more.content;
    is = one.is ∙ ap (λ (l : List ℕ). one.front ++ l) more.is ∙ sym (append_assoc one.front more.content rest);
    items = (one.front, more.content, refl, one.part, more.items);
  }

  pub items_taken : (n : ℕ) (bytes : List ℕ) (x : List Tree × List ℕ) → AreBytes bytes → items_at read n bytes ≡ Ok x → Items Part bytes x.0 x.1 × (count (items_of x.0) ≡ n)
  unfolding items_at
  items_taken zero bytes x fits e =
      let is = ok_is ([], bytes) x e in
      subst (λ (y : List Tree × List ℕ). Items Part bytes y.0 y.1 × (count (items_of y.0) ≡ 0)) is (record { content = []; is = refl; items = refl }, refl)
  items_taken (suc n) bytes x fits e =
      let a = bind_ok (read bytes) (λ first. items_at read n first.1 >>= λ others. Ok (first.0 ∷ others.0, others.1)) x e in
      let b = bind_ok (items_at read n a.0.1) (λ others. Ok (a.0.0 ∷ others.0, others.1)) x a.2 in
      let one = takes bytes a.0 fits a.1 in
      let more = items_taken n a.0.1 b.0 (bytes_rest bytes one.front a.0.1 fits one.is) b.1 in
      let is = ok_is (a.0.0 ∷ b.0.0, b.0.1) x b.2 in
      subst (λ (y : List Tree × List ℕ). Items Part bytes y.0 y.1 × (count (items_of y.0) ≡ suc n)) is (one_more bytes b.0.1 a.0.0 b.0.0 a.0.1 one more.0, ap suc more.1)

  pub open_items_taken : (fuel end : ℕ) (bytes : List ℕ) (x : List Tree × List ℕ) → AreBytes bytes → open_items_at read fuel end bytes ≡ Ok x → Items Part bytes x.0 (break ∷ x.1)
  unfolding open_items_at
  open_items_taken zero end bytes x fits e = absurd (not_both x (Short end) (sym e))
  open_items_taken (suc fuel) end [] x fits e = absurd (not_both x (Short end) (sym e))
  open_items_taken (suc fuel) end (first ∷ bytes) x fits e = elim (chosen (first == break) (Ok ([], bytes)) (read (first ∷ bytes) >>= λ item. open_items_at read fuel end item.1 >>= λ others. Ok (item.0 ∷ others.0, others.1)) (Ok x) e) [
    | inl ends ↦
        let is = ok_is ([], bytes) x ends.1 in
        let made : Items Part (first ∷ bytes) [] (break ∷ bytes) = record { content = []; is = ap (λ (b : ℕ). b ∷ bytes) (eqb-true first break ends.0); items = refl } in
        subst (λ (y : List Tree × List ℕ). Items Part (first ∷ bytes) y.0 (break ∷ y.1)) is made
    | inr goes ↦
        let a = bind_ok (read (first ∷ bytes)) (λ item. open_items_at read fuel end item.1 >>= λ others. Ok (item.0 ∷ others.0, others.1)) x goes.1 in
        let b = bind_ok (open_items_at read fuel end a.0.1) (λ others. Ok (a.0.0 ∷ others.0, others.1)) x a.2 in
        let one = takes (first ∷ bytes) a.0 fits a.1 in
        let more = open_items_taken fuel end a.0.1 b.0 (bytes_rest (first ∷ bytes) one.front a.0.1 fits one.is) b.1 in
        let is = ok_is (a.0.0 ∷ b.0.0, b.0.1) x b.2 in
        subst (λ (y : List Tree × List ℕ). Items Part (first ∷ bytes) y.0 (break ∷ y.1)) is (one_more (first ∷ bytes) (break ∷ b.0.1) a.0.0 b.0.0 a.0.1 one more)
  ]

  abbrev value_after : List (Tree × Tree) → Tree × List ℕ → Read (List (Tree × Tree))
  value_after acc key = read key.1 >>= λ value. Ok (put key.0 value.0 acc, value.1)

  pub pair_taken : (end : ℕ) (acc : List (Tree × Tree)) (bytes : List ℕ) (x : List (Tree × Tree) × List ℕ) → AreBytes bytes → pair_at read end acc bytes ≡ Ok x → Pair Part acc bytes x
  unfolding pair_at
  pair_taken end acc bytes x fits e =
      let a = bind_ok (read bytes) (λ key. cond (has_key key.0 acc) (Err (Duplicate (end - length bytes))) (value_after acc key)) x e in
      let key = takes bytes a.0 fits a.1 in
      elim (chosen (has_key a.0.0 acc) (Err (Duplicate (end - length bytes))) (value_after acc a.0) (Ok x) a.2) [
        | inl again ↦ absurd (not_both x _ (sym again.1))
        | inr fresh ↦
            let b = bind_ok (read a.0.1) (λ value. Ok (put a.0.0 value.0 acc, value.1)) x fresh.1 in
            let value = takes a.0.1 b.0 (bytes_rest bytes key.front a.0.1 fits key.is) b.1 in
            let is = ok_is (put a.0.0 b.0.0 acc, b.0.1) x b.2 in record {
              k = a.0.0;
              v = b.0.0;
              key = key.front;
              value = value.front;
              is = key.is ∙ ap (λ (l : List ℕ). key.front ++ l) (value.is ∙ ap (λ (p : List (Tree × Tree) × List ℕ). value.front ++ p.1) is);
              key_part = key.part;
              value_part = value.part;
              fresh = fresh.0;
              put_is = ap (λ (p : List (Tree × Tree) × List ℕ). p.0) is;
            }
      ]

  abbrev pub pair_more : (acc : List (Tree × Tree)) (bytes : List ℕ) (y : List (Tree × Tree) × List ℕ) (final : List (Tree × Tree)) (rest : List ℕ) → Pair Part acc bytes y → Pairs Part y.0 y.1 final rest → Pairs Part acc bytes final rest
  pair_more acc bytes y final rest one more = record {
    read = (one.k, one.v) ∷ more.read;
    content = one.key ++ (one.value ++ more.content);
    is =
        one.is ∙ ap (λ (l : List ℕ). one.key ++ (one.value ++ l)) more.is ∙ ap (λ (l : List ℕ). one.key ++ l) (sym (append_assoc one.value more.content rest))
        ∙ sym (append_assoc one.key (one.value ++ more.content) rest);
    pairs = (one.key, one.value, more.content, refl, one.key_part, one.value_part, more.pairs);
    runs = (one.fresh, subst (λ (l : List (Tree × Tree)). Runs l more.read final) (sym one.put_is) more.runs);
  }

  pair_bytes : (acc : List (Tree × Tree)) (bytes : List ℕ) (y : List (Tree × Tree) × List ℕ) → AreBytes bytes → Pair Part acc bytes y → AreBytes y.1
  pair_bytes acc bytes y fits one = bytes_rest (one.value ++ y.1) one.value y.1 (bytes_rest bytes one.key (one.value ++ y.1) fits one.is) refl

  pub pairs_taken : (n end : ℕ) (acc : List (Tree × Tree)) (bytes : List ℕ) (x : List (Tree × Tree) × List ℕ) → AreBytes bytes → pairs_at read end n acc bytes ≡ Ok x
      → (p : Pairs Part acc bytes x.0 x.1) × (length p.read ≡ n)
  unfolding pairs_at
  pairs_taken zero end acc bytes x fits e =
      let is = ok_is (acc, bytes) x e in
      let made : (p : Pairs Part acc bytes acc bytes) × (length p.read ≡ 0) = (record { read = []; content = []; is = refl; pairs = refl; runs = refl }, refl) in
      subst (λ (y : List (Tree × Tree) × List ℕ). (p : Pairs Part acc bytes y.0 y.1) × (length p.read ≡ 0)) is made
  pairs_taken (suc n) end acc bytes x fits e =
      let a = bind_ok (pair_at read end acc bytes) (λ more. pairs_at read end n more.0 more.1) x e in
      let one = pair_taken end acc bytes a.0 fits a.1 in
      let more = pairs_taken n end a.0.0 a.0.1 x (pair_bytes acc bytes a.0 fits one) a.2 in
      (pair_more acc bytes a.0 x.0 x.1 one more.0, ap suc more.1)

  pub open_pairs_taken : (fuel end : ℕ) (acc : List (Tree × Tree)) (bytes : List ℕ) (x : List (Tree × Tree) × List ℕ) → AreBytes bytes → open_pairs_at read fuel end acc bytes ≡ Ok x → Pairs Part acc bytes x.0 (break ∷ x.1)
  unfolding open_pairs_at
  open_pairs_taken zero end acc bytes x fits e = absurd (not_both x (Short end) (sym e))
  open_pairs_taken (suc fuel) end acc [] x fits e = absurd (not_both x (Short end) (sym e))
  open_pairs_taken (suc fuel) end acc (first ∷ bytes) x fits e = elim (chosen (first == break) (Ok (acc, bytes)) (pair_at read end acc (first ∷ bytes) >>= λ more. open_pairs_at read fuel end more.0 more.1) (Ok x) e) [
    | inl ends ↦
        let is = ok_is (acc, bytes) x ends.1 in
        let made : Pairs Part acc (first ∷ bytes) acc (break ∷ bytes) = record { read = []; content = []; is = ap (λ (b : ℕ). b ∷ bytes) (eqb-true first break ends.0); pairs = refl; runs = refl } in
        subst (λ (y : List (Tree × Tree) × List ℕ). Pairs Part acc (first ∷ bytes) y.0 (break ∷ y.1)) is made
    | inr goes ↦
        let a = bind_ok (pair_at read end acc (first ∷ bytes)) (λ more. open_pairs_at read fuel end more.0 more.1) x goes.1 in
        let one = pair_taken end acc (first ∷ bytes) a.0 fits a.1 in
        let more = open_pairs_taken fuel end a.0.0 a.0.1 x (pair_bytes acc (first ∷ bytes) a.0 fits one) a.2 in
        pair_more acc (first ∷ bytes) a.0 x.0 (break ∷ x.1) one more
  ]
