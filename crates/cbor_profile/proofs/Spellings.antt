-- The deterministic encoding is a spelling, and of one item.
use Rattle.std.proofs.Common.{◌≡◌, ℕ, zero, suc, ◌+◌, ◌^◌, ◌<◌, ◌≤◌, List, [], ◌∷◌, ◌++◌, length, refl, sym, ap, ◌∙◌, inl, inr, arith, true, false}
use Rattle.std.proofs.lemmas.Nat.{from_be_bytes-to_be_bytes_2, from_be_bytes-to_be_bytes_4, from_be_bytes-to_be_bytes_8}
use Rattle.std.proofs.lemmas.List.Sorted.{IsPermutation-refl}
use Rattle.cbor_profile.specs.Tree.{Tree, unsigned, negative, byte_string, text, array, mapping, tag, boolean, null, Trees, no_items, item, Pairs, no_pairs, pair, count, pair_count, pairs_of}
use Rattle.cbor_profile.specs.Head.{head, information, following}
use Rattle.cbor_profile.specs.Canon.{canon, canon_items, canon_pairs}
use Rattle.cbor_profile.specs.Valid.{IsSound, AreSound, ArePairsSound, depth, items_depth, pairs_depth}
use Rattle.cbor_profile.specs.Spelling.{IsArgument, itself, follows, IsHead, Fits, SpellsString, Encloses, SpellsItems, SpellsPairs, SpellsPlain, SpellsNest, SpellsWithin}
use Rattle.cbor_profile.specs.ItemReading.{item_at}
use Rattle.cbor_profile.proofs.Results.{ok_is}
use Rattle.cbor_profile.proofs.Heads.{Size, none, one, two, four, eight, size_of}
use Rattle.cbor_profile.proofs.Nested.{within_again}

argument_spells : (n info : ℕ) (bytes : List ℕ) → n < 2 ^ 64 → Size n info bytes → IsArgument info n bytes
argument_spells n info bytes fits size = elim size [
  | none below i b ↦ itself (omega arith) (sym i) b
  | one over below i b ↦ rw (i, b) (follows (omega arith) (omega arith) refl refl)
  | two over below i b ↦ rw (i, b) (follows (omega arith) (omega arith) refl (sym (from_be_bytes-to_be_bytes_2 n below)))
  | four over below i b ↦ rw (i, b) (follows (omega arith) (omega arith) refl (sym (from_be_bytes-to_be_bytes_4 n below)))
  | eight over i b ↦ rw (i, b) (follows (omega arith) (omega arith) refl (sym (from_be_bytes-to_be_bytes_8 n fits)))
]

pub head_spells : (major n : ℕ) → n < 2 ^ 64 → IsHead major n (head major n)
unfolding head
head_spells major n fits = record { info = information n; following = following n; argument = argument_spells n (information n) (following n) fits (size_of n); is = refl }

abbrev list_pairs : Pairs → List (Tree × Tree)
list_pairs no_pairs = []
list_pairs (pair k v ps) = (k, v) ∷ list_pairs ps

pairs_list : (ps : Pairs) → ps ≡ pairs_of (list_pairs ps)
pairs_list no_pairs = refl
pairs_list (pair k v ps) = ap (pair k v) (pairs_list ps)

pairs_length : (ps : Pairs) → length (list_pairs ps) ≡ pair_count ps
pairs_length no_pairs = refl
pairs_length (pair k v ps) = ap suc (pairs_length ps)

pub plain_within : (levels : ℕ) (bytes : List ℕ) (t : Tree) → SpellsPlain bytes t → SpellsWithin levels bytes t
unfolding SpellsWithin
plain_within zero bytes t h = h
plain_within (suc levels) bytes t h = inl h

pub nest_within : (levels : ℕ) (bytes : List ℕ) (t : Tree) → SpellsNest (SpellsWithin levels) bytes t → SpellsWithin (suc levels) bytes t
unfolding SpellsWithin
nest_within levels bytes t h = inr h

no_text : (major : ℕ) (s : List ℕ) → (major ≡ 3 → ⊥) → Fits major s
no_text major s other e = absurd (other e)

false_head : head 7 20 ≡ 0xf4 ∷ []
unfolding head information following
false_head = refl

true_head : head 7 21 ≡ 0xf5 ∷ []
unfolding head information following
true_head = refl

null_head : head 7 22 ≡ 0xf6 ∷ []
unfolding head information following
null_head = refl

mutual
  pub canon_spells : (t : Tree) (levels : ℕ) → IsSound t → depth t ≤ levels → SpellsWithin levels (canon t) t
  canon_spells (unsigned n) levels f d = plain_within levels _ (unsigned n) (head_spells 0 n f)
  canon_spells (negative n) levels f d = plain_within levels _ (negative n) (head_spells 1 n f)
  canon_spells (byte_string s) levels f d =
      plain_within levels _ (byte_string s) (SpellsString.definite (record { head = head 2 (length s); counted = head_spells 2 (length s) f; fits = no_text 2 s (λ e. omega arith); is = refl }))
  canon_spells (text s) levels f d = plain_within levels _ (text s) (SpellsString.definite (record { head = head 3 (length s); counted = head_spells 3 (length s) f.0; fits = λ e. f.1; is = refl }))
  canon_spells (array ts) zero f d = absurd (omega arith)
  canon_spells (array ts) (suc levels) f d =
      nest_within levels _ (array ts) (canon_items ts, Encloses.definite (head 4 (count ts)) (head_spells 4 (count ts) f.0) refl, items_spell ts levels f.1 (omega arith))
  canon_spells (mapping ps) zero f d = absurd (omega arith)
  canon_spells (mapping ps) (suc levels) f d =
      let counted : IsHead 5 (length (list_pairs ps)) (head 5 (pair_count ps)) = rw (pairs_length ps) (head_spells 5 (pair_count ps) f.0) in
      nest_within levels _ (mapping ps) (
        canon_pairs ps,
        list_pairs ps,
        Encloses.definite (head 5 (pair_count ps)) counted refl,
        pairs_spell ps levels f.1 (omega arith),
        record { sorted = list_pairs ps; same = IsPermutation-refl (list_pairs ps); is = pairs_list ps; rise = f.2 },
      )
  canon_spells (tag n t) zero f d = absurd (omega arith)
  canon_spells (tag n t) (suc levels) f d = nest_within levels _ (tag n t) (head 6 n, canon t, head_spells 6 n f.0, refl, canon_spells t levels f.1 (omega arith))
  canon_spells (boolean false) levels f d = plain_within levels _ (boolean false) false_head
  canon_spells (boolean true) levels f d = plain_within levels _ (boolean true) true_head
  canon_spells null levels f d = plain_within levels _ null null_head

  items_spell : (ts : Trees) (levels : ℕ) → AreSound ts → items_depth ts ≤ levels → SpellsItems (SpellsWithin levels) (canon_items ts) ts
  items_spell no_items levels f d = refl
  items_spell (item t ts) levels f d = (canon t, canon_items ts, refl, canon_spells t levels f.0 (omega arith), items_spell ts levels f.1 (omega arith))

  pairs_spell : (ps : Pairs) (levels : ℕ) → ArePairsSound ps → pairs_depth ps ≤ levels → SpellsPairs (SpellsWithin levels) (canon_pairs ps) (list_pairs ps)
  pairs_spell no_pairs levels f d = refl
  pairs_spell (pair k v ps) levels f d =
      (canon k, canon v, canon_pairs ps, refl, canon_spells k levels f.0 (omega arith), canon_spells v levels f.1 (omega arith), pairs_spell ps levels f.2 (omega arith))

pub one_spelling : (a b : Tree) (x y : List ℕ) → IsSound a → IsSound b → canon a ++ x ≡ canon b ++ y → (a ≡ b) × (x ≡ y)
one_spelling a b x y f g e =
    let levels : ℕ = depth a + depth b in
    let here = within_again levels 0 (canon a) a x (canon_spells a levels f (omega arith)) in
    let there = within_again levels 0 (canon b) b y (canon_spells b levels g (omega arith)) in
    let both = ok_is (a, x) (b, y) (sym here ∙ ap (item_at levels 0) e ∙ there) in
    (ap (λ (p : Tree × List ℕ). p.0) both, ap (λ (p : Tree × List ℕ). p.1) both)
