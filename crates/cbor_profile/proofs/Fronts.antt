-- No encoding is the front of another.
use Rattle.std.proofs.Common.{◌≡◌, ℕ, ◌^◌, ◌<◌, true, false, List, [], ◌++◌, length, take, drop, refl, sym, ap, subst, ◌∙◌, append_assoc, arith}
use Rattle.std.proofs.lemmas.List.{append-nil, take_at, drop_at}
use Rattle.cbor_profile.specs.declared.major.Major.{Major}
use Rattle.cbor_profile.specs.declared.major.Major.TheVariants as major_type
use Rattle.cbor_profile.specs.Tree.{Tree, unsigned, negative, byte_string, text, array, mapping, tag, boolean, null, Trees, no_items, item, Pairs, no_pairs, pair, count, pair_count}
use Rattle.cbor_profile.specs.Head.{head}
use Rattle.cbor_profile.specs.Canon.{canon, canon_items, canon_pairs}
use Rattle.cbor_profile.specs.Parts.{number_of, major, argument, content}
use Rattle.cbor_profile.specs.Valid.{IsSound, AreSound, ArePairsSound}
use Rattle.cbor_profile.proofs.Heads.{one_head}

pub argument_fits : (t : Tree) → IsSound t → argument t < 2 ^ 64
argument_fits (unsigned n) h = h
argument_fits (negative n) h = h
argument_fits (byte_string bytes) h = h
argument_fits (text bytes) h = h.0
argument_fits (array ts) h = h.0
argument_fits (mapping ps) h = h.0
argument_fits (tag n t) h = h.0
argument_fits (boolean true) h = omega arith
argument_fits (boolean false) h = omega arith
argument_fits null h = omega arith

-- ---- an encoding in its parts

in_parts : (t : Tree) (rest : List ℕ) → canon t ++ rest ≡ head (number_of (major t)) (argument t) ++ (content t ++ rest)
in_parts (unsigned n) rest = refl
in_parts (negative n) rest = refl
in_parts (byte_string bytes) rest = append_assoc (head 2 (length bytes)) bytes rest
in_parts (text bytes) rest = append_assoc (head 3 (length bytes)) bytes rest
in_parts (array ts) rest = append_assoc (head 4 (count ts)) (canon_items ts) rest
in_parts (mapping ps) rest = append_assoc (head 5 (pair_count ps)) (canon_pairs ps) rest
in_parts (tag n t) rest = append_assoc (head 6 n) (canon t) rest
in_parts (boolean true) rest = refl
in_parts (boolean false) rest = refl
in_parts null rest = refl

pub parts : (t : Tree) → canon t ≡ head (number_of (major t)) (argument t) ++ content t
parts t = sym (append-nil (canon t)) ∙ in_parts t [] ∙ ap (λ (l : List ℕ). head (number_of (major t)) (argument t) ++ l) (append-nil (content t))

-- ---- what an item of a major type has

-- the content of an item of this major type, and its argument where that counts
abbrev Has : Major → Tree → Type 0
Has major_type.Unsigned t = content t ≡ []
Has major_type.Negative t = content t ≡ []
Has major_type.Bytes t = (s : List ℕ) × (content t ≡ s) × (argument t ≡ length s)
Has major_type.Text t = (s : List ℕ) × (content t ≡ s) × (argument t ≡ length s)
Has major_type.Array t = (ts : Trees) × (content t ≡ canon_items ts) × (argument t ≡ count ts) × AreSound ts
Has major_type.Map t = (ps : Pairs) × (content t ≡ canon_pairs ps) × (argument t ≡ pair_count ps) × ArePairsSound ps
Has major_type.Tag t = (u : Tree) × (content t ≡ canon u) × IsSound u
Has major_type.Simple t = content t ≡ []

has : (t : Tree) → IsSound t → Has (major t) t
has (unsigned n) h = refl
has (negative n) h = refl
has (byte_string bytes) h = (bytes, refl, refl)
has (text bytes) h = (bytes, refl, refl)
has (array ts) h = (ts, refl, refl, h.1)
has (mapping ps) h = (ps, refl, refl, h.1)
has (tag n t) h = (t, refl, h.1)
has (boolean true) h = refl
has (boolean false) h = refl
has null h = refl

-- ---- contents, with what follows

abbrev Same : List ℕ → List ℕ → List ℕ → List ℕ → Type 0
Same a b x y = (a ≡ b) × (x ≡ y)

-- the second is what is known of it
by_content : (a b c x y : List ℕ) → b ≡ c → a ++ x ≡ b ++ y → (a ++ x ≡ c ++ y → Same a c x y) → Same a b x y
by_content a b c x y is e same = let both = same (e ∙ ap (λ (l : List ℕ). l ++ y) is) in (both.0 ∙ sym is, both.1)

nothing : (b x y : List ℕ) → b ≡ [] → x ≡ b ++ y → Same [] b x y
nothing b x y is e = by_content [] b [] x y is e (λ same. (refl, same))

strings : (a b x y : List ℕ) → length a ≡ length b → a ++ x ≡ b ++ y → Same a b x y
strings a b x y len e = (
  sym (take_at a x (length a) refl) ∙ ap (take (length a)) e ∙ take_at b y (length a) (sym len),
  sym (drop_at a x (length a) refl) ∙ ap (drop (length a)) e ∙ drop_at b y (length a) (sym len),
)

-- two encodings, by what follows their heads
joined : (a b : Tree) (x y : List ℕ) → IsSound a → IsSound b → canon a ++ x ≡ canon b ++ y
    → (Has (major a) b → argument a ≡ argument b → content a ++ x ≡ content b ++ y → Same (content a) (content b) x y) → Same (canon a) (canon b) x y
joined a b x y f g e contents =
    let heads = one_head (major a) (major b) (argument a) (argument b) (content a ++ x) (content b ++ y) (argument_fits a f) (argument_fits b g) (sym (in_parts a x) ∙ e ∙ in_parts b y) in
    let rest = contents (subst (λ (m : Major). Has m b) (sym heads.0) (has b g)) heads.1 heads.2 in (
      parts a ∙ ap (λ (l : List ℕ). head (number_of (major a)) (argument a) ++ l) rest.0 ∙ ap (λ (m : Major). head (number_of m) (argument a) ++ content b) heads.0
          ∙ ap (λ (n : ℕ). head (number_of (major b)) n ++ content b) heads.1 ∙ sym (parts b),
      rest.1,
    )

mutual
  pub one_front : (a b : Tree) (x y : List ℕ) → IsSound a → IsSound b → canon a ++ x ≡ canon b ++ y → Same (canon a) (canon b) x y
  one_front (unsigned n) b x y f g e = joined (unsigned n) b x y f g e (λ h same rest. nothing (content b) x y h rest)
  one_front (negative n) b x y f g e = joined (negative n) b x y f g e (λ h same rest. nothing (content b) x y h rest)
  one_front (byte_string s) b x y f g e = joined (byte_string s) b x y f g e (λ h same rest. by_content s (content b) h.0 x y h.1 rest (strings s h.0 x y (same ∙ h.2)))
  one_front (text s) b x y f g e = joined (text s) b x y f g e (λ h same rest. by_content s (content b) h.0 x y h.1 rest (strings s h.0 x y (same ∙ h.2)))
  one_front (array ts) b x y f g e =
      joined (array ts) b x y f g e (λ h same rest. by_content (canon_items ts) (content b) (canon_items h.0) x y h.1 rest (items_front ts h.0 x y f.1 h.3 (same ∙ h.2)))
  one_front (mapping ps) b x y f g e =
      joined (mapping ps) b x y f g e (λ h same rest. by_content (canon_pairs ps) (content b) (canon_pairs h.0) x y h.1 rest (pairs_front ps h.0 x y f.1 h.3 (same ∙ h.2)))
  one_front (tag m t) b x y f g e = joined (tag m t) b x y f g e (λ h same rest. by_content (canon t) (content b) (canon h.0) x y h.1 rest (one_front t h.0 x y f.1 h.2))
  one_front (boolean true) b x y f g e = joined (boolean true) b x y f g e (λ h same rest. nothing (content b) x y h rest)
  one_front (boolean false) b x y f g e = joined (boolean false) b x y f g e (λ h same rest. nothing (content b) x y h rest)
  one_front null b x y f g e = joined null b x y f g e (λ h same rest. nothing (content b) x y h rest)

  items_front : (ts us : Trees) (x y : List ℕ) → AreSound ts → AreSound us → count ts ≡ count us → canon_items ts ++ x ≡ canon_items us ++ y → Same (canon_items ts) (canon_items us) x y
  items_front no_items no_items x y f g n e = (refl, e)
  items_front no_items (item u us) x y f g n e = absurd (omega arith)
  items_front (item t ts) no_items x y f g n e = absurd (omega arith)
  items_front (item t ts) (item u us) x y f g n e =
      let first = one_front t u (canon_items ts ++ x) (canon_items us ++ y) f.0 g.0 (sym (append_assoc (canon t) (canon_items ts) x) ∙ e ∙ append_assoc (canon u) (canon_items us) y) in
      let rest = items_front ts us x y f.1 g.1 (omega arith) first.1 in
      (ap (λ (l : List ℕ). l ++ canon_items ts) first.0 ∙ ap (λ (l : List ℕ). canon u ++ l) rest.0, rest.1)

  pairs_front : (ps qs : Pairs) (x y : List ℕ) → ArePairsSound ps → ArePairsSound qs → pair_count ps ≡ pair_count qs → canon_pairs ps ++ x ≡ canon_pairs qs ++ y → Same (canon_pairs ps) (canon_pairs qs) x y
  pairs_front no_pairs no_pairs x y f g n e = (refl, e)
  pairs_front no_pairs (pair l w qs) x y f g n e = absurd (omega arith)
  pairs_front (pair k v ps) no_pairs x y f g n e = absurd (omega arith)
  pairs_front (pair k v ps) (pair l w qs) x y f g n e =
      let key = one_front k l ((canon v ++ canon_pairs ps) ++ x) ((canon w ++ canon_pairs qs) ++ y) f.0 g.0 (sym (append_assoc (canon k) (canon v ++ canon_pairs ps) x) ∙ e ∙ append_assoc (canon l) (canon w ++ canon_pairs qs) y) in
      let value = one_front v w (canon_pairs ps ++ x) (canon_pairs qs ++ y) f.1 g.1 (sym (append_assoc (canon v) (canon_pairs ps) x) ∙ key.1 ∙ append_assoc (canon w) (canon_pairs qs) y) in
      let rest = pairs_front ps qs x y f.2 g.2 (omega arith) value.1 in (
        ap (λ (s : List ℕ). s ++ (canon v ++ canon_pairs ps)) key.0 ∙ ap (λ (s : List ℕ). canon l ++ (s ++ canon_pairs ps)) value.0 ∙ ap (λ (s : List ℕ). canon l ++ (canon w ++ s)) rest.0,
        rest.1,
      )
