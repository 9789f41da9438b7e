-- What kind of item a tree is.
use Rattle.std.proofs.Common.{◌≡◌, ℕ, suc, List, [], ◌∷◌, length, map, Some, refl, sym, ap, ◌∙◌}
use Rattle.std.proofs.lemmas.List.{length-map}
use Rattle.cbor_profile.specs.Tree.{Tree, unsigned, negative, byte_string, text, array, mapping, tag, boolean, null, Trees, Pairs, count, pair_count, items_of, pairs_of}
use Rattle.cbor_profile.specs.Kind.{number_in, items_in, pairs_in}

pub is_mapping : (t : Tree) (ps : Pairs) → Some ps ≡ pairs_in t → t ≡ mapping ps
is_mapping (mapping qs) ps is = cc
is_mapping (unsigned n) ps is = absurd (cc)
is_mapping (negative n) ps is = absurd (cc)
is_mapping (byte_string b) ps is = absurd (cc)
is_mapping (text b) ps is = absurd (cc)
is_mapping (array ts) ps is = absurd (cc)
is_mapping (tag n t) ps is = absurd (cc)
is_mapping (boolean b) ps is = absurd (cc)
is_mapping null ps is = absurd (cc)

pub is_array : (t : Tree) (ts : Trees) → Some ts ≡ items_in t → t ≡ array ts
is_array (array us) ts is = cc
is_array (unsigned n) ts is = absurd (cc)
is_array (negative n) ts is = absurd (cc)
is_array (byte_string b) ts is = absurd (cc)
is_array (text b) ts is = absurd (cc)
is_array (mapping ps) ts is = absurd (cc)
is_array (tag n t) ts is = absurd (cc)
is_array (boolean b) ts is = absurd (cc)
is_array null ts is = absurd (cc)

pub is_unsigned : (t : Tree) (n : ℕ) → Some n ≡ number_in t → t ≡ unsigned n
is_unsigned (unsigned m) n is = cc
is_unsigned (array us) n is = absurd (cc)
is_unsigned (negative m) n is = absurd (cc)
is_unsigned (byte_string b) n is = absurd (cc)
is_unsigned (text b) n is = absurd (cc)
is_unsigned (mapping ps) n is = absurd (cc)
is_unsigned (tag m t) n is = absurd (cc)
is_unsigned (boolean b) n is = absurd (cc)
is_unsigned null n is = absurd (cc)

pairs_counted : (xs : List (Tree × Tree)) → pair_count (pairs_of xs) ≡ length xs
pairs_counted [] = refl
pairs_counted (x ∷ xs) = ap suc (pairs_counted xs)

items_counted : (xs : List Tree) → count (items_of xs) ≡ length xs
items_counted [] = refl
items_counted (x ∷ xs) = ap suc (items_counted xs)

-- a list of pairs, of which a map was made
pub pairs_many : {A : Type 0} (f : A → Tree × Tree) (xs : List A) (ps : Pairs) (t : Tree) → Some (pairs_of (map f xs)) ≡ pairs_in t → t ≡ mapping ps → length xs ≡ pair_count ps
pairs_many f xs ps t is same =
    let one : mapping (pairs_of (map f xs)) ≡ mapping ps = sym (is_mapping t (pairs_of (map f xs)) is) ∙ same in
    let counted : pair_count (pairs_of (map f xs)) ≡ pair_count ps = pairs_one (pairs_of (map f xs)) ps one in
    sym (pairs_counted (map f xs) ∙ length-map xs f) ∙ counted
  where
    pairs_one : (a b : Pairs) → mapping a ≡ mapping b → pair_count a ≡ pair_count b
    pairs_one a b e = ap pair_count (cc)

pub items_many : {A : Type 0} (f : A → Tree) (xs : List A) (ts : Trees) (t : Tree) → Some (items_of (map f xs)) ≡ items_in t → t ≡ array ts → length xs ≡ count ts
items_many f xs ts t is same =
    let one : array (items_of (map f xs)) ≡ array ts = sym (is_array t (items_of (map f xs)) is) ∙ same in
    sym (items_counted (map f xs) ∙ length-map xs f) ∙ items_one (items_of (map f xs)) ts one
  where
    items_one : (a b : Trees) → array a ≡ array b → count a ≡ count b
    items_one a b e = ap count (cc)
