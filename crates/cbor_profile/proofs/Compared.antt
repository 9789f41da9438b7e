-- The order of encodings goes by their parts, since no part is the front of another.
use Rattle.std.proofs.Common.{◌≡◌, ℕ, zero, suc, ◌+◌, ◌<◌, List, [], ◌∷◌, ◌++◌, length, get_or, drop, Ordering, Less, Equal, Greater, nat_cmp, is_eq, refl, sym, ap, subst, ◌∙◌, append_assoc, arith}
use Rattle.std.proofs.lemmas.List.{append-nil}
use Rattle.std.proofs.lemmas.Map.Text.{is_eq-slice_cmp}
use Rattle.std.proofs.lemmas.Slice.Eq.{bytes_eq-Decides}
use Rattle.std.specs.Cmp.Lexicographic.{slice_cmp}
use Rattle.std.specs.Ordering.{ordering_then}
use Rattle.cbor_profile.specs.Tree.{Tree, Trees, item, Pairs, pair}
use Rattle.cbor_profile.specs.Head.{head}
use Rattle.cbor_profile.specs.Canon.{canon, canon_items, canon_pairs}
use Rattle.cbor_profile.specs.Parts.{number_of, major, argument, content}
use Rattle.cbor_profile.specs.Valid.{IsSound, AreSound, ArePairsSound}
use Rattle.cbor_profile.specs.declared.item.Item.{Item}
use Rattle.cbor_profile.specs.ItemTrees.{tree_of}
use Rattle.cbor_profile.proofs.ItemTrees.{dropped, items_value, pairs_value}
use Rattle.cbor_profile.proofs.Heads.{one_head}
use Rattle.cbor_profile.proofs.Fronts.{argument_fits, parts, one_front}

abbrev pub order : List ℕ → List ℕ → Ordering
order = slice_cmp nat_cmp

-- Equal lists apart, neither is the front of the other.
abbrev pub Apart : List ℕ → List ℕ → Type 0
Apart a b = (u v : List ℕ) → a ++ u ≡ b ++ v → a ≡ b

pub same_from_order : (a b : List ℕ) → order a b ≡ Equal → a ≡ b
same_from_order a b e = (bytes_eq-Decides a b).0 (sym (is_eq-slice_cmp a b) ∙ ap is_eq e)

pub then_unequal : (o p : Ordering) → (o ≡ Equal → ⊥) → ordering_then o p ≡ o
then_unequal Less p h = refl
then_unequal Equal p h = absurd (h refl)
then_unequal Greater p h = refl

same_number : (a b : ℕ) → nat_cmp a b ≡ Equal → a ≡ b
same_number a b e = let same : (a ∷ []) ≡ (b ∷ []) = same_from_order (a ∷ []) (b ∷ []) (ap (λ (o : Ordering). ordering_then o Equal) e) in ap (λ (l : List ℕ). get_or l 0 0) same

order_cons : (o : Ordering) (m n : ℕ) (a b x y : List ℕ) → nat_cmp m n ≡ o → (m ≡ n → order (a ++ x) (b ++ y) ≡ ordering_then (order a b) (order x y))
    → ordering_then o (order (a ++ x) (b ++ y)) ≡ ordering_then (ordering_then o (order a b)) (order x y)
order_cons Less m n a b x y is more = refl
order_cons Equal m n a b x y is more = more (same_number m n is)
order_cons Greater m n a b x y is more = refl

order_append : (a b x y : List ℕ) → Apart a b → order (a ++ x) (b ++ y) ≡ ordering_then (order a b) (order x y)
order_append [] [] x y apart = refl
order_append [] (n ∷ b) x y apart = absurd (cc (apart (n ∷ b) [] (sym (append-nil (n ∷ b)))))
order_append (m ∷ a) [] x y apart = absurd (cc (apart [] (m ∷ a) (append-nil (m ∷ a))))
order_append (m ∷ a) (n ∷ b) x y apart =
    order_cons (nat_cmp m n) m n a b x y refl (λ same.
    order_append a b x y (λ u v e. ap (drop 1) (apart u v (ap (λ (l : List ℕ). m ∷ l) e ∙ ap (λ (k : ℕ). k ∷ (b ++ v)) same))))

heads_apart : (a b : Tree) → IsSound a → IsSound b → Apart (head (number_of (major a)) (argument a)) (head (number_of (major b)) (argument b))
heads_apart a b f g u v e =
    let same = one_head (major a) (major b) (argument a) (argument b) u v (argument_fits a f) (argument_fits b g) e in
    let m : major a ≡ major b = same.0 in
    let n : argument a ≡ argument b = same.1 in
    cc

pub canons_apart : (a b : Tree) → IsSound a → IsSound b → Apart (canon a) (canon b)
canons_apart a b f g u v e = (one_front a b u v f g e).0

-- heads first, and then what follows them
pub order_parts : (a b : Tree) → IsSound a → IsSound b
    → order (canon a) (canon b) ≡ ordering_then (order (head (number_of (major a)) (argument a)) (head (number_of (major b)) (argument b))) (order (content a) (content b))
order_parts a b f g = rw (parts a, parts b) (order_append _ _ (content a) (content b) (heads_apart a b f g))

pub same_head : (a b : Tree) → IsSound a → IsSound b → order (head (number_of (major a)) (argument a)) (head (number_of (major b)) (argument b)) ≡ Equal → (major a ≡ major b) × (argument a ≡ argument b)
same_head a b f g e =
    let same = same_from_order _ _ e in
    let both = one_head (major a) (major b) (argument a) (argument b) [] [] (argument_fits a f) (argument_fits b g) (ap (λ (l : List ℕ). l ++ []) same) in
    (both.0, both.1)

pub order_items : (t u : Tree) (ts us : Trees) → IsSound t → IsSound u → order (canon_items (item t ts)) (canon_items (item u us)) ≡ ordering_then (order (canon t) (canon u)) (order (canon_items ts) (canon_items us))
order_items t u ts us f g = order_append (canon t) (canon u) (canon_items ts) (canon_items us) (canons_apart t u f g)

pub order_pair : (k v l w : Tree) → IsSound k → IsSound l → order (canon k ++ canon v) (canon l ++ canon w) ≡ ordering_then (order (canon k) (canon l)) (order (canon v) (canon w))
order_pair k v l w f g = order_append (canon k) (canon l) (canon v) (canon w) (canons_apart k l f g)

pairs_apart : (k v l w : Tree) → IsSound k → IsSound v → IsSound l → IsSound w → Apart (canon k ++ canon v) (canon l ++ canon w)
pairs_apart k v l w f g h i x y e =
    let regrouped : canon k ++ (canon v ++ x) ≡ canon l ++ (canon w ++ y) = sym (append_assoc (canon k) (canon v) x) ∙ e ∙ append_assoc (canon l) (canon w) y in
    let key = one_front k l (canon v ++ x) (canon w ++ y) f h regrouped in
    let value = one_front v w x y g i key.1 in
    ap (λ (m : List ℕ). m ++ canon v) key.0 ∙ ap (λ (m : List ℕ). canon l ++ m) value.0

pub order_pairs : (k v l w : Tree) (ps qs : Pairs) → IsSound k → IsSound v → IsSound l → IsSound w
    → order (canon_pairs (pair k v ps)) (canon_pairs (pair l w qs)) ≡ ordering_then (order (canon k ++ canon v) (canon l ++ canon w)) (order (canon_pairs ps) (canon_pairs qs))
order_pairs k v l w ps qs f g h i =
    ap (λ (m : List ℕ). order m (canon l ++ (canon w ++ canon_pairs qs))) (sym (append_assoc (canon k) (canon v) (canon_pairs ps)))
    ∙ ap (λ (m : List ℕ). order ((canon k ++ canon v) ++ canon_pairs ps) m) (sym (append_assoc (canon l) (canon w) (canon_pairs qs)))
    ∙ order_append (canon k ++ canon v) (canon l ++ canon w) (canon_pairs ps) (canon_pairs qs) (pairs_apart k v l w f g h i)

abbrev pub heads_order : Tree → Tree → Ordering
heads_order a b = order (head (number_of (major a)) (argument a)) (head (number_of (major b)) (argument b))

pub order_equal : (a b : Tree) (o : Ordering) → IsSound a → IsSound b → heads_order a b ≡ Equal → o ≡ order (content a) (content b) → o ≡ order (canon a) (canon b)
order_equal a b o f g is e = e ∙ ap (λ (p : Ordering). ordering_then p (order (content a) (content b))) (sym is) ∙ sym (order_parts a b f g)

pub order_unequal : (a b : Tree) (o : Ordering) → IsSound a → IsSound b → (o ≡ Equal → ⊥) → o ≡ heads_order a b → o ≡ order (canon a) (canon b)
order_unequal a b o f g apart e =
    sym (then_unequal o (order (content a) (content b)) apart) ∙ ap (λ (p : Ordering). ordering_then p (order (content a) (content b))) e ∙ sym (order_parts a b f g)

pub pair_equal : (k v l w : Tree) (o : Ordering) → IsSound k → IsSound l → order (canon k) (canon l) ≡ Equal → o ≡ order (canon v) (canon w) → o ≡ order (canon k ++ canon v) (canon l ++ canon w)
pair_equal k v l w o f g is e = e ∙ ap (λ (p : Ordering). ordering_then p (order (canon v) (canon w))) (sym is) ∙ sym (order_pair k v l w f g)

pub pair_unequal : (k v l w : Tree) (o : Ordering) → IsSound k → IsSound l → (o ≡ Equal → ⊥) → o ≡ order (canon k) (canon l) → o ≡ order (canon k ++ canon v) (canon l ++ canon w)
pair_unequal k v l w o f g apart e =
    sym (then_unequal o (order (canon v) (canon w)) apart) ∙ ap (λ (p : Ordering). ordering_then p (order (canon v) (canon w))) e ∙ sym (order_pair k v l w f g)

-- ---- the loops over items and pairs

sound_at : (xs : List Item) (i : ℕ) (x : Item) → AreSound (items_value xs) → i < length xs → x ≡ get_or xs i x → IsSound (tree_of x)
sound_at [] i x h lt is = absurd (omega arith)
sound_at (y ∷ ys) zero x h lt is = subst (λ (z : Item). IsSound (tree_of z)) (sym is) h.0
sound_at (y ∷ ys) (suc i) x h lt is = sound_at ys i x h.1 (omega arith) is

pair_sound_at : (xs : List (Item × Item)) (i : ℕ) (x : Item × Item) → ArePairsSound (pairs_value xs) → i < length xs → x ≡ get_or xs i x → IsSound (tree_of x.0) × IsSound (tree_of x.1)
pair_sound_at [] i x h lt is = absurd (omega arith)
pair_sound_at (y ∷ ys) zero x h lt is = subst (λ (z : Item × Item). IsSound (tree_of z.0) × IsSound (tree_of z.1)) (sym is) (h.0, h.1)
pair_sound_at (y ∷ ys) (suc i) x h lt is = pair_sound_at ys i x h.2 (omega arith) is

-- the next items of two arrays, and those after them
pub record NextItems (xs ys : List Item) (i : ℕ) (x y : Item) : Type 0 where
  pub left_sound : AreSound (items_value xs)
  pub right_sound : AreSound (items_value ys)
  pub left_in : i < length xs
  pub right_in : i < length ys
  pub left_is : x ≡ get_or xs i x
  pub right_is : y ≡ get_or ys i y

next_items : (xs ys : List Item) (i : ℕ) (x y : Item) → NextItems xs ys i x y
    → order (canon_items (items_value (drop i xs))) (canon_items (items_value (drop i ys)))
    ≡ ordering_then (order (canon (tree_of x)) (canon (tree_of y))) (order (canon_items (items_value (drop (i + 1) xs))) (canon_items (items_value (drop (i + 1) ys))))
next_items xs ys i x y next =
    let first = dropped xs i x next.left_in next.left_is in
    let second = dropped ys i y next.right_in next.right_is in
    rw (first, second)
    (order_items (tree_of x) (tree_of y) (items_value (drop (i + 1) xs)) (items_value (drop (i + 1) ys))
    (sound_at xs i x next.left_sound next.left_in next.left_is) (sound_at ys i y next.right_sound next.right_in next.right_is))

pub items_go_on : (all : Ordering) (xs ys : List Item) (i : ℕ) (x y : Item) → NextItems xs ys i x y → all ≡ order (canon_items (items_value (drop i xs))) (canon_items (items_value (drop i ys)))
    → order (canon (tree_of x)) (canon (tree_of y)) ≡ Equal → all ≡ order (canon_items (items_value (drop (i + 1) xs))) (canon_items (items_value (drop (i + 1) ys)))
items_go_on all xs ys i x y next so_far is =
    let rest = order (canon_items (items_value (drop (i + 1) xs))) (canon_items (items_value (drop (i + 1) ys))) in
    so_far ∙ next_items xs ys i x y next ∙ ap (λ (o : Ordering). ordering_then o rest) is

pub items_differ : (all o : Ordering) (xs ys : List Item) (i : ℕ) (x y : Item) → NextItems xs ys i x y → all ≡ order (canon_items (items_value (drop i xs))) (canon_items (items_value (drop i ys)))
    → (o ≡ Equal → ⊥) → o ≡ order (canon (tree_of x)) (canon (tree_of y)) → o ≡ all
items_differ all o xs ys i x y next so_far apart is =
    let rest = order (canon_items (items_value (drop (i + 1) xs))) (canon_items (items_value (drop (i + 1) ys))) in
    sym (then_unequal o rest apart) ∙ ap (λ (p : Ordering). ordering_then p rest) is ∙ sym (next_items xs ys i x y next) ∙ sym so_far

pub sounds_at : (xs ys : List Item) (i : ℕ) (x y : Item) → NextItems xs ys i x y → IsSound (tree_of x) × IsSound (tree_of y)
sounds_at xs ys i x y next = (sound_at xs i x next.left_sound next.left_in next.left_is, sound_at ys i y next.right_sound next.right_in next.right_is)

-- the same of pairs
pub record NextPairs (xs ys : List (Item × Item)) (i : ℕ) (x y : Item × Item) : Type 0 where
  pub left_sound : ArePairsSound (pairs_value xs)
  pub right_sound : ArePairsSound (pairs_value ys)
  pub left_in : i < length xs
  pub right_in : i < length ys
  pub left_is : x ≡ get_or xs i x
  pub right_is : y ≡ get_or ys i y

pub left_pair : (xs ys : List (Item × Item)) (i : ℕ) (x y : Item × Item) → NextPairs xs ys i x y → IsSound (tree_of x.0) × IsSound (tree_of x.1)
left_pair xs ys i x y next = pair_sound_at xs i x next.left_sound next.left_in next.left_is

pub right_pair : (xs ys : List (Item × Item)) (i : ℕ) (x y : Item × Item) → NextPairs xs ys i x y → IsSound (tree_of y.0) × IsSound (tree_of y.1)
right_pair xs ys i x y next = pair_sound_at ys i y next.right_sound next.right_in next.right_is

abbrev pub pair_order : Item × Item → Item × Item → Ordering
pair_order x y = order (canon (tree_of x.0) ++ canon (tree_of x.1)) (canon (tree_of y.0) ++ canon (tree_of y.1))

next_pairs : (xs ys : List (Item × Item)) (i : ℕ) (x y : Item × Item) → NextPairs xs ys i x y
    → order (canon_pairs (pairs_value (drop i xs))) (canon_pairs (pairs_value (drop i ys)))
    ≡ ordering_then (pair_order x y) (order (canon_pairs (pairs_value (drop (i + 1) xs))) (canon_pairs (pairs_value (drop (i + 1) ys))))
next_pairs xs ys i x y next =
    let first = dropped xs i x next.left_in next.left_is in
    let second = dropped ys i y next.right_in next.right_is in
    let left = left_pair xs ys i x y next in
    let right = right_pair xs ys i x y next in
    rw (first, second)
    (order_pairs (tree_of x.0) (tree_of x.1) (tree_of y.0) (tree_of y.1) (pairs_value (drop (i + 1) xs)) (pairs_value (drop (i + 1) ys)) left.0 left.1 right.0 right.1)

pub pairs_go_on : (all : Ordering) (xs ys : List (Item × Item)) (i : ℕ) (x y : Item × Item) → NextPairs xs ys i x y
    → all ≡ order (canon_pairs (pairs_value (drop i xs))) (canon_pairs (pairs_value (drop i ys))) → pair_order x y ≡ Equal
    → all ≡ order (canon_pairs (pairs_value (drop (i + 1) xs))) (canon_pairs (pairs_value (drop (i + 1) ys)))
pairs_go_on all xs ys i x y next so_far is =
    let rest = order (canon_pairs (pairs_value (drop (i + 1) xs))) (canon_pairs (pairs_value (drop (i + 1) ys))) in
    so_far ∙ next_pairs xs ys i x y next ∙ ap (λ (o : Ordering). ordering_then o rest) is

pub pairs_differ : (all o : Ordering) (xs ys : List (Item × Item)) (i : ℕ) (x y : Item × Item) → NextPairs xs ys i x y
    → all ≡ order (canon_pairs (pairs_value (drop i xs))) (canon_pairs (pairs_value (drop i ys))) → (o ≡ Equal → ⊥) → o ≡ pair_order x y → o ≡ all
pairs_differ all o xs ys i x y next so_far apart is =
    let rest = order (canon_pairs (pairs_value (drop (i + 1) xs))) (canon_pairs (pairs_value (drop (i + 1) ys))) in
    sym (then_unequal o rest apart) ∙ ap (λ (p : Ordering). ordering_then p rest) is ∙ sym (next_pairs xs ys i x y next) ∙ sym so_far
