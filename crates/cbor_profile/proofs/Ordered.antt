-- Pairs in the order of their keys.
use Rattle.std.proofs.Common.{◌≡◌, ℕ, ◌+◌, ◌≤◌, Bool, true, false, cond, List, [], ◌∷◌, ◌++◌, refl, sym, ap, subst, ◌∙◌, inl, inr, arith}
use Rattle.std.specs.Prelude.{◌⊎◌, IsPermutation, sum_by}
use Rattle.std.specs.List.{AllByRecursion}
use Rattle.std.specs.declared.cmp.Ordering.{Ordering}
use Rattle.std.specs.Ordering.{is_eq, is_lt, ordering_reverse}
use Rattle.std.specs.declared.cmp.Ordering.TheVariants.{Less, Equal, Greater}
use Rattle.std.proofs.lemmas.Bool.{cond_both}
use Rattle.std.proofs.lemmas.List.{append-nil}
use Rattle.std.proofs.lemmas.List.Sums.{sum_by-cons}
use Rattle.std.proofs.lemmas.List.Sorted.{IsPermutation-refl, IsPermutation-sym, IsPermutation-trans, IsPermutation-cons, IsPermutation-middle, IsPermutation-append_left, sum_by-IsPermutation, All-permutation}
use Rattle.std.proofs.lemmas.List.Elements.{All-from_recursion, recursion_from_All}
use Rattle.cbor_profile.specs.Tree.{Tree, pairs_of}
use Rattle.cbor_profile.specs.Canon.{canon}
use Rattle.cbor_profile.specs.Valid.{IsBefore, RiseFrom}
use Rattle.cbor_profile.specs.Keys.{key_order, has_key, put}
use Rattle.cbor_profile.proofs.KeyOrder.{after_nothing, order_then, order_flip, order_congr, order_self}

less_greater : (o : Ordering) → o ≡ Less → o ≡ Greater → ⊥
less_greater o e f = cc

less_equal : (o : Ordering) → o ≡ Less → o ≡ Equal → ⊥
less_equal o e f = cc

not_less_both : (a b : Tree) → key_order a b ≡ Less → key_order b a ≡ Less → ⊥
not_less_both a b e f = less_greater (key_order b a) f (order_flip a b ∙ ap ordering_reverse e)

-- ---- one more pair

skip : (o : Ordering) (b : Bool) → cond (is_eq o) true b ≡ false → b ≡ false
skip Less b e = e
skip Equal b e = absurd (cc)
skip Greater b e = e

put_step : (o : Ordering) (last : List ℕ) (p : Tree × Tree) (ps : List (Tree × Tree)) (k v : Tree) → key_order p.0 k ≡ o → RiseFrom last (pairs_of (p ∷ ps)) → IsBefore last (canon k)
    → has_key k (p ∷ ps) ≡ false → (IsBefore (canon p.0) (canon k) → has_key k ps ≡ false → RiseFrom (canon p.0) (pairs_of (put k v ps))) → RiseFrom last (pairs_of (put k v (p ∷ ps)))
put_step Less last p ps k v is rise before fresh more = rw is (rise.0, more is (skip (key_order p.0 k) (has_key k ps) fresh))
put_step Equal last p ps k v is rise before fresh more =
    let here : has_key k (p ∷ ps) ≡ true = ap (λ (o : Ordering). cond (is_eq o) true (has_key k ps)) is in
    let both : true ≡ false = sym here ∙ fresh in
    absurd (cc)
put_step Greater last p ps k v is rise before fresh more = rw is (before, (order_flip p.0 k ∙ ap ordering_reverse is, rise.1))

pub put_rises : (last : List ℕ) (ps : List (Tree × Tree)) (k v : Tree) → RiseFrom last (pairs_of ps) → IsBefore last (canon k) → has_key k ps ≡ false → RiseFrom last (pairs_of (put k v ps))
put_rises last [] k v rise before fresh = (before, tt)
put_rises last (p ∷ ps) k v rise before fresh = put_step (key_order p.0 k) last p ps k v refl rise before fresh (λ is more. put_rises (canon p.0) ps k v rise.1 is more)

pub put_permutes : (ps : List (Tree × Tree)) (k v : Tree) → IsPermutation ((k, v) ∷ ps) (put k v ps)
put_permutes [] k v = IsPermutation-refl _
put_permutes (p ∷ ps) k v =
    cond_both (is_lt (key_order p.0 k)) (p ∷ put k v ps) ((k, v) ∷ p ∷ ps) (λ (l : List (Tree × Tree)). IsPermutation ((k, v) ∷ p ∷ ps) l)
    (λ e. IsPermutation-trans _ _ _ (IsPermutation-middle ((k, v) ∷ []) p ps) (IsPermutation-cons p _ _ (put_permutes ps k v)))
    (λ e. IsPermutation-refl _)

-- ---- how many pairs have a key

abbrev like : Tree → Tree × Tree → ℕ
like k p = cond (is_eq (key_order p.0 k)) 1 0

still_above : (o : Ordering) (a p k : Tree) → key_order p k ≡ o → key_order a p ≡ Less → (key_order a k ≡ Less → ⊥) → o ≡ Greater
still_above Less a p k is less above = absurd (above (order_then a p k less is))
still_above Equal a p k is less above =
    let back : key_order p a ≡ Greater = order_flip a p ∙ ap ordering_reverse less in
    let other : key_order k a ≡ Greater = sym (order_congr p k a is) ∙ back in
    absurd (above (order_flip k a ∙ ap ordering_reverse other))
still_above Greater a p k is less above = refl

not_less : (o : Ordering) → o ≡ Greater → o ≡ Less → ⊥
not_less o e f = cc

above_count : (a : Tree) (ps : List (Tree × Tree)) (k : Tree) → RiseFrom (canon a) (pairs_of ps) → (key_order a k ≡ Less → ⊥) → sum_by (like k) ps ≡ 0
above_count a [] k rise above = refl
above_count a (p ∷ ps) k rise above =
    let is = still_above (key_order p.0 k) a p.0 k refl rise.0 above in
    let none : like k p ≡ 0 = ap (λ (o : Ordering). cond (is_eq o) 1 0) is in
    let rest = above_count p.0 ps k rise.1 (not_less (key_order p.0 k) is) in
    let both = sum_by-cons (like k) p ps in
    omega arith

count_step : (o : Ordering) (p : Tree × Tree) (ps : List (Tree × Tree)) (k : Tree) → key_order p.0 k ≡ o → RiseFrom (canon p.0) (pairs_of ps) → sum_by (like k) ps ≤ 1 → sum_by (like k) (p ∷ ps) ≤ 1
count_step Less p ps k is rise rest =
    let none : like k p ≡ 0 = ap (λ (o : Ordering). cond (is_eq o) 1 0) is in let both = sum_by-cons (like k) p ps in omega arith
count_step Equal p ps k is rise rest =
    let one : like k p ≡ 1 = ap (λ (o : Ordering). cond (is_eq o) 1 0) is in
    let more = above_count p.0 ps k rise (λ less. less_equal (key_order p.0 k) less is) in
    let both = sum_by-cons (like k) p ps in
    omega arith
count_step Greater p ps k is rise rest =
    let none : like k p ≡ 0 = ap (λ (o : Ordering). cond (is_eq o) 1 0) is in let both = sum_by-cons (like k) p ps in omega arith

count_one : (last : List ℕ) (ps : List (Tree × Tree)) (k : Tree) → RiseFrom last (pairs_of ps) → sum_by (like k) ps ≤ 1
count_one last [] k rise = omega arith
count_one last (p ∷ ps) k rise = count_step (key_order p.0 k) p ps k refl rise.1 (count_one (canon p.0) ps k rise.1)

none_step : (o : Ordering) (n : ℕ) (b : Bool) → cond (is_eq o) 1 0 + n ≡ 0 → (n ≡ 0 → b ≡ false) → cond (is_eq o) true b ≡ false
none_step Less n b e f = f (omega arith)
none_step Equal n b e f = absurd (omega arith)
none_step Greater n b e f = f (omega arith)

none_has : (ps : List (Tree × Tree)) (k : Tree) → sum_by (like k) ps ≡ 0 → has_key k ps ≡ false
none_has [] k e = refl
none_has (p ∷ ps) k e = none_step (key_order p.0 k) (sum_by (like k) ps) (has_key k ps) (sym (sum_by-cons (like k) p ps) ∙ e) (none_has ps k)

front_step : (o : Ordering) (b c : Bool) → cond (is_eq o) true c ≡ false → (c ≡ false → b ≡ false) → cond (is_eq o) true b ≡ false
front_step Less b c e f = f e
front_step Equal b c e f = absurd (cc)
front_step Greater b c e f = f e

has_front : (ps qs : List (Tree × Tree)) (k : Tree) → has_key k (ps ++ qs) ≡ false → has_key k ps ≡ false
has_front [] qs k e = refl
has_front (p ∷ ps) qs k e = front_step (key_order p.0 k) (has_key k ps) (has_key k (ps ++ qs)) e (has_front ps qs k)

fresh_from : (acc rest sorted : List (Tree × Tree)) (p : Tree × Tree) → IsPermutation (acc ++ p ∷ rest) sorted → RiseFrom [] (pairs_of sorted) → has_key p.0 acc ≡ false
fresh_from acc rest sorted p same rise =
    let moved : IsPermutation (p ∷ (acc ++ rest)) sorted = IsPermutation-trans _ _ _ (IsPermutation-sym _ _ (IsPermutation-middle acc p rest)) same in
    let most = count_one [] sorted p.0 rise in
    let sums = sum_by-IsPermutation (like p.0) _ _ moved in
    let parts = sum_by-cons (like p.0) p (acc ++ rest) in
    let one : like p.0 p ≡ 1 = ap (λ (o : Ordering). cond (is_eq o) 1 0) (order_self p.0) in
    let none : sum_by (like p.0) (acc ++ rest) ≡ 0 = omega arith in
    has_front acc rest p.0 (none_has (acc ++ rest) p.0 none)

-- ---- pairs that rise are told by which they are

abbrev pub In : Tree × Tree → List (Tree × Tree) → Type 0
In z [] = ⊥
In z (p ∷ ps) = (p ≡ z) ⊎ In z ps

all_later : (zs ps : List (Tree × Tree)) (q : Tree × Tree) → AllByRecursion (λ z. In z ps) zs → AllByRecursion (λ z. In z (q ∷ ps)) zs
all_later [] ps q all = tt
all_later (z ∷ zs) ps q all = (inr all.0, all_later zs ps q all.1)

all_in : (ps : List (Tree × Tree)) → AllByRecursion (λ z. In z ps) ps
all_in [] = tt
all_in (p ∷ ps) = (inl refl, all_later ps ps p (all_in ps))

in_all : (P : Tree × Tree → Type 0) (ps : List (Tree × Tree)) (z : Tree × Tree) → AllByRecursion P ps → In z ps → P z
in_all P [] z all is = absurd is
in_all P (p ∷ ps) z all (inl same) = subst P same all.0
in_all P (p ∷ ps) z all (inr later) = in_all P ps z all.1 later

pub in_permutation : (ps qs : List (Tree × Tree)) (z : Tree × Tree) → IsPermutation ps qs → In z ps → In z qs
in_permutation ps qs z same is = in_all (λ z. In z qs) ps z (recursion_from_All (λ w. In w qs) ps (All-permutation (λ w. In w qs) qs ps (IsPermutation-sym _ _ same) (All-from_recursion (λ w. In w qs) qs (all_in qs)))) is

in_above : (a : Tree) (ps : List (Tree × Tree)) (z : Tree × Tree) → RiseFrom (canon a) (pairs_of ps) → In z ps → key_order a z.0 ≡ Less
in_above a [] z rise is = absurd is
in_above a (p ∷ ps) z rise (inl same) = subst (λ (q : Tree × Tree). key_order a q.0 ≡ Less) same rise.0
in_above a (p ∷ ps) z rise (inr later) = order_then a p.0 z.0 rise.0 (in_above p.0 ps z rise.1 later)

first_same : (x y : Tree × Tree) (xs ys : List (Tree × Tree)) → RiseFrom (canon x.0) (pairs_of xs) → RiseFrom (canon y.0) (pairs_of ys) → In x (y ∷ ys) → In y (x ∷ xs) → x ≡ y
first_same x y xs ys f g (inl e) there = sym e
first_same x y xs ys f g (inr later) (inl e) = e
first_same x y xs ys f g (inr later) (inr other) = absurd (not_less_both x.0 y.0 (in_above x.0 xs y f other) (in_above y.0 ys x g later))

tail_in : (x y z : Tree × Tree) (xs ys : List (Tree × Tree)) → x ≡ y → RiseFrom (canon x.0) (pairs_of xs) → In z xs → In z (y ∷ ys) → In z ys
tail_in x y z xs ys same f is (inl e) =
    let less = in_above x.0 xs z f is in
    absurd (less_equal (key_order x.0 z.0) less (subst (λ (q : Tree × Tree). key_order x.0 q.0 ≡ Equal) (same ∙ e) (order_self x.0)))
tail_in x y z xs ys same f is (inr later) = later

pub rises_same : (last other : List ℕ) (xs ys : List (Tree × Tree)) → RiseFrom last (pairs_of xs) → RiseFrom other (pairs_of ys) → ((z : Tree × Tree) → In z xs → In z ys) → ((z : Tree × Tree) → In z ys → In z xs) → xs ≡ ys
rises_same last other [] [] f g there back = refl
rises_same last other [] (y ∷ ys) f g there back = absurd (back y (inl refl))
rises_same last other (x ∷ xs) [] f g there back = absurd (there x (inl refl))
rises_same last other (x ∷ xs) (y ∷ ys) f g there back =
    let first = first_same x y xs ys f.1 g.1 (there x (inl refl)) (back y (inl refl)) in
    let rest = rises_same (canon x.0) (canon y.0) xs ys f.1 g.1 (λ z is. tail_in x y z xs ys first f.1 is (there z (inr is))) (λ z is. tail_in y x z ys xs (sym first) g.1 is (back z (inr is))) in
    ap (λ (p : Tree × Tree). p ∷ xs) first ∙ ap (λ (ps : List (Tree × Tree)). y ∷ ps) rest

-- ---- pairs put in order one after the other

abbrev pub Runs : List (Tree × Tree) → List (Tree × Tree) → List (Tree × Tree) → Type 0
Runs acc [] final = acc ≡ final
Runs acc (p ∷ ps) final = (has_key p.0 acc ≡ false) × Runs (put p.0 p.1 acc) ps final

put_moves : (acc rest : List (Tree × Tree)) (p : Tree × Tree) → IsPermutation (acc ++ p ∷ rest) (put p.0 p.1 acc ++ rest)
put_moves acc rest p =
    IsPermutation-trans _ _ _ (IsPermutation-middle acc p rest) (IsPermutation-append_left rest (p ∷ acc) (put p.0 p.1 acc) (put_permutes acc p.0 p.1))

pub in_order_runs : (read acc final : List (Tree × Tree)) → RiseFrom [] (pairs_of acc) → IsPermutation (acc ++ read) final → RiseFrom [] (pairs_of final) → Runs acc read final
in_order_runs [] acc final rise same ends =
    let moved : IsPermutation acc final = subst (λ (l : List (Tree × Tree)). IsPermutation l final) (append-nil acc) same in
    rises_same [] [] acc final rise ends (λ z. in_permutation acc final z moved) (λ z. in_permutation final acc z (IsPermutation-sym _ _ moved))
in_order_runs (p ∷ ps) acc final rise same ends =
    let fresh = fresh_from acc ps final p same ends in
    (fresh, in_order_runs ps (put p.0 p.1 acc) final (put_rises [] acc p.0 p.1 rise (after_nothing p.0) fresh) (IsPermutation-trans _ _ _ (IsPermutation-sym _ _ (put_moves acc ps p)) same) ends)

pub runs_in_order : (read acc final : List (Tree × Tree)) → RiseFrom [] (pairs_of acc) → Runs acc read final → RiseFrom [] (pairs_of final) × IsPermutation (acc ++ read) final
runs_in_order [] acc final rise is =
    (subst (λ (l : List (Tree × Tree)). RiseFrom [] (pairs_of l)) is rise, subst (λ (l : List (Tree × Tree)). IsPermutation l final) (sym (append-nil acc)) (subst (λ (l : List (Tree × Tree)). IsPermutation acc l) is (IsPermutation-refl acc)))
runs_in_order (p ∷ ps) acc final rise is =
    let rest = runs_in_order ps (put p.0 p.1 acc) final (put_rises [] acc p.0 p.1 rise (after_nothing p.0) is.0) is.1 in
    (rest.0, IsPermutation-trans _ _ _ (put_moves acc ps p) rest.1)
