-- A request is contested exactly where a prefix of it meets a mitigation of another client.
use Rattle.std.proofs.Common.{◌≡◌, ℕ, ◌+◌, ◌*◌, Bool, true, false, ◌&&◌, ◌||◌, nat_lt, List, [], ◌∷◌, ◌++◌, map, if◌then◌else◌, refl, sym, ap, ◌∙◌, arith}
use Rattle.std.specs.List.{list_any}
use Rattle.ip_scope.specs.Prefix.{PrefixValue, meets, inside}
use Rattle.dots_history.specs.declared.put.Put.{Put}
use Rattle.dots_history.specs.declared.put.Target.{Target}
use Rattle.dots_history.specs.Entries.{some_prefix, overlaps, targets_meet}
use Rattle.conflict_rules.specs.declared.live.Live.{Live}
use Rattle.conflict_rules.specs.Live.{stands_against}
use Rattle.conflict_rules.specs.ByOverlap.{bits, resolved, meets_another, meeting, is_contested}

or_false : (a : Bool) → a || false ≡ a
or_false true = refl
or_false false = refl

or_turned : (a b : Bool) → a || b ≡ b || a
or_turned true true = refl
or_turned true false = refl
or_turned false true = refl
or_turned false false = refl

or_middle : (a b c d : Bool) → (a || b) || (c || d) ≡ (a || c) || (b || d)
or_middle true b c d = refl
or_middle false true true d = refl
or_middle false true false d = refl
or_middle false false true d = refl
or_middle false false false d = refl

or_more : (a b c : Bool) → (a || b) || c ≡ a || (b || c)
or_more true b c = refl
or_more false b c = refl

any_same : {A : Type 0} (p q : A → Bool) (xs : List A) → ((x : A) → p x ≡ q x) → list_any p xs ≡ list_any q xs
any_same p q [] same = refl
any_same p q (x ∷ xs) same = ap (λ b. b || list_any p xs) (same x) ∙ ap (λ b. q x || b) (any_same p q xs same)

any_none : {A : Type 0} (xs : List A) → list_any (λ x. false) xs ≡ false
any_none [] = refl
any_none (x ∷ xs) = any_none xs

any_or : {A : Type 0} (p q : A → Bool) (xs : List A) → list_any (λ x. p x || q x) xs ≡ list_any p xs || list_any q xs
any_or p q [] = refl
any_or p q (x ∷ xs) = ap (λ b. (p x || q x) || b) (any_or p q xs) ∙ or_middle (p x) (q x) (list_any p xs) (list_any q xs)

any_and : {A : Type 0} (b : Bool) (p : A → Bool) (xs : List A) → list_any (λ x. b && p x) xs ≡ b && list_any p xs
any_and true p xs = refl
any_and false p xs = any_none xs

any_turned : {A B : Type 0} (r : A → B → Bool) (xs : List A) (ys : List B) → list_any (λ x. list_any (r x) ys) xs ≡ list_any (λ y. list_any (λ x. r x y) xs) ys
any_turned r [] ys = sym (any_none ys)
any_turned r (x ∷ xs) ys = ap (λ b. list_any (r x) ys || b) (any_turned r xs ys) ∙ sym (any_or (r x) (λ y. list_any (λ x. r x y) xs) ys)

any_append : {A : Type 0} (p : A → Bool) (xs ys : List A) → list_any p (xs ++ ys) ≡ list_any p xs || list_any p ys
any_append p [] ys = refl
any_append p (x ∷ xs) ys = ap (λ b. p x || b) (any_append p xs ys) ∙ sym (or_more (p x) (list_any p xs) (list_any p ys))

some_resolved : (test : PrefixValue → Bool) (targets : List Target) → some_prefix test targets ≡ list_any test (resolved targets)
some_resolved test [] = refl
some_resolved test (x ∷ xs) = ap (λ b. list_any test x.prefixes || b) (some_resolved test xs) ∙ sym (any_append test x.prefixes (resolved xs))

-- a prefix of the one meets one of the other, either way round
meet_turned : (own others : List Target) → some_prefix (λ p. some_prefix (meets p) others) own ≡ list_any (λ q. some_prefix (meets q) own) (resolved others)
meet_turned own others =
    some_resolved (λ p. some_prefix (meets p) others) own
    ∙ any_same (λ p. some_prefix (meets p) others) (λ p. list_any (meets p) (resolved others)) (resolved own) (λ p. some_resolved (meets p) others)
    ∙ any_turned meets (resolved own) (resolved others)
    ∙ any_same (λ q. list_any (λ p. meets p q) (resolved own)) (λ q. some_prefix (meets q) own) (resolved others)
    (λ q. any_same (λ p. meets p q) (meets q) (resolved own) (λ p. or_turned (inside p q) (inside q p)) ∙ sym (some_resolved (meets q) own))

against : List ℕ → Put → Live → Bool
against cuid request m = list_any (λ q. stands_against cuid m && some_prefix (meets q) m.put.targets) (resolved request.targets)

overlaps_against : (cuid : List ℕ) (request : Put) (m : Live) → stands_against cuid m && overlaps false m.put request ≡ against cuid request m
unfolding against overlaps targets_meet
overlaps_against cuid request m =
    ap (λ b. stands_against cuid m && b) (or_false (some_prefix (λ p. some_prefix (meets p) request.targets) m.put.targets) ∙ meet_turned m.put.targets request.targets)
    ∙ sym (any_and (stands_against cuid m) (λ q. some_prefix (meets q) m.put.targets) (resolved request.targets))

contested_meets : (live : List Live) (cuid : List ℕ) (request : Put) → is_contested live cuid request ≡ list_any (meets_another live cuid) (resolved request.targets)
unfolding against
contested_meets live cuid request =
    any_same (λ m. stands_against cuid m && overlaps false m.put request) (against cuid request) live (overlaps_against cuid request)
    ∙ any_turned (λ m q. stands_against cuid m && some_prefix (meets q) m.put.targets) live (resolved request.targets)

bit_any : (b : Bool) (rest : ℕ) (some : Bool) → nat_lt 0 rest ≡ some → nat_lt 0 ((if b then 1 else 0) + 2 * rest) ≡ b || some
bit_any true rest some e = grind arith
bit_any false rest true e = grind (arith, e)
bit_any false rest false e = grind (arith, e)

bits_any : {A : Type 0} (test : A → Bool) (xs : List A) → nat_lt 0 (bits (map test xs)) ≡ list_any test xs
bits_any test [] = refl
bits_any test (x ∷ xs) = bit_any (test x) (bits (map test xs)) (list_any test xs) (bits_any test xs)

pub contested_marked : (live : List Live) (cuid : List ℕ) (request : Put) → is_contested live cuid request ≡ nat_lt 0 (meeting live cuid request.targets)
contested_marked live cuid request = contested_meets live cuid request ∙ sym (bits_any (meets_another live cuid) (resolved request.targets))
