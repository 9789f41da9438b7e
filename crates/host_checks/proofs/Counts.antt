-- Tests over lists of which one part is the other's, changed.
use Rattle.std.proofs.Common.{◌≡◌, ℕ, ◌+◌, Bool, true, false, cond, not, ◌&&◌, ◌||◌, List, [], ◌∷◌, ◌++◌, filter, map, refl, sym, ap, ◌∙◌, arith}
use Rattle.std.specs.List.{list_any, list_all}
use Rattle.std.proofs.lemmas.Bool.{cond_both, cond-true, cond-false, cases_Bool, both_ways, false_from_ne_true}
use Rattle.dots_history.specs.Histories.{tally}

-- what passes a test also passes another
abbrev pub Within : {A : Type 0} → (A → Bool) → (A → Bool) → Type 0
Within {A} test sieve = (x : A) → test x ≡ true → sieve x ≡ true

fails : {A : Type 0} (test sieve : A → Bool) (x : A) → Within test sieve → sieve x ≡ false → test x ≡ false
fails test sieve x within out = false_from_ne_true (test x) (λ is. both_ways (sieve x) out (within x is))

tally_sieved : {A : Type 0} (test sieve : A → Bool) (xs : List A) → Within test sieve → tally test (filter sieve xs) ≡ tally test xs
tally_sieved test sieve [] within = refl
tally_sieved test sieve (x ∷ xs) within =
    let go = tally_sieved test sieve xs within in
    cond_both
    (sieve x)
    (x ∷ filter sieve xs)
    (filter sieve xs)
    (λ ys. tally test ys ≡ cond (test x) 1 0 + tally test xs)
    (λ is. ap (λ k. cond (test x) 1 0 + k) go)
    (λ out.
    go
    ∙ (let zero_more : tally test xs ≡ 0 + tally test xs = omega arith in zero_more)
    ∙ sym (ap (λ b. cond b 1 0 + tally test xs) (fails test sieve x within out)))

any_sieved : {A : Type 0} (test sieve : A → Bool) (xs : List A) → Within test sieve → list_any test (filter sieve xs) ≡ list_any test xs
any_sieved test sieve [] within = refl
any_sieved test sieve (x ∷ xs) within =
    let go = any_sieved test sieve xs within in
    cond_both
    (sieve x)
    (x ∷ filter sieve xs)
    (filter sieve xs)
    (λ ys. list_any test ys ≡ (test x || list_any test xs))
    (λ is. ap (λ b. test x || b) go)
    (λ out. go ∙ sym (ap (λ b. b || list_any test xs) (fails test sieve x within out)))

all_sieved : {A : Type 0} (test sieve : A → Bool) (xs : List A) → ((x : A) → sieve x ≡ false → test x ≡ true) → list_all test (filter sieve xs) ≡ list_all test xs
all_sieved test sieve [] beyond = refl
all_sieved test sieve (x ∷ xs) beyond =
    let go = all_sieved test sieve xs beyond in
    cond_both
    (sieve x)
    (x ∷ filter sieve xs)
    (filter sieve xs)
    (λ ys. list_all test ys ≡ (test x && list_all test xs))
    (λ is. ap (λ b. test x && b) go)
    (λ out. go ∙ sym (ap (λ b. b && list_all test xs) (beyond x out)))

-- on what passes the sieve both tests say the same, of a thing and of what it becomes
abbrev pub SaysSame : {A : Type 0} → (A → A) → (A → Bool) → (A → Bool) → (A → Bool) → Type 0
SaysSame {A} f test other sieve = (x : A) → sieve x ≡ true → other (f x) ≡ test x

tally_changed : {A : Type 0} (f : A → A) (test other sieve : A → Bool) (xs : List A) → SaysSame f test other sieve → tally other (map f (filter sieve xs)) ≡ tally test (filter sieve xs)
tally_changed f test other sieve [] same = refl
tally_changed f test other sieve (x ∷ xs) same =
    let go = tally_changed f test other sieve xs same in
    cond_both
    (sieve x)
    (x ∷ filter sieve xs)
    (filter sieve xs)
    (λ ys. tally other (map f ys) ≡ tally test ys)
    (λ is. ap (λ b. cond b 1 0 + tally other (map f (filter sieve xs))) (same x is) ∙ ap (λ k. cond (test x) 1 0 + k) go)
    (λ out. go)

any_changed : {A : Type 0} (f : A → A) (test other sieve : A → Bool) (xs : List A) → SaysSame f test other sieve → list_any other (map f (filter sieve xs)) ≡ list_any test (filter sieve xs)
any_changed f test other sieve [] same = refl
any_changed f test other sieve (x ∷ xs) same =
    let go = any_changed f test other sieve xs same in
    cond_both
    (sieve x)
    (x ∷ filter sieve xs)
    (filter sieve xs)
    (λ ys. list_any other (map f ys) ≡ list_any test ys)
    (λ is. ap (λ b. b || list_any other (map f (filter sieve xs))) (same x is) ∙ ap (λ b. test x || b) go)
    (λ out. go)

all_changed : {A : Type 0} (f : A → A) (test other sieve : A → Bool) (xs : List A) → SaysSame f test other sieve → list_all other (map f (filter sieve xs)) ≡ list_all test (filter sieve xs)
all_changed f test other sieve [] same = refl
all_changed f test other sieve (x ∷ xs) same =
    let go = all_changed f test other sieve xs same in
    cond_both
    (sieve x)
    (x ∷ filter sieve xs)
    (filter sieve xs)
    (λ ys. list_all other (map f ys) ≡ list_all test ys)
    (λ is. ap (λ b. b && list_all other (map f (filter sieve xs))) (same x is) ∙ ap (λ b. test x && b) go)
    (λ out. go)

pub same_tally : {A : Type 0} (f : A → A) (test other sieve beyond : A → Bool) (xs ys : List A) → filter beyond ys ≡ map f (filter sieve xs)
    → Within test sieve → Within other beyond → SaysSame f test other sieve → tally other ys ≡ tally test xs
same_tally f test other sieve beyond xs ys are one two same =
    sym (tally_sieved other beyond ys two) ∙ ap (tally other) are ∙ tally_changed f test other sieve xs same ∙ tally_sieved test sieve xs one

pub same_any : {A : Type 0} (f : A → A) (test other sieve beyond : A → Bool) (xs ys : List A) → filter beyond ys ≡ map f (filter sieve xs)
    → Within test sieve → Within other beyond → SaysSame f test other sieve → list_any other ys ≡ list_any test xs
same_any f test other sieve beyond xs ys are one two same =
    sym (any_sieved other beyond ys two) ∙ ap (list_any other) are ∙ any_changed f test other sieve xs same ∙ any_sieved test sieve xs one

pub same_all : {A : Type 0} (f : A → A) (test other sieve beyond : A → Bool) (xs ys : List A) → filter beyond ys ≡ map f (filter sieve xs)
    → ((x : A) → sieve x ≡ false → test x ≡ true) → ((x : A) → beyond x ≡ false → other x ≡ true) → SaysSame f test other sieve → list_all other ys ≡ list_all test xs
same_all f test other sieve beyond xs ys are one two same =
    sym (all_sieved other beyond ys two) ∙ ap (list_all other) are ∙ all_changed f test other sieve xs same ∙ all_sieved test sieve xs one
