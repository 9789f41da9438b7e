-- What holds of each element, by recursion on the list.
use Rattle.std.proofs.Common.{◌≡◌, ℕ, ◌<◌, Bool, false, List, [], ◌∷◌, map, length, take, drop, get_or, zero, suc, refl, ap, arith}
use Rattle.std.specs.List.{insert, remove, AllByRecursion}
use Rattle.std.proofs.lemmas.List.Elements.{All-from_recursion}

pub each_insert : {A : Type 0} → (P : A → Type 0) (xs : List A) (i : ℕ) (x : A) → P x → AllByRecursion P xs → AllByRecursion P (insert xs i x)
each_insert P [] zero x one all = (one, all)
each_insert P [] (suc i) x one all = (one, all)
each_insert P (y ∷ xs) zero x one all = (one, all)
each_insert P (y ∷ xs) (suc i) x one all = (all.0, each_insert P xs i x one all.1)

pub each_remove : {A : Type 0} → (P : A → Type 0) (xs : List A) (i : ℕ) → AllByRecursion P xs → AllByRecursion P (remove xs i)
each_remove P [] zero all = all
each_remove P [] (suc i) all = all
each_remove P (y ∷ xs) zero all = all.1
each_remove P (y ∷ xs) (suc i) all = (all.0, each_remove P xs i all.1)

pub each_take : {A : Type 0} → (P : A → Type 0) (n : ℕ) (xs : List A) → AllByRecursion P xs → AllByRecursion P (take n xs)
each_take P zero xs all = tt
each_take P (suc n) [] all = tt
each_take P (suc n) (x ∷ xs) all = (all.0, each_take P n xs all.1)

pub each_drop : {A : Type 0} → (P : A → Type 0) (n : ℕ) (xs : List A) → AllByRecursion P xs → AllByRecursion P (drop n xs)
each_drop P zero xs all = all
each_drop P (suc n) [] all = tt
each_drop P (suc n) (x ∷ xs) all = each_drop P n xs all.1

pub each_weaker : {A : Type 0} → (P Q : A → Type 0) → ((x : A) → P x → Q x) → (xs : List A) → AllByRecursion P xs → AllByRecursion Q xs
each_weaker P Q step [] all = all
each_weaker P Q step (x ∷ xs) all = (step x all.0, each_weaker P Q step xs all.1)

pub each_both : {A : Type 0} → (P Q R : A → Type 0) → ((x : A) → P x → Q x → R x) → (xs : List A) → AllByRecursion P xs → AllByRecursion Q xs → AllByRecursion R xs
each_both P Q R step [] all other = tt
each_both P Q R step (x ∷ xs) all other = (step x all.0 other.0, each_both P Q R step xs all.1 other.1)

pub each_map : {A B : Type 0} → (P : B → Type 0) (f : A → B) (xs : List A) → AllByRecursion (λ x. P (f x)) xs → AllByRecursion P (map f xs)
each_map P f [] all = tt
each_map P f (x ∷ xs) all = (all.0, each_map P f xs all.1)

pub each_at : {A : Type 0} → (P : A → Type 0) (xs : List A) (i : ℕ) (d : A) → AllByRecursion P xs → i < length xs → P (get_or xs i d)
each_at P xs i d all within = All-from_recursion P xs all i d within

pub map_insert : {A B : Type 0} → (f : A → B) (xs : List A) (i : ℕ) (x : A) → map f (insert xs i x) ≡ insert (map f xs) i (f x)
map_insert f [] zero x = refl
map_insert f [] (suc i) x = refl
map_insert f (y ∷ xs) zero x = refl
map_insert f (y ∷ xs) (suc i) x = ap (λ zs. f y ∷ zs) (map_insert f xs i x)

pub map_remove : {A B : Type 0} → (f : A → B) (xs : List A) (i : ℕ) → map f (remove xs i) ≡ remove (map f xs) i
map_remove f [] zero = refl
map_remove f [] (suc i) = refl
map_remove f (y ∷ xs) zero = refl
map_remove f (y ∷ xs) (suc i) = ap (λ zs. f y ∷ zs) (map_remove f xs i)

pub none_there : {A : Type 0} → (xs : List A) → length xs ≡ 0 → xs ≡ []
none_there [] none = refl
none_there (x ∷ xs) none = absurd (omega (arith, none))
