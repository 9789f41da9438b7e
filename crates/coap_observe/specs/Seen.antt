-- What an observer sees: mids with their statuses, in order.
use Rattle.std.specs.Prelude.{ℕ, Bool, true, false, ◌&&◌, ◌==◌, List, [], ◌∷◌, Option}
use Rattle.coap_observe.specs.declared.observer.Observer.{Observer}

-- what there is to see, by domain, cuid and mid
abbrev pub Lists : Type 0
Lists = ℕ → List ℕ → Option ℕ → List (ℕ × ℕ)

-- what there is to see for an observer
abbrev pub list_for : Lists → Observer → List (ℕ × ℕ)
list_for lists observer = lists observer.domain observer.cuid observer.mid

-- the same mid with the same status
abbrev pub same_one : ℕ × ℕ → ℕ × ℕ → Bool
same_one a b = (a.0 == b.0) && (a.1 == b.1)

-- the same mids with the same statuses in the same order
abbrev pub same_seen : List (ℕ × ℕ) → List (ℕ × ℕ) → Bool
same_seen [] [] = true
same_seen [] (y ∷ ys) = false
same_seen (x ∷ xs) [] = false
same_seen (x ∷ xs) (y ∷ ys) = same_one x y && same_seen xs ys
