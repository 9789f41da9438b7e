-- Observers that go.
use Rattle.std.proofs.Common.{◌≡◌, Bool, cond, List, [], ◌∷◌, filter, refl, ap, ◌∙◌}
use Rattle.std.specs.Prelude.{not}
use Rattle.coap_exchange.proofs.Firsts.{NonePasses}

-- where none passes, none goes
pub all_stay : {A : Type 0} (test : A → Bool) (xs : List A) → NonePasses test xs → filter (λ x. not (test x)) xs ≡ xs
all_stay test [] none = refl
all_stay test (x ∷ xs) none =
    ap (λ b. cond (not b) (x ∷ filter (λ y. not (test y)) xs) (filter (λ y. not (test y)) xs)) none.0
    ∙ ap (λ ys. x ∷ ys) (all_stay test xs none.1)
