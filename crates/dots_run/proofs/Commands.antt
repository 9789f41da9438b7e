-- Words whose events are served name one of two commands.
use Rattle.std.proofs.Common.{◌≡◌, ℕ, Bool, true, false, ◌||◌, List, refl, sym, subst}
use Rattle.dots_machine.specs.Commands.{is_replay, is_serve, is_served}

pub served_by : (words : List (List ℕ)) (P : Type 0) → is_served words ≡ true → (is_replay words ≡ true → P) → (is_serve words ≡ true → P) → P
served_by words P served = by (is_replay words) (is_serve words) served
  where
    by : (a b : Bool) → (a || b) ≡ true → (a ≡ true → P) → (b ≡ true → P) → P
    by true b is p q = p refl
    by false true is p q = q refl
    by false false is p q = absurd (cc is)

or_true : (b : Bool) → (b || true) ≡ true
or_true true = refl
or_true false = refl

pub serve_is_served : (words : List (List ℕ)) → is_serve words ≡ true → is_served words ≡ true
serve_is_served words serve = subst (λ b. (is_replay words || b) ≡ true) (sym serve) (or_true (is_replay words))
