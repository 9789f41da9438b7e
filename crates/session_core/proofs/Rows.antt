-- The rows that the first of a kind is looked for in.
use Rattle.std.proofs.Common.{◌≡◌, ℕ, ◌+◌, ◌<◌, Bool, true, false, List, ◌∷◌, ◌++◌, length, take, drop, get_or, set, sym, ap, ◌∙◌, arith}
use Rattle.std.specs.List.{list_any}
use Rattle.std.proofs.lemmas.Grind.{common_steps}
use Rattle.std.proofs.lemmas.List.{take-append-drop, take-set, drop-set}
use Rattle.session_core.specs.declared.contact.PeerContact.{PeerContact}
use Rattle.session_core.specs.Firsts.{IsFirst}

pub cut : (xs : List PeerContact) (i : ℕ) (d : PeerContact) → i < length xs → xs ≡ take i xs ++ get_or xs i d ∷ drop (i + 1) xs
cut xs i d less = grind (arith, common_steps, less)

pub placed_in : (xs : List PeerContact) (i : ℕ) (x : PeerContact) → i < length xs → set xs i x ≡ take i xs ++ x ∷ drop (i + 1) xs
placed_in xs i x less =
    sym (take-append-drop i (set xs i x))
    ∙ ap (λ ys. ys ++ drop i (set xs i x)) (take-set xs i x)
    ∙ ap (λ ys. take i xs ++ ys) (drop-set xs i x less)

pub first_here : (test : PeerContact → Bool) (becomes : PeerContact → PeerContact) (old rows : List PeerContact) (i : ℕ) (d new : PeerContact)
    → i < length old → rows ≡ old → list_any test (take i old) ≡ false → test (get_or rows i d) ≡ true → new ≡ becomes (get_or rows i d)
    → IsFirst test becomes old (set rows i new) (get_or rows i d)
first_here test becomes old rows i d new less are none passes is = record {
  front = take i old;
  rest = drop (i + 1) old;
  there = cut old i d less ∙ ap (λ xs. take i old ++ get_or xs i d ∷ drop (i + 1) old) (sym are);
  none = none;
  passes = passes;
  after = ap (λ xs. set xs i new) are ∙ placed_in old i new less ∙ ap (λ x. take i old ++ x ∷ drop (i + 1) old) is;
}
