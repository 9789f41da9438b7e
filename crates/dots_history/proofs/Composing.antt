-- Keeping composes.
use Rattle.std.proofs.Common.{ℕ, ◌≤◌, List, [], ◌∷◌, ◌++◌, inl, inr, refl, sym, ap, ◌∙◌}
use Rattle.dots_history.specs.declared.entry.Entry.{Entry}
use Rattle.dots_history.specs.Histories.{Within, IsPart, Kept}
use Rattle.dots_history.specs.Views.{view_at}
use Rattle.dots_history.proofs.Ageing.{ageing}
use Rattle.dots_history.proofs.GoingOn.{go_on}

pub part_refl : {A : Type 0} (xs : List A) → IsPart xs xs
part_refl [] = record {}
part_refl (x ∷ xs) = inl (refl, part_refl xs)

pub part_trans : {A : Type 0} (xs ys zs : List A) → IsPart xs ys → IsPart ys zs → IsPart xs zs
part_trans [] ys zs first second = record {}
part_trans (x ∷ xs) [] zs first second = absurd first
part_trans (x ∷ xs) (y ∷ ys) [] first second = absurd second
part_trans (x ∷ xs) (y ∷ ys) (z ∷ zs) (inl first) (inl second) = inl (first.0 ∙ second.0, part_trans xs ys zs first.1 second.1)
part_trans (x ∷ xs) (y ∷ ys) (z ∷ zs) (inr first) (inl second) = inr (part_trans (x ∷ xs) ys zs first second.1)
part_trans (x ∷ xs) (y ∷ ys) (z ∷ zs) first (inr second) = inr (part_trans (x ∷ xs) (y ∷ ys) zs first second)

pub part_more : {A : Type 0} (xs : List A) (y : A) (ys : List A) → IsPart xs ys → IsPart xs (y ∷ ys)
part_more [] y ys part = record {}
part_more (x ∷ xs) y ys part = inr part

-- the same after both
pub part_append : {A : Type 0} (xs ys more : List A) → IsPart xs ys → IsPart (xs ++ more) (ys ++ more)
part_append [] [] more part = part_refl more
part_append [] (y ∷ ys) more part = part_more more y (ys ++ more) (part_append [] ys more (record {}))
part_append (x ∷ xs) [] more part = absurd part
part_append (x ∷ xs) (y ∷ ys) more (inl part) = inl (part.0, part_append xs ys more part.1)
part_append (x ∷ xs) (y ∷ ys) more (inr part) = inr (part_append (x ∷ xs) ys more part)

pub kept_refl : (n t : ℕ) (entries : List Entry) → Kept n t entries entries
kept_refl n t entries = record { is_part = part_refl entries; same_view = refl }

pub kept_trans : (n t : ℕ) (fewest few all : List Entry) → Kept n t fewest few → Kept n t few all → Kept n t fewest all
kept_trans n t fewest few all first second = record {
  is_part = part_trans fewest few all first.is_part second.is_part;
  same_view = first.same_view ∙ second.same_view;
}

pub kept_later : (n t u : ℕ) (few all : List Entry) → t ≤ u → Kept n t few all → Kept n u few all
kept_later n t u few all less keeps = record {
  is_part = keeps.is_part;
  same_view = ageing n t u few less ∙ ap (view_at u) keeps.same_view ∙ sym (ageing n t u all less);
}

pub kept_more : (n t u : ℕ) (few all more : List Entry) → Kept n t few all → Within t more u → Kept n u (few ++ more) (all ++ more)
kept_more n t u few all more keeps within = record {
  is_part = part_append few all more keeps.is_part;
  same_view = go_on n t u few all more keeps.same_view within;
}
