-- Texts with commas between them.
use Rattle.std.proofs.Common.{◌≡◌, ℕ, List, [], ◌∷◌, ◌++◌, codes, flat_map, refl, sym, ap, ◌∙◌, append_assoc}
use Rattle.dots_machine.specs.Report.{behind_commas, any_or, texts_of}

module _ {X : Type 0} (text : X → List ℕ) where
  abbrev pub behind_comma : X → List ℕ
  behind_comma x = codes "," ++ text x

  each_behind_comma : (xs : List X) → behind_commas (texts_of text xs) ≡ flat_map behind_comma xs
  each_behind_comma [] = refl
  each_behind_comma (x ∷ xs) = ap (λ rest. codes "," ++ (text x ++ rest)) (each_behind_comma xs)

  -- the first stands behind no comma, and each other one does
  pub first_and_others : (before : List ℕ) (all : List X) (x : X) (xs : List X) → all ≡ x ∷ xs → before ++ any_or (texts_of text all) ≡ (before ++ text x) ++ flat_map behind_comma xs
  first_and_others before all x xs is =
      ap (λ all. before ++ any_or (texts_of text all)) is ∙ ap (λ rest. before ++ (text x ++ rest)) (each_behind_comma xs)
      ∙ sym (append_assoc before (text x) (flat_map behind_comma xs))
