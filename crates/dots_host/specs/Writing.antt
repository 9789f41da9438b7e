-- What a call that wrote a text left in a sink.
use Rattle.std.specs.Prelude.{◌≡◌, ℕ, ◌⊎◌, List, ◌++◌, Option}
use Rattle.std.specs.Io.KnownBytes.{Appends}

-- what is known to be held grew by a beginning of the text, which may be empty
pub record AppendsBeginning (old new : Option (List ℕ)) (text : List ℕ) : Type 0 where
  pub front : List ℕ
  pub rest : List ℕ
  pub split : text ≡ front ++ rest
  pub appends : Appends old new front

-- The text was written but for what is owed at its end.
pub record Owes (old new : Option (List ℕ)) (text rest : List ℕ) : Type 0 where
  pub front : List ℕ
  pub split : text ≡ front ++ rest
  pub appends : Appends old new front

-- the text was written, or for this cause only a beginning of it
abbrev pub Writes : Option (List ℕ) → Option (List ℕ) → List ℕ → Type 0 → Type 0
Writes old new text cause = Appends old new text ⊎ (AppendsBeginning old new text × cause)
