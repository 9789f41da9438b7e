-- The rows of a file: its lines that aren't skipped, each with its number, its text and what it says.
use Rattle.std.specs.Prelude.{◌≡◌, ℕ, ◌+◌, List, [], ◌∷◌}
use Rattle.std.specs.Bool.{MatchBool}
use Rattle.dots_settings.specs.Form.{FormValue, Says}
use Rattle.dots_settings.specs.Lines.{is_skipped}

pub record Row : Type 0 where
  -- of the line, from 1 on; lines that are skipped count
  pub number : ℕ
  pub text : List ℕ
  pub form : FormValue

abbrev pub row_of : ℕ → List ℕ → FormValue → Row
row_of number text form = record { number = number; text = text; form = form }

-- each of the lines, the first of which has this number, is skipped or has a form, and these are the rows of the latter
abbrev pub AreRows : ℕ → List (List ℕ) → List Row → Type 0
AreRows number [] rows = rows ≡ []
AreRows number (line ∷ lines) rows = MatchBool (is_skipped line)
    (AreRows (number + 1) lines rows)
    ((form : FormValue) × (later : List Row) × Says line form × (rows ≡ row_of number line form ∷ later) × AreRows (number + 1) lines later)
