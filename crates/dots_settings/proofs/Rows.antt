-- The rows of lines, one more line at a time.
use Rattle.std.proofs.Common.{◌≡◌, ℕ, ◌+◌, Bool, true, false, List, [], ◌∷◌, ◌++◌, length, refl, sym, ap, subst, ◌∙◌, append_assoc, append-nil, arith, None}
use Rattle.std.specs.Bool.{MatchBool}
use Rattle.dots_settings.specs.Lines.{is_skipped}
use Rattle.dots_settings.specs.Form.{FormValue, Says}
use Rattle.dots_settings.specs.Row.{Row, row_of, AreRows}
use Rattle.dots_settings.specs.Draft.{draft_of}
use Rattle.dots_settings.specs.Faults.{fault_of}
use Rattle.dots_settings.specs.File.{AreFaultless, Stand}

-- one more line, which is skipped
pub rows_then_skipped : (number : ℕ) (lines : List (List ℕ)) (rows : List Row) (line : List ℕ) → AreRows number lines rows → is_skipped line ≡ true → AreRows number (lines ++ line ∷ []) rows
rows_then_skipped number [] rows line are skipped = rw skipped are
rows_then_skipped number (first ∷ lines) rows line are skipped = by (λ later are. rows_then_skipped (number + 1) lines later line are skipped) (is_skipped first) are
  where
    by : ((later : List Row) → AreRows (number + 1) lines later → AreRows (number + 1) (lines ++ line ∷ []) later) → (b : Bool)
        → MatchBool b (AreRows (number + 1) lines rows) ((form : FormValue) × (later : List Row) × Says first form × (rows ≡ row_of number first form ∷ later) × AreRows (number + 1) lines later)
        → MatchBool b (AreRows (number + 1) (lines ++ line ∷ []) rows) ((form : FormValue) × (later : List Row) × Says first form × (rows ≡ row_of number first form ∷ later) × AreRows (number + 1) (lines ++ line ∷ []) later)
    by behind true are = behind rows are
    by behind false (form, later, says, is, are) = (form, later, says, is, behind later are)

-- one more line, which has a form
pub rows_then_row : (number at : ℕ) (lines : List (List ℕ)) (rows : List Row) (line : List ℕ) (form : FormValue) → AreRows number lines rows → is_skipped line ≡ false → Says line form
    → at ≡ number + length lines → AreRows number (lines ++ line ∷ []) (rows ++ row_of at line form ∷ [])
rows_then_row number at [] rows line form are unskipped says place =
    let here : at ≡ number = omega arith in
    let only : rows ++ row_of at line form ∷ [] ≡ row_of number line form ∷ [] = ap (λ xs. xs ++ row_of at line form ∷ []) are ∙ ap (λ n. row_of n line form ∷ []) here in
    rw unskipped (form, [], says, only, refl)
rows_then_row number at (first ∷ lines) rows line form are unskipped says place =
    by (λ later are. rows_then_row (number + 1) at lines later line form are unskipped says (omega arith)) (is_skipped first) are
  where
    by : ((later : List Row) → AreRows (number + 1) lines later → AreRows (number + 1) (lines ++ line ∷ []) (later ++ row_of at line form ∷ [])) → (b : Bool)
        → MatchBool b (AreRows (number + 1) lines rows) ((said : FormValue) × (later : List Row) × Says first said × (rows ≡ row_of number first said ∷ later) × AreRows (number + 1) lines later)
        → MatchBool b (AreRows (number + 1) (lines ++ line ∷ []) (rows ++ row_of at line form ∷ []))
        ((said : FormValue) × (later : List Row) × Says first said × (rows ++ row_of at line form ∷ [] ≡ row_of number first said ∷ later) × AreRows (number + 1) (lines ++ line ∷ []) later)
    by behind true are = behind rows are
    by behind false (said, later, says, is, are) = (said, later ++ row_of at line form ∷ [], says, ap (λ xs. xs ++ row_of at line form ∷ []) is, behind later are)

-- one more row without a fault
pub faultless_then : (before rows : List Row) (row : Row) → AreFaultless before rows → fault_of (draft_of (before ++ rows)) row.number row.form ≡ None → AreFaultless before (rows ++ row ∷ [])
faultless_then before [] row are none = (subst (λ (xs : List Row). fault_of (draft_of xs) row.number row.form ≡ None) (append-nil before) none, tt)
faultless_then before (first ∷ rows) row are none =
    (are.0, faultless_then (before ++ first ∷ []) rows row are.1 (subst (λ (xs : List Row). fault_of (draft_of xs) row.number row.form ≡ None) (sym (append_assoc before (first ∷ []) rows)) none))

pub stand_none : Stand [] []
stand_none = record { read = refl; faultless = tt }

pub stand_then_skipped : (lines : List (List ℕ)) (rows : List Row) (line : List ℕ) → Stand lines rows → is_skipped line ≡ true → Stand (lines ++ line ∷ []) rows
stand_then_skipped lines rows line stand skipped = record { read = rows_then_skipped 1 lines rows line stand.read skipped; faultless = stand.faultless }

pub stand_then_row : (lines : List (List ℕ)) (rows : List Row) (line : List ℕ) (form : FormValue) (number : ℕ) → Stand lines rows → is_skipped line ≡ false → Says line form → number ≡ length lines + 1
    → fault_of (draft_of rows) number form ≡ None → Stand (lines ++ line ∷ []) (rows ++ row_of number line form ∷ [])
stand_then_row lines rows line form number stand unskipped says place none = record {
  read = rows_then_row 1 number lines rows line form stand.read unskipped says (omega arith);
  faultless = faultless_then [] rows (row_of number line form) stand.faultless none;
}
