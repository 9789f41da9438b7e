-- The place of a row in the ledger.
use Rattle.std.proofs.Common.{◌≡◌, ℕ, zero, suc, ◌<◌, Bool, true, false, List, [], ◌∷◌, ◌++◌, length, get_or, set, refl, sym, ap, ◌∙◌, arith}
use Rattle.std.specs.Prelude.{◌==◌, nat_le, nat_lt}
use Rattle.std.specs.List.{insert}
use Rattle.std.proofs.lemmas.Bool.{cond-true, cond-false, lt-ltb, leb-true, leb-false, le-ltb}
use Rattle.coap_exchange.proofs.Firsts.{NoneBefore, NonePasses}
use Rattle.dots_client.specs.declared.granted.Granted.{Granted}
use Rattle.dots_client.specs.Ledger.{with_row}

abbrev pub not_below : Granted → Granted → Bool
not_below row r = nat_le row.mid r.mid

lower : (row r : Granted) (rs : List Granted) → not_below row r ≡ false → with_row row (r ∷ rs) ≡ r ∷ with_row row rs
lower row r rs is =
    let less = leb-false row.mid r.mid is in
    cond-true (nat_lt r.mid row.mid) (r ∷ with_row row rs) _ (lt-ltb r.mid row.mid (omega (arith, less)))

-- all are of lower mids
pub row_last : (row : Granted) (rows : List Granted) → NonePasses (not_below row) rows → with_row row rows ≡ rows ++ row ∷ []
row_last row [] none = refl
row_last row (r ∷ rs) none = lower row r rs none.0 ∙ ap (λ (ys : List Granted). r ∷ ys) (row_last row rs none.1)

not_lower : (row r : Granted) → not_below row r ≡ true → nat_lt r.mid row.mid ≡ false
not_lower row r is = le-ltb r.mid row.mid (leb-true row.mid r.mid is)

-- a row of the same mid stands there
pub row_over : (row : Granted) (rows : List Granted) (place : ℕ) (d : Granted) → place < length rows → not_below row (get_or rows place d) ≡ true → NoneBefore (not_below row) rows place d
    → ((get_or rows place d).mid == row.mid) ≡ true → set rows place row ≡ with_row row rows
row_over row [] place d less is before same = absurd (omega (arith, less))
row_over row (r ∷ rs) zero d less is before same =
    sym (cond-false (nat_lt r.mid row.mid) (r ∷ with_row row rs) _ (not_lower row r is) ∙ cond-true (r.mid == row.mid) (row ∷ rs) (row ∷ r ∷ rs) same)
row_over row (r ∷ rs) (suc place) d less is before same =
    ap (λ (ys : List Granted). r ∷ ys) (row_over row rs place d (omega (arith, less)) is (λ k below. before (suc k) (omega (arith, below))) same)
    ∙ sym (lower row r rs (before zero (omega arith)))

-- one of a higher mid stands there
pub row_before : (row : Granted) (rows : List Granted) (place : ℕ) (d : Granted) → place < length rows → not_below row (get_or rows place d) ≡ true → NoneBefore (not_below row) rows place d
    → ((get_or rows place d).mid == row.mid) ≡ false → insert rows place row ≡ with_row row rows
row_before row [] place d less is before other = absurd (omega (arith, less))
row_before row (r ∷ rs) zero d less is before other =
    sym (cond-false (nat_lt r.mid row.mid) (r ∷ with_row row rs) _ (not_lower row r is) ∙ cond-false (r.mid == row.mid) (row ∷ rs) (row ∷ r ∷ rs) other)
row_before row (r ∷ rs) (suc place) d less is before other =
    ap (λ (ys : List Granted). r ∷ ys) (row_before row rs place d (omega (arith, less)) is (λ k below. before (suc k) (omega (arith, below))) other)
    ∙ sym (lower row r rs (before zero (omega arith)))
