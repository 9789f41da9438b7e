-- Numbers in decimal text.
use Rattle.std.proofs.Common.{◌≡◌, ◌≢◌, ℕ, ◌<◌, ◌≤◌, ◌^◌, List, decimal, sym, ◌∙◌, arith}
use Rattle.std.proofs.lemmas.Fmt.{decimal_injective}

-- a text that writes a number from a bound on writes none below it
pub too_large : (text : List ℕ) (bound found number : ℕ) → bound < 10 ^ 19 → found < 10 ^ 19 → bound ≤ found → text ≡ decimal found → number < bound → text ≢ decimal number
too_large text bound found number small fits above is below same =
    let equal : found ≡ number = decimal_injective found number (omega arith) (omega arith) (sym is ∙ same) in
    absurd (omega arith)
