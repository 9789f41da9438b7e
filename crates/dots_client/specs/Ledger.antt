-- The ledger of what was granted.
use Rattle.std.specs.Prelude.{ℕ, ◌==◌, nat_lt, if◌then◌else◌, List, [], ◌∷◌}
use Rattle.coap_exchange.specs.Firsts.{without_first}
use Rattle.dots_client.specs.declared.granted.Granted.{Granted}
use Rattle.dots_client.specs.Client.{has_mid}

-- a row of a mid takes the place of the one before it, and stands between those of lower and of higher mids
abbrev pub with_row : Granted → List Granted → List Granted
with_row row [] = row ∷ []
with_row row (r ∷ rs) =
    if nat_lt r.mid row.mid then r ∷ with_row row rs else if r.mid == row.mid then row ∷ rs else row ∷ r ∷ rs

abbrev pub without_row : ℕ → List Granted → List Granted
without_row mid ledger = without_first (has_mid mid) ledger
