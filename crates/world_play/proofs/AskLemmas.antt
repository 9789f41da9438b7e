-- A mitigation that stands in a ledger has a scope.
use Rattle.std.proofs.Common.{◌≡◌, ℕ, List, Option, Some, None, refl}
use Rattle.std.specs.Prelude.{IsTrue, option_map}
use Rattle.std.specs.List.{find, list_any}
use Rattle.acl_lists.specs.declared.asked.Asked.{Asked}
use Rattle.dots_client.specs.declared.granted.Granted.{Granted}
use Rattle.dots_client.specs.Client.{has_mid}
use Rattle.dots_client.proofs.Beside.{any_found}

none_of : (found : Option Granted) → option_map (λ (row : Granted). row.asked) found ≡ None → found ≡ None
none_of None none = refl
none_of (Some row) none = absurd (cc none)

pub scope_there : (mid : ℕ) (ledger : List Granted) → IsTrue (list_any (has_mid mid) ledger) → option_map (λ (row : Granted). row.asked) (find (has_mid mid) ledger) ≡ None → ⊥
scope_there mid ledger there none = any_found (has_mid mid) ledger there (none_of (find (has_mid mid) ledger) none)
