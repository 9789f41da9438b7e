-- What a client may ask for.
use Rattle.std.specs.Prelude.{true, ℕ, ℤ, ◌^◌, ◌<◌, ◌≤◌, List, IsTrue, Some, None, Result, Ok, Err, if◌then◌else◌}
use Rattle.std.specs.List.{AllByRecursion}
use Rattle.acl_lists.specs.declared.asked.Asked.{Asked}
use Rattle.dots_keys.specs.declared.reject.Reject.{Reject}
use Rattle.dots_keys.specs.Results.{missing}
use Rattle.dots_keys.specs.declared.request.Request.{Request}
use Rattle.dots_keys.specs.declared.request.Request.TheVariants as request
use Rattle.dots_keys.specs.Askable.{AreFew}
use Rattle.dots_keys.specs.Mitigations.{has_target}
use Rattle.dots_lists.specs.Name.{is_name}
use Rattle.ip_scope.specs.Ports.{Ports}
use Rattle.ip_scope.specs.Prefix.{IsPrefix}

-- a range of ports
abbrev pub IsRange : Ports → Type 0
IsRange ports = (ports.lower ≤ ports.upper) × (ports.upper < 2 ^ 16)

-- the lists within their numbers, with what the types of their items say
pub record CanAsk (asked : Asked) : Type 0 where
  pub few : AreFew asked
  pub prefixes : AllByRecursion IsPrefix asked.prefixes
  pub ports : AllByRecursion IsRange asked.ports
  pub protocols : AllByRecursion (λ (n : ℕ). n < 256) asked.protocols
  pub names : AllByRecursion (λ (name : List ℕ). IsTrue (is_name name)) asked.names
  pub aliases : AllByRecursion (λ (name : List ℕ). IsTrue (is_name name)) asked.aliases

-- what a server is to read of a request: what was asked, or that there is no prefix, name or alias
abbrev pub asked_for : List ℕ → ℕ → Asked → ℤ → Result Request Reject
asked_for cuid mid asked lifetime =
    if has_target asked
    then Ok (request.PutMitigation (record { cdid = None; cuid = cuid; mid = Some mid }) (record { asked = asked; lifetime = lifetime; trigger = true }))
    else Err (missing 6)

-- and of a withdrawal
abbrev pub withdrawn : List ℕ → ℕ → Result Request Reject
withdrawn cuid mid = Ok (request.DeleteMitigation (record { cdid = None; cuid = cuid; mid = Some mid }))
