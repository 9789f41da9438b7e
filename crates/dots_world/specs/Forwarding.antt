-- What the server reads of a client's request that a gateway passes on.
use Rattle.std.specs.Prelude.{ℕ, ℤ, List, decimal, Some, Result, Ok, Err, if◌then◌else◌, true}
use Rattle.acl_lists.specs.declared.asked.Asked.{Asked}
use Rattle.dots_keys.specs.declared.reject.Reject.{Reject}
use Rattle.dots_keys.specs.Results.{missing}
use Rattle.dots_keys.specs.declared.request.Request.{Request}
use Rattle.dots_keys.specs.declared.request.Request.TheVariants as request
use Rattle.dots_keys.specs.Mitigations.{has_target}
use Rattle.dots_gateway.specs.Wanted.{Passage}

-- what a gateway takes from the request: it has no Hop-Limit, which counts as one of 16 (RFC 8768, section 3)
abbrev pub passage_for : List ℕ → ℕ → Passage
passage_for cuid mid = record { hop = 16; cuid = Some cuid; mid = Some (decimal mid) }

-- what was asked, for the domain that the gateway names, or that there is no prefix, name or alias
abbrev pub asked_in : List ℕ → List ℕ → ℕ → Asked → ℤ → Result Request Reject
asked_in domain cuid mid asked lifetime =
    if has_target asked
    then Ok (request.PutMitigation (record { cdid = Some domain; cuid = cuid; mid = Some mid }) (record { asked = asked; lifetime = lifetime; trigger = true }))
    else Err (missing 6)

-- and of a withdrawal
abbrev pub withdrawn_in : List ℕ → List ℕ → ℕ → Result Request Reject
withdrawn_in domain cuid mid = Ok (request.DeleteMitigation (record { cdid = Some domain; cuid = cuid; mid = Some mid }))
