-- What a message asks of the rules for mitigations (RFC 9132, section 4.4.1).
use Rattle.std.specs.Prelude.{ℕ}
use Rattle.dots_keys.specs.declared.head_request.MitigationPath.{MitigationPath}
use Rattle.dots_keys.specs.declared.request.MitigationBody.{MitigationBody}
use Rattle.conflict_rules.specs.Requests.{Request}

-- what this peer asks for with the path and the body of a message, the path having this mid
abbrev pub asked_by : ℕ → MitigationPath → MitigationBody → ℕ → Request
asked_by peer path body mid =
    record { peer = peer; cuid = path.cuid; mid = mid; asked = body.asked; lifetime = body.lifetime; trigger = body.trigger }
