-- How much is kept of a domain, by the capacities.
use Rattle.std.specs.Prelude.{ℕ, ◌+◌, ◌*◌}
use Rattle.dots_settings.specs.declared.limits.Limits.{Limits}

-- the request and the withdrawal of each live mitigation, and of each client its registration, its aliases and its access lists
abbrev pub most_of_domain : Limits → ℕ
most_of_domain limits = 2 * limits.domain_mitigations + limits.clients + limits.clients * (limits.aliases + limits.acls)
