-- The lifetime of a request for a mitigation (RFC 9132, section 4.4.1).
use Rattle.std.specs.Prelude.{⊤}
use Rattle.lifetime_clock.specs.Lifetime.{IsLifetime}
use Rattle.dots_keys.specs.declared.request.Request.{Request}
use Rattle.dots_keys.specs.declared.request.Request.TheVariants as request

-- it is some seconds, or an indefinite one
abbrev pub HasLifetime : Request → Type 0
HasLifetime (request.PutMitigation path body) = IsLifetime body.lifetime
HasLifetime _ = ⊤
