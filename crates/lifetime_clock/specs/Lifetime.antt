-- Lifetimes of mitigation requests, in seconds, where -1 is an indefinite one (RFC 9132, section 4.4.1).
use Rattle.std.specs.Prelude.{◌≡◌, ◌⊎◌, ℤ, pos, negsuc, ◌<ℤ◌, Bool, true, false}
use Rattle.std.specs.Int.{int_min}

abbrev pub indefinite_lifetime : ℤ
indefinite_lifetime = negsuc 0

-- what a request may ask for: an indefinite lifetime, or some seconds
abbrev pub IsLifetime : ℤ → Type 0
IsLifetime asked = (asked ≡ indefinite_lifetime) ⊎ (pos 0 <ℤ asked)

-- what is granted of what was asked, by the ceiling and by whether indefinite lifetimes are granted
abbrev pub granted : ℤ → ℤ → Bool → ℤ
granted (pos seconds) ceiling indefinite = int_min (pos seconds) ceiling
granted (negsuc n) ceiling true = indefinite_lifetime
granted (negsuc n) ceiling false = ceiling
