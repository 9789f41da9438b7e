-- What can be answered to a datagram that is no message: its type and identifier (RFC 7252, sections 3 and 4.2).
use Rattle.std.specs.Prelude.{ℕ, ◌/◌, ◌%◌, List, [], ◌∷◌, Option, Some, None, ◌==◌, if◌then◌else◌}
use Rattle.std.specs.Int.{w16, from_be_bytes}
use Rattle.coap_message.specs.declared.kind.Kind.{Kind}
use Rattle.coap_message.specs.MessageReading.{kind_of}

-- there, exactly where there are four bytes and the version is 1
abbrev pub salvaged : List ℕ → Option (Kind × ℕ)
salvaged [] = None
salvaged (first ∷ []) = None
salvaged (first ∷ code ∷ []) = None
salvaged (first ∷ code ∷ high ∷ []) = None
salvaged (first ∷ code ∷ high ∷ low ∷ rest) = if first / 64 == 1 then Some (kind_of (first / 16 % 4), from_be_bytes w16 (high ∷ low ∷ [])) else None
