-- The name of a client by its public key (RFC 9132, section 4.4.1; RFC 4648, section 5).
use Rattle.std.specs.Prelude.{ℕ, List, take}
use Rattle.base64.specs.Engines.{url_safe_no_pad}
use Rattle.base64.specs.GeneralPurpose.{encode_of}
use Rattle.sha2.specs.Sha256.{sha256}

-- the first 16 bytes of the key's SHA-256, as base64url without padding
abbrev pub cuid_text : List ℕ → List ℕ
cuid_text spki = encode_of url_safe_no_pad (take 16 (sha256 spki))
