-- Bytes in hexadecimal, in pairs of digits of either case.
use Rattle.std.specs.Prelude.{◌≡◌, ℕ, ◌<◌, ◌≤◌, List, length, Ok}
use Rattle.hex.specs.Hex.{decode_of}

-- the bytes, 1 to 4,096, that the digits write
pub record IsHex (digits bytes : List ℕ) : Type 0 where
  pub bytes_are : decode_of digits ≡ Ok bytes
  pub some : 0 < length bytes
  pub few : length bytes ≤ 4096
