-- The value of a Block2 option (RFC 7959, section 2.2).
use Rattle.std.specs.Prelude.{ℕ, ◌+◌, ◌*◌, ◌/◌, ◌%◌, ◌^◌, ◌<◌, ◌==◌, nat_lt, if◌then◌else◌, List, [], ◌∷◌, fold}
use Rattle.coap_block.specs.declared.block.BlockOption.{BlockOption}
use Rattle.coap_block.specs.declared.block.Uint.{Uint}
use Rattle.coap_block.specs.declared.block.Uint.TheVariants as uint

-- the number that bytes stand for, the highest first (RFC 7252, section 3.2)
abbrev pub number_in : List ℕ → ℕ
number_in bytes = fold (λ number byte. 256 * number + byte) 0 bytes

-- and the fewest bytes that stand for a number below 2^24
abbrev pub shortest : ℕ → List ℕ
shortest number =
    if number == 0 then []
    else if nat_lt number 256 then number ∷ []
    else if nat_lt number 65536 then number / 256 ∷ number % 256 ∷ []
    else number / 65536 ∷ number / 256 % 256 ∷ number % 256 ∷ []

abbrev pub uint_bytes : Uint → List ℕ
uint_bytes uint.None = []
uint_bytes (uint.One bytes) = bytes
uint_bytes (uint.Two bytes) = bytes
uint_bytes (uint.Three bytes) = bytes

-- three bits are the exponent, one says that more follow, and the others are the number
abbrev pub block_of : List ℕ → BlockOption
block_of value = record { number = number_in value / 16; more = number_in value / 8 % 2 == 1; exponent = number_in value % 8 }

abbrev pub block_number : BlockOption → ℕ
block_number block = 16 * block.number + (if block.more then 8 else 0) + block.exponent

pub record IsBlock (block : BlockOption) : Type 0 where
  pub number : block.number < 2 ^ 20
  pub exponent : block.exponent < 8

-- how many bytes a block has
abbrev pub block_size : ℕ → ℕ
block_size exponent = 2 ^ (exponent + 4)
