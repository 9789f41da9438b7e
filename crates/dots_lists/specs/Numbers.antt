-- Numbers in decimal text, with no leading zeros.
use Rattle.std.specs.Prelude.{ℕ, Bool, ◌&&◌, nat_le, if◌then◌else◌, List, decimal, bytes_eq, Option, Some, None}
use Rattle.std.specs.Str.Parse.{digits_value}

-- the text is the decimal of a number from the least to the most
abbrev pub is_number_in : ℕ → ℕ → List ℕ → Bool
is_number_in least most text = bytes_eq (decimal (digits_value 10 text)) text && nat_le least (digits_value 10 text) && nat_le (digits_value 10 text) most

-- that number
abbrev pub number_in : ℕ → ℕ → List ℕ → Option ℕ
number_in least most text = if is_number_in least most text then Some (digits_value 10 text) else None
