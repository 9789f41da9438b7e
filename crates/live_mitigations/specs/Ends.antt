-- When a mitigation is over, as a second.
use Rattle.std.specs.Prelude.{ℕ, ℤ, pos, negsuc, min, List, [], ◌∷◌}
use Rattle.dots_history.specs.Histories.{Mitigation}
use Rattle.dots_history.specs.Tables.{End, Over, Until, Never, end_of}

-- the second that is never reached, the last of a u64
abbrev pub never : ℕ
never = 18446744073709551615

-- the number, or 0 where it is negative
abbrev pub from_zero : ℤ → ℕ
from_zero (pos n) = n
from_zero (negsuc n) = 0

-- the first second at which something with this end is over; `never` where that lies behind it
abbrev pub second_of : End → ℕ
second_of Over = 0
second_of (Until end) = min (from_zero end) never
second_of Never = never

abbrev pub end_second : Mitigation → ℕ
end_second m = second_of (end_of m.put m.status)

-- the first second at which one of them is over
abbrev pub first_end : List Mitigation → ℕ
first_end [] = never
first_end (m ∷ ms) = min (end_second m) (first_end ms)
