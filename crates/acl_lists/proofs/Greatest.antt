-- The greater of a number that may be there and of the greatest of some.
use Rattle.std.proofs.Common.{◌≡◌, ℕ, Option, Some, None, refl, ap, arith}
use Rattle.acl_lists.specs.Fates.{greatest_from}

abbrev pub greater_of : Option ℕ → Option ℕ → Option ℕ
greater_of None other = other
greater_of (Some x) other = Some (greatest_from x other)

pub greater_more : (found rest : Option ℕ) (mid : ℕ) → greater_of (Some (greatest_from mid found)) rest ≡ greater_of found (Some (greatest_from mid rest))
greater_more None rest mid = refl
greater_more (Some a) None mid = ap Some (omega arith)
greater_more (Some a) (Some r) mid = ap Some (omega arith)
