-- Which prefixes an address lies in.
use Rattle.std.specs.Prelude.{ℕ, ◌-◌, ◌*◌, ◌/◌, ◌^◌, ◌<◌, Bool, ◌&&◌, ◌==◌, nat_lt, nat_le, List}
use Rattle.ip_scope.specs.declared.family.Family.{Family}
use Rattle.ip_scope.specs.declared.family.Family.TheVariants.{V4, V6}
use Rattle.filter_table.specs.declared.rank.Rank.{Rank}

-- the number with its lowest bits cleared
abbrev pub cleared : ℕ → ℕ → ℕ
cleared number low_bits = number / 2 ^ low_bits * 2 ^ low_bits

-- the prefix is of this family, and its number is that of the address with the host bits cleared
abbrev pub covers : Family → ℕ → Rank → Bool
covers V4 number rank = nat_lt rank.kind 256 && (rank.number == cleared number (32 - rank.kind))
covers V6 number rank = nat_le 256 rank.kind && (rank.number == cleared number (384 - rank.kind))

-- a number of IPv4 has at most 32 bits
abbrev pub IsShort : Rank → Type 0
IsShort rank = rank.kind < 256 → rank.number < 2 ^ 32

-- the slots that are still to come, and of how many levels
pub record CoveringValue : Type 0 where
  pub levels : ℕ
  pub slots : List ℕ
