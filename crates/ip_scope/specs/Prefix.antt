-- Address prefixes over numbers (RFC 4632, section 3.1; RFC 4291, section 2.3; RFC 6991, section 4).
use Rattle.std.specs.Prelude.{◌≡◌, ℕ, ◌-◌, ◌*◌, ◌/◌, ◌%◌, ◌^◌, ◌<◌, ◌≤◌, Bool, ◌&&◌, ◌||◌, ◌==◌, nat_le}
use Rattle.ip_scope.specs.declared.family.Family.{Family}
use Rattle.ip_scope.specs.Family.{width, same_family}

-- a family, the number of the lowest address, and how many of its bits lead
pub record PrefixValue : Type 0 where
  pub family : Family
  pub number : ℕ
  pub length : ℕ

-- how many addresses share the leading bits
abbrev pub block_size : Family → ℕ → ℕ
block_size family length = 2 ^ (width family - length)

-- the length is at most the width, and the bits after the leading ones, the host bits, are zero
pub record IsPrefix (p : PrefixValue) : Type 0 where
  pub length : p.length ≤ width p.family
  pub number : p.number < 2 ^ width p.family
  pub host_bits : p.number % block_size p.family p.length ≡ 0

-- the prefix of an address, its host bits cleared
abbrev pub prefix_of : Family → ℕ → ℕ → PrefixValue
prefix_of family number length = record {
  family = family;
  number = number / block_size family length * block_size family length;
  length = length;
}

-- the address begins with the leading bits of p
abbrev pub holds : PrefixValue → Family → ℕ → Bool
holds p family number =
    same_family p.family family
    && (number / block_size p.family p.length == p.number / block_size p.family p.length)

-- a begins with the leading bits of b, and has as many or more of its own
abbrev pub inside : PrefixValue → PrefixValue → Bool
inside a b = nat_le b.length a.length && holds b a.family a.number

-- one is inside the other
abbrev pub meets : PrefixValue → PrefixValue → Bool
meets a b = inside a b || inside b a
