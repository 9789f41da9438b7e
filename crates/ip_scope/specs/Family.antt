-- The two families of Internet addresses.
use Rattle.std.specs.Prelude.{ℕ, Bool, true, false}
use Rattle.ip_scope.specs.declared.family.Family.{Family}
use Rattle.ip_scope.specs.declared.family.Family.TheVariants.{V4, V6}

-- how many bits an address has (RFC 791, section 2.3; RFC 4291, section 2)
abbrev pub width : Family → ℕ
width V4 = 32
width V6 = 128

abbrev pub same_family : Family → Family → Bool
same_family V4 V4 = true
same_family V4 V6 = false
same_family V6 V4 = false
same_family V6 V6 = true
