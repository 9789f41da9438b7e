-- Prefixes that are marked by the bits of a number, the lowest first.
use Rattle.std.specs.Prelude.{ℕ, ◌%◌, ◌/◌, ◌==◌, if◌then◌else◌, List, [], ◌∷◌}
use Rattle.ip_scope.specs.Prefix.{PrefixValue}

-- those whose bit is set
abbrev pub marked : List PrefixValue → ℕ → List PrefixValue
marked [] bits = []
marked (prefix ∷ prefixes) bits =
    if bits % 2 == 1 then prefix ∷ marked prefixes (bits / 2) else marked prefixes (bits / 2)
