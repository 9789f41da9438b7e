-- What the calls of one side of a host keep of the other side.
use Rattle.std.specs.Prelude.{◌≡◌, Option, Some, None, List, ⊤}
use Rattle.dots_host.specs.Acts.{Timed}

-- the acts are as before, or no longer told
abbrev pub KeepsActs : Option (List Timed) → Option (List Timed) → Type 0
KeepsActs old None = ⊤
KeepsActs None (Some new) = ⊥
KeepsActs (Some old) (Some new) = new ≡ old
