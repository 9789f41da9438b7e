-- Sends that were handed to a wire, one after the other.
use Rattle.std.specs.Prelude.{◌≡◌, ℕ, ◌+◌, List, ◌++◌, length, Option, Some, None, ⊤}
use Rattle.dots_host.specs.declared.out.OwnedOut.{OwnedOut}
use Rattle.dots_host.specs.Acts.{Timed}
use Rattle.dots_host.specs.Runs.{Gives}

-- Where the acts are told in the end they were told at the start. These sends were added to them, the first at the first of the moments,
-- and the other moment is the one behind the last.
abbrev pub Handed : Option (List Timed) → ℕ → Option (List Timed) → ℕ → List OwnedOut → Type 0
Handed old before None now outs = ⊤
Handed None before (Some new) now outs = ⊥
Handed (Some old) before (Some new) now outs = (more : List Timed) × (new ≡ old ++ more) × Gives before outs more × (now ≡ before + length outs)
