-- Which words of the command line, without the program's name, ask for a gateway.
use Rattle.std.specs.Prelude.{ℕ, List, [], ◌∷◌, Bool, false, ◌&&◌, bytes_eq, codes}
use Rattle.dots_machine.specs.Commands.{is_word}

-- `gateway SETTINGS HOSTFILE`
abbrev pub is_gateway : List (List ℕ) → Bool
is_gateway (name ∷ settings ∷ host ∷ []) = bytes_eq name (codes "gateway") && (is_word settings && is_word host)
is_gateway _ = false
