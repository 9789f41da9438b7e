-- The report of a gateway.
use Rattle.std.specs.Prelude.{ℕ, List, ◌++◌, codes, decimal}

-- how many exchanges wait
abbrev pub waiting_line : ℕ → List ℕ
waiting_line waiting = codes "waiting " ++ decimal waiting ++ codes "\n"
