-- What a split of a tree is.
use Rattle.std.specs.Prelude.{ℕ, List, Option, None, Some, Box}
use Rattle.std.specs.Global.{Global}
use Rattle.lifetime_clock.specs.declared.tree.Branch.{Branch}
use Rattle.lifetime_clock.specs.declared.tree.Split.{Split}
use Rattle.lifetime_clock.specs.Tree.{SplitsAt}

-- the time of a branch that was found
abbrev pub time_found : Option (Box Branch Global) → Option ℕ
time_found None = None
time_found (Some branch) = Some branch.value.at

abbrev pub IsSplit : List (ℕ × ℕ) → ℕ → Split → Type 0
IsSplit entries key split = SplitsAt entries key split.below (time_found split.found) split.above
