-- What a tree is by its root.
use Rattle.std.specs.Prelude.{◌≡◌, ℕ, List, [], ◌∷◌, ◌++◌, Option, None, Some, Box}
use Rattle.std.specs.Global.{Global}
use Rattle.lifetime_clock.specs.declared.tree.Branch.{Branch}
use Rattle.lifetime_clock.specs.Tree.{entry_of, least_time}

-- the entries before the root, that of the root, and those behind it
abbrev pub entries_of : Option (Box Branch Global) → List (ℕ × ℕ)
entries_of None = []
entries_of (Some root) = root.value.left ++ entry_of root.value ∷ root.value.right

-- the root knows the least time
abbrev pub KnowsLeast : Option (Box Branch Global) → Type 0
KnowsLeast None = Unit {0}
KnowsLeast (Some root) = root.value.least ≡ least_time (entries_of (Some root))
