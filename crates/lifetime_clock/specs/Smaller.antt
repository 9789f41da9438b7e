-- Each side of a branch has fewer entries than the tree.
use Rattle.std.specs.Prelude.{◌≤◌, ◌∷◌, length, Option, None, Some, Box}
use Rattle.std.specs.Global.{Global}
use Rattle.std.proofs.Common.{arith, length-append}
use Rattle.lifetime_clock.specs.declared.tree.Branch.{Branch}
use Rattle.lifetime_clock.specs.declared.tree.Tree.TheDeep.{deep-Tree}
use Rattle.lifetime_clock.specs.Tree.{entry_of}
use Rattle.lifetime_clock.specs.Rooted.{entries_of}

pub deep_le-length : (root : Option (Box Branch Global)) → deep-Tree (record { root = root }) ≤ length (entries_of root)
deep_le-length None = omega arith
deep_le-length (Some root) = omega (arith, length-append root.value.left (entry_of root.value ∷ root.value.right))
