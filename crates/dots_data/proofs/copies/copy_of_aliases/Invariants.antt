-- what is copied so far is what stood before
use Rattle.std.proofs.Common.{◌≡◌, take}
use Rattle.dots_data.proofs.copies.copy_of_aliases.Given as goal

abbrev pub invariant-loop-alias : goal.invariant-loop-alias
invariant-loop-alias l = l.copy ≡ take l.alias-index l.aliases
