-- what is copied so far is the names before
use Rattle.std.proofs.Common.{◌≡◌, take}
use Rattle.acl_lists.proofs.asked.copy_of_names.Given as goal

abbrev pub invariant-loop-name : goal.invariant-loop-name
invariant-loop-name l = l.copy ≡ take l.name-index l.names
