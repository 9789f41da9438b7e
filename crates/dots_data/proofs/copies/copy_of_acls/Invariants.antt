-- what is copied so far is what stood before
use Rattle.std.proofs.Common.{◌≡◌, take}
use Rattle.dots_data.proofs.copies.copy_of_acls.Given as goal

abbrev pub invariant-loop-acl : goal.invariant-loop-acl
invariant-loop-acl l = l.copy ≡ take l.acl-index l.acls
