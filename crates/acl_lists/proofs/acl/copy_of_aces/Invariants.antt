-- what is copied so far is the entries before
use Rattle.std.proofs.Common.{◌≡◌, take}
use Rattle.acl_lists.proofs.acl.copy_of_aces.Given as goal

abbrev pub invariant-loop-ace : goal.invariant-loop-ace
invariant-loop-ace l = l.copy ≡ take l.ace-index l.aces
