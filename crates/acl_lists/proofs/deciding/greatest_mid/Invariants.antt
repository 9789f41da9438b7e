-- the greater of the mid found and of those of the rest is the greatest of all
use Rattle.std.proofs.Common.{◌≡◌, drop}
use Rattle.acl_lists.specs.Fates.{scrubbing_mid}
use Rattle.acl_lists.proofs.Greatest.{greater_of}
use Rattle.acl_lists.proofs.deciding.greatest_mid.Given as goal

abbrev pub invariant-loop-row : goal.invariant-loop-row
invariant-loop-row l = greater_of l.found (scrubbing_mid l.packet (drop l.row-index l.rows)) ≡ scrubbing_mid l.packet l.rows
