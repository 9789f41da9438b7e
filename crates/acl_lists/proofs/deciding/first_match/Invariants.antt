-- the first of the rest that matches is the first of all
use Rattle.std.proofs.Common.{◌≡◌, drop}
use Rattle.std.specs.Prelude.{find}
use Rattle.acl_lists.specs.Matching.{ace_matches}
use Rattle.acl_lists.proofs.deciding.first_match.Given as goal

abbrev pub invariant-loop-ace : goal.invariant-loop-ace
invariant-loop-ace l =
    find (λ ace. ace_matches l.acl ace l.domain l.packet) (drop l.ace-index l.ace-items)
    ≡ find (λ ace. ace_matches l.acl ace l.domain l.packet) l.acl.aces
