use Rattle.std.proofs.Common.{◌≡◌, length}
use Rattle.http_cut.specs.Fields.{skip_back}
use Rattle.http_cut.proofs.text.trim_back.Given as goal

abbrev pub invariant-loop-last : goal.invariant-loop-last
invariant-loop-last l = skip_back l.rest ≡ skip_back l.bytes

abbrev pub decreases-loop-last : goal.decreases-loop-last
decreases-loop-last l = length l.rest
