use Rattle.std.proofs.Common.{◌≡◌, length}
use Rattle.data_channel.specs.Places.{behind_front}
use Rattle.data_channel.proofs.place.behind_front.Given as goal

abbrev pub invariant-loop-first : goal.invariant-loop-first
invariant-loop-first l = behind_front l.front l.bytes ≡ behind_front l.wanted l.rest

abbrev pub decreases-loop-first : goal.decreases-loop-first
decreases-loop-first l = length l.wanted
