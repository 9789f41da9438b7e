use Rattle.dots_world.proofs.Forwarding.{asking_passes, withdrawing_passes, asking_forwarded, withdrawing_forwarded}
use Rattle.dots_world.proofs.law.forwards.Goals as goal

pub returns : goal.returns
returns c = record {
  passes = asking_passes;
  passes_withdrawn = withdrawing_passes;
  asked = asking_forwarded;
  withdrawn = withdrawing_forwarded;
}
