use Rattle.dots_machine.specs.Machine.{Step}
use Rattle.dots_world.proofs.OneWorld.{one_run, one_chosen, runs_so}
use Rattle.dots_world.proofs.laws.one_world.Goals as goal

pub returns : goal.returns
returns c = record {
  one = λ plan events world other is few a b. one_run plan is events world other few a b;
  chosen = λ plan choose events others world other is few lengths a b. one_chosen plan is choose events others world other few lengths a b;
  run = λ plan events old new r. runs_so plan (Step plan.settings) old events new r;
}
