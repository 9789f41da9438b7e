use Rattle.dots_machine.proofs.Ordering.{begun_orderly, step_orderly, run_orderly}
use Rattle.dots_machine.proofs.SharingNone.{shares_begun, shares_step, shares_run, since_last, recovered as recovered_shares}
use Rattle.dots_machine.proofs.law.mitigations_stand_apart.Goals as goal

pub returns : goal.returns
returns c = record {
  begun = begun_orderly;
  step = step_orderly;
  run = run_orderly;
  shares_begun = shares_begun;
  shares_step = shares_step;
  shares_run = shares_run;
  recovered = λ settings since start trace end how acts m image media stored share came ran.
      recovered_shares settings since start share trace end how acts came ran m image media stored;
  since_last = since_last;
}
