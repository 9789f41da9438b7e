use Rattle.dots_world.proofs.Granting.{step_grants}
use Rattle.dots_world.proofs.OneGrant.{one_grant, grant_is}
use Rattle.dots_world.proofs.MachineStays.{grant_stays}
use Rattle.dots_world.proofs.Others.{step_grants_none}
use Rattle.dots_world.proofs.law.grants.Goals as goal

pub returns : goal.returns
returns c = record {
  step = step_grants;
  elsewhere = step_grants_none;
  granted = λ x put refreshed. grant_is x put refreshed;
  one = λ bytes token other_token mid other_mid lifetime other_lifetime. one_grant bytes token other_token mid other_mid lifetime other_lifetime;
  kept = grant_stays;
}
