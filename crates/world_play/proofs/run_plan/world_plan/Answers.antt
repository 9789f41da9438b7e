use Rattle.std.proofs.Common.{◌∙◌, sym, refl}
use Rattle.world_play.proofs.PlanLemmas.{generated}
use Rattle.world_play.proofs.run_plan.world_plan.Goals as goal

pub returns-clause-generated : goal.returns-clause-generated
returns-clause-generated c = generated _ (sym c.in_ok-can.ensures ∙ (search)) c.in_ok-settings.ensures c.in_ok-gateway_settings.ensures refl c.in_ok-clients.ensures
