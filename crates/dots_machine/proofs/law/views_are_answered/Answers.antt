use Rattle.dots_machine.proofs.OneView.{calm_configures, rest_alike, facts_alike, decides_alike, answers_alike, fronts_alike}
use Rattle.dots_machine.proofs.law.views_are_answered.Goals as goal

pub returns : goal.returns
returns c = record {
  facts = facts_alike;
  rest = rest_alike;
  decides = decides_alike;
  answers = answers_alike;
  fronts = fronts_alike;
  calm = calm_configures;
}
