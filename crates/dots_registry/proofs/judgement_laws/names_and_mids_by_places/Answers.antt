use Rattle.conflict_rules.proofs.Rules.{collides_taken, taken_collides, mid_stands, there_mid, one_of_mid}
use Rattle.dots_registry.proofs.judgement_laws.names_and_mids_by_places.Goals as goal

pub returns : goal.returns
returns c = record {
  taken = λ t entries peer client is. collides_taken t entries client peer is;
  collides = λ t entries peer client taken. taken_collides t entries client peer taken;
  stands = mid_stands;
  back = there_mid;
  one = one_of_mid;
}
