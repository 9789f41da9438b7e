use Rattle.std.proofs.lemmas.Bool.{and_parts}
use Rattle.dots_history.specs.Calm.{is_of_settings, came_rightly}
use Rattle.dots_history.proofs.Fitting.{push_calm}
use Rattle.dots_history.proofs.Joining.{has_domains}
use Rattle.dots_history.proofs.view_laws.calm_goes_on.Goals as goal

pub returns : goal.returns
returns c = record {
  empty = record {};
  more = λ settings entries e calm peers all own.
      push_calm entries e calm peers (has_domains settings entries e all (and_parts (is_of_settings settings e) (came_rightly e) own).0);
}
