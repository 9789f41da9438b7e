use Rattle.std.proofs.Common.{ℕ, List, ◌∙◌, ap}
use Rattle.dots_keys.specs.Paths.{resource_at}
use Rattle.dots_keys.proofs.PathLaws.{has_path, read_back}
use Rattle.dots_keys.proofs.head_laws.resource_of_a_path.Goals as goal

pub returns : goal.returns
returns c = λ segments resource. (has_path segments resource, λ is. ap (λ (s : List (List ℕ)). resource_at s) is ∙ read_back resource)
