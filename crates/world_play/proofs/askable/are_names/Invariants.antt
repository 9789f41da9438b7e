use Rattle.std.proofs.Common.{ℕ, List, take}
use Rattle.std.specs.Prelude.{IsTrue}
use Rattle.std.specs.List.{AllByRecursion}
use Rattle.dots_lists.specs.Name.{is_name}
use Rattle.world_play.proofs.askable.are_names.Given as goal

abbrev pub invariant-loop-name : goal.invariant-loop-name
invariant-loop-name l = record { typed : AllByRecursion (λ (name : List ℕ). IsTrue (is_name name)) (take l.name-index l.names) }
