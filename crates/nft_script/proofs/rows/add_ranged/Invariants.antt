use Rattle.std.proofs.Common.{◌≡◌, ◌++◌, take, Some}
use Rattle.std.specs.List.{flat_map}
use Rattle.nft_script.specs.Script.{row_rule}
use Rattle.nft_script.proofs.rows.add_ranged.Given as goal

abbrev pub invariant-loop-range : goal.invariant-loop-range
invariant-loop-range l = record { added : l.text.items ≡ l.fn.text.items ++ flat_map (λ ports. row_rule l.number l.row (Some ports)) (take l.range-index l.ranges) }
