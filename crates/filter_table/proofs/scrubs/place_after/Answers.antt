use Rattle.std.proofs.Common.{nat_le, rules}
use Rattle.std.proofs.lemmas.List.Sorted.{IsPartitionPoint-from_clause}
use Rattle.filter_table.proofs.Searching.{searched, falls_partitioned}
use Rattle.filter_table.specs.declared.turn.Turn.{Turn}
use Rattle.filter_table.specs.Rows.{place_of_turn}
use Rattle.filter_table.proofs.Orders.{order_falls}
use Rattle.filter_table.proofs.scrubs.place_after.Goals as goal

pub returns-clause-value : goal.returns-clause-value
returns-clause-value c =
    searched (λ (t : Turn). nat_le t.place c.args.place) c.args.turns.now _ c.partition_point.ensures.bound
    (IsPartitionPoint-from_clause (λ (t : Turn). nat_le t.place c.args.place) c.args.turns.now _ c.partition_point.ensures.partitioned
    (falls_partitioned (λ (t : Turn). nat_le t.place c.args.place) c.args.turns.now (order_falls place_of_turn c.args.place c.args.turns.now c.requires)) (λ a r f k. search rules))
