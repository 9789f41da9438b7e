-- what is left once this mitigation's rows are out stays the same
use Rattle.std.proofs.Common.{◌≡◌, length}
use Rattle.filter_table.specs.TableRows.{without_mitigation}
use Rattle.filter_table.proofs.scrubs.Scrubs.remove.Given as goal

abbrev pub invariant-loop : goal.invariant-loop
invariant-loop l =
    (l.self.room ≡ l.fn.self.room)
    × (without_mitigation l.domain l.cuid l.mid l.self.placed ≡ without_mitigation l.domain l.cuid l.mid l.fn.self.placed)

abbrev pub decreases-loop : goal.decreases-loop
decreases-loop l = length l.self.placed
