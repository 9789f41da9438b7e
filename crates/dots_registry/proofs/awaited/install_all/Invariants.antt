-- the rows of the mitigations that were passed are made
use Rattle.std.proofs.Common.{◌≡◌, List}
use Rattle.dots_history.specs.declared.entry.Entry.{Entry}
use Rattle.dots_registry.specs.Awaited.{Awaits}
use Rattle.dots_registry.proofs.RowsInTurn.{AreMade}
use Rattle.dots_registry.proofs.awaited.install_all.Given as goal

abbrev pub invariant-loop-domain : goal.invariant-loop-domain
invariant-loop-domain l = record {
  made : (entries : List Entry) → Awaits entries l.live l.held l.domains l.fn.filters → AreMade entries l.live l.domain-index l.fn.filters l.filters;
  place : l.slot ≡ l.domain-index;
}
