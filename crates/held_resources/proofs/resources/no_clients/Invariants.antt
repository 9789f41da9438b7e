use Rattle.std.proofs.Common.{◌≡◌, replicate}
use Rattle.held_resources.specs.Tables.{no_clients}
use Rattle.held_resources.proofs.resources.no_clients.Given as goal

abbrev pub invariant-loop : goal.invariant-loop
invariant-loop l = l.domains.items ≡ replicate l.counter (no_clients l.rooms)
