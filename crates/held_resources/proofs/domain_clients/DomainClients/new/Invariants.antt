use Rattle.std.proofs.Common.{◌≡◌, ◌≤◌, length, vec_capacity}
use Rattle.held_resources.specs.Tables.{AreEmpty}
use Rattle.held_resources.proofs.domain_clients.DomainClients.new.Given as goal

abbrev pub invariant-loop : goal.invariant-loop
invariant-loop l =
    (length l.spare.items ≡ l.counter) × AreEmpty l.rooms l.spare.items × (l.rooms.clients ≤ vec_capacity l.spare)
