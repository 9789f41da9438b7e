-- so many links are there, and room for the others
use Rattle.std.proofs.Common.{◌≡◌, ◌≤◌, replicate, vec_capacity}
use Rattle.coap_observe.proofs.order.links_to.Given as goal

abbrev pub invariant-loop : goal.invariant-loop
invariant-loop l = (l.links.items ≡ replicate l.counter l.room) × (l.count ≤ vec_capacity l.links)
