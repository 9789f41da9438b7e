-- so many numbers are there, and room for the others
use Rattle.std.proofs.Common.{◌≡◌, ◌≤◌, replicate, vec_capacity}
use Rattle.coap_observe.proofs.places.zeros.Given as goal

abbrev pub invariant-loop : goal.invariant-loop
invariant-loop l = (l.numbers.items ≡ replicate l.counter 0) × (l.count ≤ vec_capacity l.numbers)
