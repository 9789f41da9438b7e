-- the numbers before the one at hand are there, and room for the others
use Rattle.std.proofs.Common.{◌≡◌, ◌≤◌, vec_capacity}
use Rattle.coap_observe.specs.Rings.{numbers_from}
use Rattle.coap_observe.proofs.rings.numbers.Given as goal

abbrev pub invariant-loop-number : goal.invariant-loop-number
invariant-loop-number l = (l.numbers.items ≡ numbers_from 0 l.number) × (l.count ≤ vec_capacity l.numbers)
