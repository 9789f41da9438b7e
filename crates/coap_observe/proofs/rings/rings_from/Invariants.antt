-- the rings before the one at hand are there, and room for the others
use Rattle.std.proofs.Common.{◌≡◌, ◌≤◌, vec_capacity}
use Rattle.coap_observe.specs.Rings.{rings_from}
use Rattle.coap_observe.proofs.rings.rings_from.Given as goal

abbrev pub invariant-loop-place : goal.invariant-loop-place
invariant-loop-place l = (l.rings.items ≡ rings_from l.start l.place) × (l.count ≤ vec_capacity l.rings)
