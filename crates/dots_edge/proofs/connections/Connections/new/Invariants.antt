use Rattle.std.proofs.Common.{◌≡◌, ◌≤◌, ℕ, None, vec_len, vec_capacity, get_or}
use Rattle.dots_edge.proofs.connections.Connections.new.Given as goal

abbrev pub invariant-loop : goal.invariant-loop
invariant-loop l = (vec_len l.places ≡ l.counter) × (128 ≤ vec_capacity l.places) × ((place : ℕ) → get_or l.places.items place None ≡ None)
