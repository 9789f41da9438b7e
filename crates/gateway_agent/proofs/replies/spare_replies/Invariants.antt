-- the smaller ones are there, and room for the others
use Rattle.std.proofs.Common.{◌≡◌, ◌≤◌, length, map}
use Rattle.std.specs.Prelude.{vec_capacity}
use Rattle.std.specs.List.{range_with_len}
use Rattle.gateway_agent.proofs.replies.spare_replies.Given as goal

abbrev pub invariant-loop-token : goal.invariant-loop-token
invariant-loop-token l = (map length l.replies.items ≡ range_with_len 8 l.token) × (9 ≤ vec_capacity l.replies)
