use Rattle.std.proofs.Common.{◌≡◌}
use Rattle.coap_block.specs.Blocks.{blocks_in}
use Rattle.coap_block.proofs.asks.next_block.Given as goal

abbrev pub invariant-loop-row : goal.invariant-loop-row
invariant-loop-row l = record { rest : blocks_in l.options ≡ blocks_in l.fn.options }
