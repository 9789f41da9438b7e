use Rattle.std.proofs.Common.{◌≡◌}
use Rattle.std.specs.Prelude.{◌==◌}
use Rattle.std.specs.List.{list_any}
use Rattle.coap_message.specs.declared.option_numbers.TheConstants.{OBSERVE}
use Rattle.coap_block.specs.Blocks.{has_observe}
use Rattle.coap_block.proofs.observed.has_observe.Given as goal

abbrev pub invariant-loop-row : goal.invariant-loop-row
invariant-loop-row l = record { rest : list_any (λ option. option.number == OBSERVE) l.options ≡ has_observe l.fn.message }
