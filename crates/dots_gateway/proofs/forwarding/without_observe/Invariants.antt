-- the options that are left follow those that were put
use Rattle.std.proofs.Common.{◌≡◌, ◌++◌}
use Rattle.coap_message.specs.Message.{AreOptions, last_number}
use Rattle.dots_gateway.specs.Forwarding.{without_observe}
use Rattle.dots_gateway.proofs.forwarding.without_observe.Given as goal

abbrev pub invariant-loop-row : goal.invariant-loop-row
invariant-loop-row l = record {
  whole : l.list ++ without_observe l.rest ≡ without_observe l.message.options;
  are : AreOptions (last_number 0 l.list) l.rest;
}
