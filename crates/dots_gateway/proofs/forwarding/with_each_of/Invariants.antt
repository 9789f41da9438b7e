-- the values that are left follow those that were put
use Rattle.std.proofs.Common.{◌≡◌, ◌≤◌, ◌++◌, map, length}
use Rattle.std.specs.List.{AllByRecursion}
use Rattle.coap_message.specs.Message.{last_number}
use Rattle.dots_keys.specs.Options.{values_of}
use Rattle.dots_gateway.specs.Forwarding.{option_with}
use Rattle.dots_gateway.proofs.Texts.{IsShortValue}
use Rattle.dots_gateway.proofs.forwarding.with_each_of.Given as goal

abbrev pub invariant-loop-value : goal.invariant-loop-value
invariant-loop-value l = record {
  whole : l.list ++ map (option_with l.number) (values_of l.number l.rest) ≡ l.fn.options ++ map (option_with l.number) (values_of l.number l.message.options);
  last : last_number 0 l.list ≤ l.number;
  short : AllByRecursion IsShortValue (values_of l.number l.rest);
}

abbrev pub decreases-loop-value : goal.decreases-loop-value
decreases-loop-value l = length (values_of l.number l.rest)
