use Rattle.std.proofs.Common.{◌≡◌, map, take}
use Rattle.coap_message.specs.Parts.{parts_of, values_of}
use Rattle.coap_message.specs.CodeValues.{option_value}
use Rattle.dots_load.proofs.requests.gathered.Given as goal

abbrev pub invariant-loop-row : goal.invariant-loop-row
invariant-loop-row l = record {
  parts : l.options.items ≡ parts_of (map option_value (take l.row-index l.rows));
  bytes : l.values.items ≡ values_of (map option_value (take l.row-index l.rows));
}
