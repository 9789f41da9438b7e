use Rattle.std.proofs.Common.{◌≡◌, ◌++◌, flat_map}
use Rattle.coap_message.specs.MessageText.{option_line}
use Rattle.coap_message.proofs.message_lines.add_options.Given as goal

abbrev pub invariant-loop-row : goal.invariant-loop-row
invariant-loop-row l = record { whole : l.text.items ++ flat_map option_line l.options ≡ l.fn.text.items ++ flat_map option_line l.fn.options }
