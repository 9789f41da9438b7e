use Rattle.std.proofs.Common.{◌∙◌, sym, ap}
use Rattle.coap_message.specs.MessageReading.{option_at}
use Rattle.coap_message.proofs.Faults.{reserved_none}
use Rattle.coap_message.proofs.option_reading.read_option.Goals as goal

pub returns-then-has_reserved_nibble-clause-read : goal.returns-then-has_reserved_nibble-clause-read
returns-then-has_reserved_nibble-clause-read c =
    ap (option_at c.args.previous) c.in-Some.ensures.cases.0 ∙ reserved_none c.args.previous _ _ (sym c.if-has_reserved_nibble.ensures)
