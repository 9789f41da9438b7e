-- What the code's types stand for.
use Rattle.coap_message.specs.declared.option.OptionRow.{OptionRow}
use Rattle.coap_message.specs.declared.head.Head as code
use Rattle.coap_message.specs.Message.{CoapOption}
use Rattle.coap_message.specs.MessageReading.{Head}

-- an option, without where its value lies in memory
abbrev pub option_value : OptionRow → CoapOption
option_value row = record { number = row.number; value = row.value.now }

abbrev pub head_value : code.Head → Head
head_value head = record { kind = head.kind; code = head.code; identifier = head.id; token = head.token.now }
