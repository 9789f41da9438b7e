use Rattle.std.proofs.Common.{refl}
use Rattle.coap_observe.proofs.Numbers.{rise, apart, reply_number, sent_apart}
use Rattle.coap_observe.proofs.laws.numbers_are_in_order.Goals as goal

pub returns : goal.returns
returns c = record { rise = rise; apart = apart; reply = reply_number; sendings = sent_apart; notice = λ id seen o. refl }
