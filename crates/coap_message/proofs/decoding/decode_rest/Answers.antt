use Rattle.std.proofs.Common.{◌≡◌, ◌∙◌, ℕ, List, ap, Ok}
use Rattle.coap_message.specs.Message.{CoapOption}
use Rattle.coap_message.specs.MessageReading.{Rest}
use Rattle.coap_message.proofs.Whole.{one_split}
use Rattle.coap_message.proofs.Faults.{breaks_no_split}
use Rattle.coap_message.proofs.decoding.decode_rest.Goals as goal

abbrev rest_of : List CoapOption → List ℕ → Rest
rest_of options payload = record { options = options; payload = payload }

pub returns-in-Err-clause-only : goal.returns-in-Err-clause-only
returns-in-Err-clause-only c options payload split = absurd (breaks_no_split _ _ _ options payload c.in-Err.ensures.breaks split)

pub returns-in-Ok-clause-only : goal.returns-in-Ok-clause-only
returns-in-Ok-clause-only c options payload split =
    let same = one_split _ _ options _ payload c.in-Ok.ensures.found split in
    ap Ok (c.new.ensures ∙ ap (λ (os : List CoapOption). rest_of os c.in-Ok.payload.now) same.0 ∙ ap (λ (p : List ℕ). rest_of options p) same.1)
