use Rattle.std.proofs.Common.{sym}
use Rattle.std.proofs.lemmas.Option.{slice_get_within, get_or_from_slice_get}
use Rattle.dots_history.proofs.Rising.{number_there}
use Rattle.coap_exchange.proofs.laws.slots_become_places.Goals as goal

pub returns : goal.returns
returns c = λ keep place slot rises there.
    sym (number_there keep slot place rises (slice_get_within keep place slot there) (get_or_from_slice_get keep place slot 0 there))
