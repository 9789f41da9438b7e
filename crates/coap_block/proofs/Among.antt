-- The options of a kind, one after the other.
use Rattle.std.proofs.Common.{◌≡◌, true, List, ◌∷◌, refl, sym, ap, ◌∙◌}
use Rattle.coap_message.specs.Message.{CoapOption}
use Rattle.coap_block.specs.declared.spelling.Which.{Which}
use Rattle.coap_block.specs.Spelling.{is_among, among}

pub among_first : (which : Which) (o : CoapOption) (options rest : List CoapOption) → options ≡ o ∷ rest → true ≡ is_among which o.number → among which options ≡ o ∷ among which rest
among_first which o options rest is has =
    let has_it : is_among which o.number ≡ true = sym has in
    ap (among which) is ∙ (rw has_it refl)
