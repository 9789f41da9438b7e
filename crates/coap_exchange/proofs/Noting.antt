-- One more message in the ring at hand.
use Rattle.std.proofs.Common.{◌≡◌, ℕ, zero, suc, ◌<◌, true, List, [], ◌∷◌, ◌++◌, length, take, drop, get_or, set, sym, ap, ◌∙◌, arith}
use Rattle.std.proofs.lemmas.Bool.{cond-true}
use Rattle.coap_exchange.specs.declared.message.Message.{Message}
use Rattle.coap_exchange.specs.Rings.{RingValue, is_ring_of, grown, noted}

pub note_here : (peer domain : ℕ) (message : Message) (rings : List RingValue) (i : ℕ) (ring new : RingValue) → i < length rings → ring ≡ get_or rings i ring
    → is_ring_of peer domain ring ≡ true → new ≡ grown message ring → set rings i new ≡ take i rings ++ noted peer domain message (drop i rings)
note_here peer domain message [] i ring new less at is same = absurd (omega (arith, less))
note_here peer domain message (r ∷ rings) zero ring new less at is same =
    let own : is_ring_of peer domain r ≡ true = ap (is_ring_of peer domain) (sym at) ∙ is in
    ap (λ x. x ∷ rings) (same ∙ ap (grown message) at)
    ∙ sym (cond-true (is_ring_of peer domain r) (grown message r ∷ rings) (r ∷ noted peer domain message rings) own)
note_here peer domain message (r ∷ rings) (suc i) ring new less at is same =
    ap (λ rs. r ∷ rs) (note_here peer domain message rings i ring new (omega (arith, less)) at is same)
