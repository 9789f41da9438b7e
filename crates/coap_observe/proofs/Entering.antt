-- An observer that is registered.
use Rattle.std.proofs.Common.{◌≡◌, ℕ, cond, ◌+◌, ◌<◌, ◌≤◌, List, [], ◌∷◌, ◌++◌, length, refl, sym, ap, ◌∙◌, arith}
use Rattle.std.specs.Prelude.{◌==◌}
use Rattle.std.proofs.lemmas.Bool.{eq-eqb, cond-false}
use Rattle.coap_observe.specs.declared.observer.Observer.{Observer}
use Rattle.dots_history.specs.Histories.{tally}
use Rattle.coap_observe.specs.Chains.{ChainValue, keys_in, room_in, AreChained}
use Rattle.coap_observe.specs.Rolls.{Member, observed_of, peer_of}
use Rattle.coap_observe.specs.Observed.{ObservedValue, is_token, registered_again}
use Rattle.coap_observe.specs.Observing.{registered_first, entered}
use Rattle.coap_exchange.proofs.Firsts.{NonePasses}
use Rattle.coap_observe.proofs.Chaining.{length_own, tally_last}

pub entered_last : (observer : Observer) (seen : List (ℕ × ℕ)) (xs : List ObservedValue) → NonePasses (is_token observer.peer observer.token) xs
    → xs ++ registered_first observer seen ∷ [] ≡ entered observer seen xs
entered_last observer seen [] none = refl
entered_last observer seen (o ∷ os) none =
    ap (λ ys. o ∷ ys) (entered_last observer seen os none.1)
    ∙ sym (cond-false (is_token observer.peer observer.token o) (registered_again observer seen o ∷ os) (o ∷ entered observer seen os) none.0)

pub length_last : (o : ObservedValue) (xs : List ObservedValue) → length (xs ++ o ∷ []) ≡ length xs + 1
length_last o [] = omega arith
length_last o (x ∷ xs) = let rest = length_last o xs in omega (arith, rest)

-- where the peer's chain has room for all that there then are, it has room for one more
pub room_for_last : (observer : Observer) (seen : List (ℕ × ℕ)) (members : List Member) (chains : List ChainValue) → NonePasses (is_token observer.peer observer.token) (observed_of members)
    → AreChained chains members → tally (λ o. peer_of o == observer.peer) (entered observer seen (observed_of members)) ≤ room_in observer.peer chains
    → length (keys_in observer.peer chains) < room_in observer.peer chains
room_for_last observer seen members chains none are room =
    let xs = observed_of members in
    let first = registered_first observer seen in
    let own : length (keys_in observer.peer chains) ≡ tally (λ o. peer_of o == observer.peer) xs = ap length (are.own observer.peer) ∙ length_own observer.peer members in
    let more = tally_last (λ o. peer_of o == observer.peer) first xs in
    let one : cond {A = ℕ} (peer_of first == observer.peer) 1 0 ≡ 1 = ap (λ b. cond {A = ℕ} b 1 0) (eq-eqb observer.peer observer.peer refl) in
    let all = ap (tally (λ o. peer_of o == observer.peer)) (entered_last observer seen xs none) in
    omega (arith, own, more, one, all, room)

pub length_more : (x : ℕ) (xs : List ℕ) → length (xs ++ x ∷ []) ≡ length xs + 1
length_more x [] = omega arith
length_more x (y ∷ xs) = let rest = length_more x xs in omega (arith, rest)
