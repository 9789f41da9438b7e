-- A history is calm exactly where it is by the places of its entries.
use Rattle.std.proofs.Common.{◌≡◌, ℕ, ◌+◌, ◌-◌, ◌<◌, zero, suc, true, ◌||◌, List, [], ◌∷◌, take, drop, Some, refl, sym, ap, ◌∙◌, subst, arith}
use Rattle.std.specs.Prelude.{slice_get}
use Rattle.std.proofs.lemmas.List.{drop-take}
use Rattle.std.proofs.lemmas.Option.{none-some, same_Some}
use Rattle.dots_history.specs.declared.entry.Entry.{Entry}
use Rattle.dots_history.specs.declared.status.Status.{Status}
use Rattle.dots_history.specs.declared.status.Status.TheVariants.{Open}
use Rattle.dots_history.specs.Entries.{ends, withdraws, reconfigures}
use Rattle.dots_history.specs.Histories.{status, step, live, OnePeer, OneDomain, Calm}
use Rattle.dots_history.specs.Places.{IsCalm}
use Rattle.dots_history.proofs.PlaceLaws.{after_place, to_after, live_at_place, place_is_live}

-- what comes after a mitigation, place by place
abbrev AtEach : Entry → Status → List Entry → Type 0
AtEach put s later =
    (k : ℕ) (e : Entry) → slice_get later k ≡ Some e → live e.time put (status put s (take k later)) ≡ true
    → ends put e || withdraws put e ≡ true → e.peer ≡ put.peer

one_peer_at : (put : Entry) (s : Status) (later : List Entry) → OnePeer put s later → AtEach put s later
one_peer_at put s [] one k e found = absurd (none-some e found)
one_peer_at put s (x ∷ later) one zero e found =
    subst (λ y. live y.time put s ≡ true → ends put y || withdraws put y ≡ true → y.peer ≡ put.peer) (same_Some x e found) one.0
one_peer_at put s (x ∷ later) one (suc k) e found = one_peer_at put (step put s x) later one.1 k e found

one_peer_from : (put : Entry) (s : Status) (later : List Entry) → AtEach put s later → OnePeer put s later
one_peer_from put s [] each = record {}
one_peer_from put s (x ∷ later) each = (each 0 x refl, one_peer_from put (step put s x) later (λ k e found. each (suc k) e found))

one_domain_at : (e : Entry) (later : List Entry) → OneDomain e later → (k : ℕ) (x : Entry) → slice_get later k ≡ Some x → reconfigures e x ≡ true → x.domain ≡ e.domain
one_domain_at e [] one k x found = absurd (none-some x found)
one_domain_at e (y ∷ later) one zero x found = subst (λ z. reconfigures e z ≡ true → z.domain ≡ e.domain) (same_Some y x found) one.0
one_domain_at e (y ∷ later) one (suc k) x found = one_domain_at e later one.1 k x found

one_domain_from : (e : Entry) (later : List Entry) → ((k : ℕ) (x : Entry) → slice_get later k ≡ Some x → reconfigures e x ≡ true → x.domain ≡ e.domain) → OneDomain e later
one_domain_from e [] each = record {}
one_domain_from e (y ∷ later) each = (each 0 y refl, one_domain_from e later (λ k x found. each (suc k) x found))

-- each entry with those after it
calm_at : (entries : List Entry) → Calm entries → (i : ℕ) (put : Entry) → slice_get entries i ≡ Some put
    → OnePeer put Open (drop (suc i) entries) × OneDomain put (drop (suc i) entries)
calm_at [] calm i put found = absurd (none-some put found)
calm_at (x ∷ later) calm zero put found = subst (λ y. OnePeer y Open later × OneDomain y later) (same_Some x put found) (calm.0, calm.1)
calm_at (x ∷ later) calm (suc i) put found = calm_at later calm.2 i put found

calm_from : (entries : List Entry)
    → ((i : ℕ) (put : Entry) → slice_get entries i ≡ Some put → OnePeer put Open (drop (suc i) entries) × OneDomain put (drop (suc i) entries)) → Calm entries
calm_from [] each = record {}
calm_from (x ∷ later) each =
    let first = each 0 x refl in (first.0, first.1, calm_from later (λ i put found. each (suc i) put found))

-- an entry in the front
in_front : (n i : ℕ) (xs : List Entry) (e : Entry) → i < n → slice_get xs i ≡ Some e → slice_get (take n xs) i ≡ Some e
in_front n i [] e less found = absurd (none-some e found)
in_front zero i (x ∷ xs) e less found = absurd (omega (arith, less))
in_front (suc n) zero (x ∷ xs) e less found = found
in_front (suc n) (suc i) (x ∷ xs) e less found = in_front n i xs e (omega (arith, less)) found

pub calm_places : (entries : List Entry) → Calm entries → IsCalm entries
calm_places entries calm = record {
  peers = λ i j put e less at_i at_j is_live touches.
      let k = j - suc i in
      let place : suc i + k ≡ j = omega (arith, less) in
      let cut : drop (suc i) (take j entries) ≡ take k (drop (suc i) entries) =
      ap (λ n. drop (suc i) (take n entries)) (sym place) ∙ drop-take (suc i) k entries in
      one_peer_at
      put
      Open
      (drop (suc i) entries)
      (calm_at entries calm i put at_i).0
      k
      e
      (to_after i entries j e less at_j)
      (sym (ap (λ es. live e.time put (status put Open es)) cut) ∙ place_is_live (take j entries) i e.time put is_live)
      touches;
  domains = λ i j e x less at_i at_j again.
      one_domain_at e (drop (suc i) entries) (calm_at entries calm i e at_i).1 (j - suc i) x (to_after i entries j x less at_j) again;
}

pub places_calm : (entries : List Entry) → IsCalm entries → Calm entries
places_calm entries calm =
    calm_from
    entries
    (λ i put at_i. (
      one_peer_from
          put
          Open
          (drop (suc i) entries)
          (λ k e at_k is_live touches.
          let j = suc i + k in
          calm.peers
          i
          j
          put
          e
          (omega arith)
          at_i
          (after_place i entries k e at_k)
          (live_at_place
          (take j entries)
          i
          e.time
          put
          (in_front j i entries put (omega arith) at_i)
          (ap (λ es. live e.time put (status put Open es)) (drop-take (suc i) k entries) ∙ is_live))
          touches),
      one_domain_from
          put
          (drop (suc i) entries)
          (λ k x at_k again. calm.domains i (suc i + k) put x (omega arith) at_i (after_place i entries k x at_k) again),
    ))
