-- No two observe under one token, whatever becomes of them.
use Rattle.std.proofs.Common.{◌≡◌, ℕ, Bool, true, false, cond, List, [], ◌∷◌, ◌++◌, refl, sym, ap, ◌∙◌, subst, inl, inr}
use Rattle.std.specs.Prelude.{◌==◌, ◌&&◌, filter, bytes_eq}
use Rattle.std.proofs.lemmas.Bool.{and_parts, eqb-true, eq-eqb, false≢true}
use Rattle.std.proofs.lemmas.Slice.Eq.{bytes_eq-Decides}
use Rattle.dots_host.specs.declared.out.OwnedOut.{OwnedOut}
use Rattle.coap_observe.specs.declared.observer.Observer.{Observer}
use Rattle.coap_observe.specs.Seen.{Lists, list_for}
use Rattle.coap_observe.specs.Observed.{ObservedValue, is_token, notified, registered_again}
use Rattle.coap_observe.specs.Observing.{entered}
use Rattle.session_core.specs.declared.contact.PeerContact.{PeerContact}
use Rattle.session_core.specs.Notifying.{Bodies, is_gone, Notifies, Unlike, Apart}

-- ---- some go

unlike_filtered : (test : ObservedValue → Bool) (x : ObservedValue) (os : List ObservedValue) → Unlike x os → Unlike x (filter test os)
unlike_filtered test x [] unlike = unlike
unlike_filtered test x (o ∷ os) unlike = by_test (test o) (unlike_filtered test x os unlike.1)
  where
    by_test : (b : Bool) → Unlike x (filter test os) → Unlike x (cond b (o ∷ filter test os) (filter test os))
    by_test true rest = (unlike.0, rest)
    by_test false rest = rest

pub apart_filtered : (test : ObservedValue → Bool) (os : List ObservedValue) → Apart os → Apart (filter test os)
apart_filtered test [] apart = apart
apart_filtered test (o ∷ os) apart = by_test (test o) (apart_filtered test os apart.1) (unlike_filtered test o os apart.0)
  where
    by_test : (b : Bool) → Apart (filter test os) → Unlike o (filter test os) → Apart (cond b (o ∷ filter test os) (filter test os))
    by_test true rest unlike = (unlike, rest)
    by_test false rest unlike = rest

-- ---- some are notified

unlike_notified : (lists : Lists) (bodies : Bodies) (x : ObservedValue) (os new : List ObservedValue) (contacts left : List PeerContact) (sends : List OwnedOut)
    → Unlike x os → Notifies lists bodies os contacts sends new left → Unlike x new
unlike_notified lists bodies x [] new contacts left sends unlike n = subst (Unlike x) (sym n.1) tt
unlike_notified lists bodies x (o ∷ os) new contacts left sends unlike (inl n) =
    subst (Unlike x) (sym n.1) (unlike.0, unlike_notified lists bodies x os n.0 contacts left sends unlike.1 n.2)
unlike_notified lists bodies x (o ∷ os) new contacts left sends unlike (inr n) =
    subst (Unlike x) (sym n.6) (by_gone (is_gone lists o) (unlike_notified lists bodies x os n.2 _ left n.1 unlike.1 n.7))
  where
    by_gone : (b : Bool) → Unlike x n.2 → Unlike x (cond b [] (notified n.0 (list_for lists o.observer) o ∷ []) ++ n.2)
    by_gone true rest = rest
    by_gone false rest = (unlike.0, rest)

pub apart_notified : (lists : Lists) (bodies : Bodies) (os new : List ObservedValue) (contacts left : List PeerContact) (sends : List OwnedOut)
    → Apart os → Notifies lists bodies os contacts sends new left → Apart new
apart_notified lists bodies [] new contacts left sends apart n = subst Apart (sym n.1) tt
apart_notified lists bodies (o ∷ os) new contacts left sends apart (inl n) =
    subst Apart (sym n.1) (unlike_notified lists bodies o os n.0 contacts left sends apart.0 n.2, apart_notified lists bodies os n.0 contacts left sends apart.1 n.2)
apart_notified lists bodies (o ∷ os) new contacts left sends apart (inr n) =
    subst Apart (sym n.6)
    (by_gone (is_gone lists o) (unlike_notified lists bodies o os n.2 _ left n.1 apart.0 n.7) (apart_notified lists bodies os n.2 _ left n.1 apart.1 n.7))
  where
    by_gone : (b : Bool) → Unlike o n.2 → Apart n.2 → Apart (cond b [] (notified n.0 (list_for lists o.observer) o ∷ []) ++ n.2)
    by_gone true unlike rest = rest
    by_gone false unlike rest = (unlike, rest)

-- ---- one is registered

-- another peer or another token
other_token : (observer : Observer) (o : ObservedValue) → is_token observer.peer observer.token o ≡ false
    → (observer.peer ≡ o.observer.peer) × (observer.token ≡ o.observer.token) → ⊥
other_token observer o other same =
    false≢true (
    sym other
    ∙ ap (λ b. b && bytes_eq o.observer.token observer.token) (eq-eqb o.observer.peer observer.peer (sym same.0))
    ∙ ap (λ token. bytes_eq o.observer.token token) same.1
    ∙ (bytes_eq-Decides o.observer.token o.observer.token).1 refl
    )

record IsToken (observer : Observer) (o : ObservedValue) : Type 0 where
  peer : o.observer.peer ≡ observer.peer
  token : o.observer.token ≡ observer.token

own_token : (observer : Observer) (o : ObservedValue) → is_token observer.peer observer.token o ≡ true → IsToken observer o
own_token observer o is =
    let both = and_parts (o.observer.peer == observer.peer) (bytes_eq o.observer.token observer.token) is in
    record { peer = eqb-true o.observer.peer observer.peer both.0; token = (bytes_eq-Decides o.observer.token observer.token).0 both.1 }

-- what is unlike one is unlike another of the same peer and token
unlike_same : (x y : ObservedValue) (os : List ObservedValue) → y.observer.peer ≡ x.observer.peer → y.observer.token ≡ x.observer.token → Unlike x os → Unlike y os
unlike_same x y [] peer token unlike = tt
unlike_same x y (o ∷ os) peer token unlike = ((λ same. unlike.0 (same.0 ∙ peer, same.1 ∙ token)), unlike_same x y os peer token unlike.1)

unlike_entered : (observer : Observer) (seen : List (ℕ × ℕ)) (x : ObservedValue) (os : List ObservedValue) → is_token observer.peer observer.token x ≡ false
    → Unlike x os → Unlike x (entered observer seen os)
unlike_entered observer seen x [] other unlike = (other_token observer x other, tt)
unlike_entered observer seen x (o ∷ os) other unlike = by_token (is_token observer.peer observer.token o) (unlike_entered observer seen x os other unlike.1)
  where
    by_token : (b : Bool) → Unlike x (entered observer seen os) → Unlike x (cond b (registered_again observer seen o ∷ os) (o ∷ entered observer seen os))
    by_token true rest = (other_token observer x other, unlike.1)
    by_token false rest = (unlike.0, rest)

pub apart_entered : (observer : Observer) (seen : List (ℕ × ℕ)) (os : List ObservedValue) → Apart os → Apart (entered observer seen os)
apart_entered observer seen [] apart = (tt, tt)
apart_entered observer seen (o ∷ os) apart = by_token (is_token observer.peer observer.token o) refl (apart_entered observer seen os apart.1)
  where
    by_token : (b : Bool) → is_token observer.peer observer.token o ≡ b → Apart (entered observer seen os)
        → Apart (cond b (registered_again observer seen o ∷ os) (o ∷ entered observer seen os))
    by_token true is rest =
        let own = own_token observer o is in
        (unlike_same o (registered_again observer seen o) os (sym own.peer) (sym own.token) apart.0, apart.1)
    by_token false is rest = (unlike_entered observer seen o os is apart.0, rest)
