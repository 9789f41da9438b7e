-- Sends, one after the other.
use Rattle.std.proofs.Common.{ℕ, ◌+◌, List, [], ◌∷◌, ◌++◌, length, Option, Some, None, refl, sym, ap, ◌∙◌, subst, append_assoc, append-nil, length-append, arith}
use Rattle.dots_host.specs.declared.out.OwnedOut.{OwnedOut}
use Rattle.dots_host.specs.Acts.{gave, Timed, Adds}
use Rattle.dots_host.specs.Runs.{Gives, Added}
use Rattle.dots_host.specs.Sending.{Handed}

pub handed_none : (acts : Option (List Timed)) (moment : ℕ) → Handed acts moment acts moment []
handed_none None moment = tt
handed_none (Some acts) moment = ([], sym (append-nil acts), tt, omega arith)

pub handed_one : (old new : Option (List Timed)) (before now : ℕ) (out : OwnedOut) (done : _) → Adds old before new now (gave out done) → Handed old before new now (out ∷ [])
handed_one old None before now out done adds = tt
handed_one None (Some new) before now out done adds = absurd adds
handed_one (Some old) (Some new) before now out done adds = ((record { moment = before; act = gave out done }) ∷ [], adds.0, (refl, refl, tt), adds.1)

gives_then : (moment : ℕ) (outs others : List OwnedOut) (front back : List Timed) → Gives moment outs front → Gives (moment + length outs) others back → Gives moment (outs ++ others) (front ++ back)
gives_then moment [] others [] back a b = subst (λ m. Gives m others back) (omega arith) b
gives_then moment [] others (timed ∷ front) back a b = absurd a
gives_then moment (out ∷ outs) others [] back a b = absurd a
gives_then moment (out ∷ outs) others (timed ∷ front) back a b =
    (a.0, a.1, gives_then (moment + 1) outs others front back a.2 (subst (λ m. Gives m others back) (omega arith) b))

pub handed_then : (old between new : Option (List Timed)) (before middle now : ℕ) (outs others : List OwnedOut) → Handed old before between middle outs → Handed between middle new now others
    → Handed old before new now (outs ++ others)
handed_then old between None before middle now outs others a b = tt
handed_then old None (Some new) before middle now outs others a b = absurd b
handed_then None (Some mid) (Some new) before middle now outs others a b = absurd a
handed_then (Some old) (Some mid) (Some new) before middle now outs others (front, is, gives, count) (back, is', gives', count') = (
  front ++ back,
  is' ∙ ap (λ acts. acts ++ back) is ∙ append_assoc old front back,
  gives_then before outs others front back gives (subst (λ m. Gives m others back) count gives'),
  omega (arith, count, count', length-append outs others),
)

pub handed_gives : (old new : Option (List Timed)) (before now : ℕ) (outs : List OwnedOut) → Handed old before new now outs → Added old new (Gives before outs)
handed_gives old None before now outs handed = tt
handed_gives None (Some new) before now outs handed = absurd handed
handed_gives (Some old) (Some new) before now outs (more, is, gives, count) = (more, is, gives)
