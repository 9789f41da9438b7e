-- Sockets that are asked in turn.
use Rattle.std.proofs.Common.{◌≡◌, ℕ, ◌+◌, List, [], Result, Ok, Err, OnErr, refl, sym, subst, arith}
use Rattle.dots_edge.specs.declared.signal.Received.{Received}
use Rattle.dots_edge.specs.declared.signal.Received.TheVariants as received
use Rattle.dots_edge.specs.declared.listener.Accepted.{Accepted}
use Rattle.dots_edge.specs.declared.answer.Answer.TheVariants as answer
use Rattle.dots_edge.specs.declared.signal.Signal.{Signal}
use Rattle.dots_edge.specs.declared.listener.Listener.{Listener}
use Rattle.dots_edge.specs.declared.sockets.Sockets.{Sockets}
use Rattle.dots_edge.specs.Logs.{IsNext, IfBoth}
use Rattle.dots_edge.specs.Datagrams.{HasReceived, HasAsked, HasReceivedAt, HasFailedAt, IsSomething, signal_at, last_asked}
use Rattle.dots_edge.specs.Accepts.{HasGiven, HasGivenAt, listener_at}

-- what was asked of the socket at a place is so over other steps that leave it
pub received_beside : (found : Received) (place : ℕ) (room : List ℕ) (old between new after : Sockets) → signal_at old place ≡ signal_at between place → signal_at after place ≡ signal_at new place → HasReceivedAt found place room between new → HasReceivedAt found place room old after
received_beside found place room old between new after before behind has =
    subst (λ at. IfBoth at (signal_at after place) (λ (before after : Signal). HasReceived found place room before.came after.came)) (sym before)
    (subst (λ at. IfBoth (signal_at between place) at (λ (before after : Signal). HasReceived found place room before.came after.came)) (sym behind) has)

pub failed_beside : (place : ℕ) (old between new : Sockets) → signal_at old place ≡ signal_at between place → HasFailedAt place between new → HasFailedAt place old new
failed_beside place old between new before has =
    subst (λ at. IfBoth at (signal_at new place) (λ (before after : Signal). IsNext before.came answer.Failed [] after.came)) (sym before) has

pub given_beside : (found : Accepted) (place : ℕ) (old between new after : Sockets) → listener_at old place ≡ listener_at between place → listener_at after place ≡ listener_at new place → HasGivenAt found place between new → HasGivenAt found place old after
given_beside found place old between new after before behind has =
    subst (λ at. IfBoth at (listener_at after place) (λ (before after : Listener). HasGiven found before.came after.came)) (sym before)
    (subst (λ at. IfBoth (listener_at between place) at (λ (before after : Listener). HasGiven found before.came after.came)) (sym behind) has)

-- the turn is behind the one that was asked
pub asked_last : (sockets : Sockets) (at : ℕ) → sockets.signal_turn ≡ at + 1 → at ≡ last_asked sockets
asked_last sockets at turn = omega arith

-- what the socket gave that was asked last is what all of them gave, where it isn't that there was none
pub asked_by : (found : Received) (room : List ℕ) (old new : Sockets) → (found ≡ received.Nothing → ⊥) → HasReceivedAt found (last_asked new) room old new → HasAsked found room old new
asked_by (received.Datagram len from via) room old new some has = has
asked_by received.Nothing room old new some has = absurd (some refl)
asked_by received.Again room old new some has = has

pub something : (found : Received) (P : Type 0) → P → IsSomething found P
something (received.Datagram len from via) P holds = holds
something received.Nothing P holds = tt
something received.Again P holds = holds

pub on_err : {T : Type 0} {E : Type 0} → (result : Result T E) (P : Type 0) → P → OnErr result P
on_err (Ok value) P holds = tt
on_err (Err error) P holds = holds
