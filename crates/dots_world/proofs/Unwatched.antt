-- A step from a state in which nobody observes, on an event that asks nothing of it, is decided by the event, but for want of memory.
use Rattle.std.proofs.Common.{◌≡◌, ℕ, false, true, List, [], Option, Some, None, refl, sym, ap, ◌∙◌, subst}
use Rattle.std.specs.Prelude.{count_by}
use Rattle.dots_host.specs.declared.event.Event.{Event}
use Rattle.dots_host.specs.declared.event.Event.TheVariants as event
use Rattle.dots_host.specs.declared.out.OwnedOut.{OwnedOut}
use Rattle.coap_message.specs.Message.{CoapMessage, IsMessage, spelling}
use Rattle.dots_settings.specs.Settings.{SettingsValue}
use Rattle.dots_settings.specs.Lookups.{role_of}
use Rattle.dots_keys.specs.Heads.{head_of}
use Rattle.dots_keys.specs.declared.dismissal.Dismissal.{Dismissal}
use Rattle.dots_keys.specs.declared.dismissal.Dismissal.TheVariants as dismissal
use Rattle.dots_keys.specs.declared.exchange.Exchange.{Exchange}
use Rattle.dots_keys.specs.Exchanges.{exchange_in, is_request, dismissed}
use Rattle.dots_load.specs.Report.{unavailable}
use Rattle.dots_machine.specs.Domains.{is_gateway}
use Rattle.dots_machine.specs.Observing.{asked_by, unless_dismissed}
use Rattle.dots_machine.specs.Answering.{AreBytes}
use Rattle.dots_machine.specs.Machine.{State, later, restarted, Step}
use Rattle.dots_machine.proofs.Unobserved.{NoneRegistered, RegistersNobody, by_watching, IsUnavailable, answered_none, answered_one, ticked_none, outs_are, turn_one, rests}
use Rattle.dots_world.specs.OneWorld.{StepsWell}
use Rattle.dots_world.proofs.Machine.{asks_then}

module _ (settings : SettingsValue) (peer : ℕ) (message : CoapMessage) (is : IsMessage message) where
  -- a message that is no request
  pub without_request : is_request message ≡ false → RegistersNobody settings peer (spelling message)
  without_request none = by_watching settings peer message is (by_dismissal (dismissed message) (λ asks. none_asked (sym none ∙ asks_then message.kind message.identifier _ _ asks)))
    where
      none_asked : false ≡ true → ⊥
      none_asked is = cc is

      dismissed_some : (d : Dismissal) → NoneRegistered (unless_dismissed (Some d) (asked_by settings peer (exchange_in message) (head_of message (is_gateway (role_of settings peer)))))
      dismissed_some dismissal.Ignored = tt
      dismissed_some (dismissal.Reset id) = tt
      dismissed_some (dismissal.Rejected id) = tt

      by_dismissal : (d : Option Dismissal) → (d ≡ None → ⊥)
          → NoneRegistered (unless_dismissed d (asked_by settings peer (exchange_in message) (head_of message (is_gateway (role_of settings peer)))))
      by_dismissal None never = absurd (never refl)
      by_dismissal (Some d) never = dismissed_some d

-- the code of a 5.00
says_so : IsUnavailable unavailable
says_so peer x = refl

-- ---- an event of a world

-- it registers nobody, and isn't of a connection
abbrev pub IsUnwatching : SettingsValue → Event → Type 0
IsUnwatching settings (event.Datagram peer bytes) = AreBytes bytes × RegistersNobody settings peer bytes
IsUnwatching settings event.Tick = Unit {0}
IsUnwatching settings event.Restart = Unit {0}
IsUnwatching settings _ = ⊥

module _ (settings : SettingsValue) (old : State) (at : ℕ) (none : old.observers ≡ []) where
  pub still_none : (came : Event) (owed : List (State × OwnedOut)) (new : State) → IsUnwatching settings came → Step settings old came at owed new → new.observers ≡ []
  still_none (event.Datagram peer bytes) owed new is step = (answered_none settings (later old at) peer bytes is.0 is.1 none step.0 new step.2).2
  still_none event.Tick owed new is step = (ticked_none settings (later old at) new step.0 none step.2).2
  still_none event.Restart owed new is step = ap (λ (s : State). s.observers) step.1
  still_none event.End owed new is step = absurd is
  still_none event.Failed owed new is step = absurd is
  still_none (event.Opened c p) owed new is step = absurd is
  still_none (event.Piece c p) owed new is step = absurd is
  still_none (event.Closed c) owed new is step = absurd is

  pub one_step : (came : Event) (owed others : List (State × OwnedOut)) (new last : State) → IsUnwatching settings came → StepsWell (Step settings) old came at owed new → StepsWell (Step settings) old came at others last
      → (owed ≡ others) × (new ≡ last)
  one_step (event.Datagram peer bytes) owed others new last is (a, nought) (b, nil) =
      turn_one owed others new last a.0 b.0 a.1 b.1
      (answered_one settings (later old at) peer bytes is.0 is.1 none unavailable says_so a.0 b.0 new last a.2 b.2
      (subst (λ sends. count_by unavailable sends ≡ 0) (outs_are owed new a.0 a.1) nought) (subst (λ sends. count_by unavailable sends ≡ 0) (outs_are others last b.0 b.1) nil))
  one_step event.Tick owed others new last is (a, nought) (b, nil) =
      let one = ticked_none settings (later old at) new a.0 none a.2 in
      let another = ticked_none settings (later old at) last b.0 none b.2 in
      turn_one owed others new last a.0 b.0 a.1 b.1 (one.0 ∙ sym another.0, one.1 ∙ sym another.1)
  one_step event.Restart owed others new last is (a, nought) (b, nil) = rests owed others new last (restarted settings old at) a b
  one_step event.End owed others new last is a b = absurd is
  one_step event.Failed owed others new last is a b = absurd is
  one_step (event.Opened c p) owed others new last is a b = absurd is
  one_step (event.Piece c p) owed others new last is a b = absurd is
  one_step (event.Closed c) owed others new last is a b = absurd is
