-- What a handling answers a repeat.
use Rattle.std.specs.Prelude.{◌≡◌, ◌⊎◌, ℕ, false, List, ◌∷◌}
use Rattle.dots_host.specs.declared.event.Event.TheVariants as event
use Rattle.dots_host.specs.declared.out.OwnedOut.{OwnedOut}
use Rattle.dots_host.specs.declared.out.OwnedOut.TheVariants as owned
use Rattle.dots_settings.specs.Settings.{SettingsValue}
use Rattle.dots_settings.specs.Lookups.{role_of}
use Rattle.dots_history.specs.declared.entry.Entry.{Entry}
use Rattle.dots_keys.specs.declared.request.Request.{Request}
use Rattle.dots_keys.specs.declared.exchange.Exchange.{Exchange}
use Rattle.dots_machine.specs.declared.received.Received.TheVariants as received
use Rattle.dots_machine.specs.Answering.{AreBytes, IsUnavailable}
use Rattle.dots_machine.specs.Domains.{is_gateway, is_stranger}
use Rattle.dots_machine.specs.Requests.{IsReceived}
use Rattle.dots_machine.specs.MessageRepeats.{sent_for, IsRepeatOf}
use Rattle.dots_machine.specs.RepeatRule.{AsksToChange}
use Rattle.dots_machine.specs.Machine.{State, later, hearing, Notified}
use Rattle.dots_machine.specs.Handlings.{Handling, IsHandling}

-- The reply was sent again, and nothing was added but that the signal of its peer is back, where it was lost: the peer was heard, and then the
-- observers that are due were told.
abbrev pub IsRepeated : SettingsValue → State → ℕ → List ℕ → ℕ → List OwnedOut → State → Type 0
IsRepeated settings old peer reply at sends new =
    (notices : List OwnedOut) × (sends ≡ owned.To peer reply ∷ notices) × Notified settings (hearing settings peer (later old at)) notices new

-- A handling for a repeat that asks for a change gives the bytes that answered the message, and adds nothing; or 5.00 is answered, for want of memory.
pub record AnswersRepeats (settings : SettingsValue) (old : State) (handling : Handling) (new : State) : Type 0 where
  pub handled : IsHandling settings old handling new
  pub repeated :
      (peer : ℕ) (datagram : List ℕ) (exchange : Exchange) (asked : Request) (domain : ℕ) (entry : Entry) → handling.what ≡ event.Datagram peer datagram
      → AreBytes datagram → is_stranger (role_of settings peer) ≡ false
      → IsReceived datagram (is_gateway (role_of settings peer)) (received.Asked exchange asked) → AsksToChange settings (role_of settings peer) domain asked
      → IsRepeatOf settings.limits.remembered (later old handling.at).time old.history (sent_for peer exchange domain) entry
      → IsRepeated settings old peer entry.reply handling.at handling.sends new ⊎ IsUnavailable handling.what handled.owed
