-- Grants that the server sends.
use Rattle.std.specs.Prelude.{◌≡◌, ◌<◌, ◌^◌, ℕ, ℤ, List, Contains, ⊤}
use Rattle.dots_host.specs.declared.event.Event.{Event}
use Rattle.dots_host.specs.declared.event.Event.TheVariants as event
use Rattle.coap_message.specs.Message.{CoapMessage, IsMessage, spelling}
use Rattle.dots_settings.specs.Settings.{SettingsValue}
use Rattle.dots_client.specs.Grants.{IsGranted}
use Rattle.dots_client.specs.Answers.{GrantsMid}
use Rattle.dots_history.specs.declared.entry.Entry.{Entry}
use Rattle.dots_history.specs.declared.put.Put.{Put}
use Rattle.dots_history.specs.declared.change.Change.TheVariants as change
use Rattle.dots_keys.specs.declared.exchange.Exchange.{Exchange}

-- the bytes are a message with this token which grants this mid for this lifetime (RFC 9132, section 4.4.1.3)
pub record IsGrant (bytes token : List ℕ) (mid : ℕ) (lifetime : ℤ) : Type 0 where
  pub message : CoapMessage
  pub is_message : IsMessage message
  pub spelled : bytes ≡ spelling message
  pub token_is : message.token ≡ token
  pub grants : GrantsMid mid message lifetime

-- a change that was asked for by the peer, and answered by these bytes, is in the history
pub record WasAnswered (history : List Entry) (peer : ℕ) (bytes : List ℕ) : Type 0 where
  pub entry : Entry
  pub kept : Contains history entry
  pub peer_is : entry.peer ≡ peer
  pub reply_is : entry.reply ≡ bytes

-- The entry is of a mitigation, and this grant has the token of its request, with the mid and the lifetime of the entry, where this lifetime is one
-- that a grant can tell. It is where the ceiling of the settings is one, and that of a settings file is.
pub record IsGrantFor (settings : SettingsValue) (exchange : Exchange) (entry : Entry) (token : List ℕ) (mid : ℕ) (lifetime : ℤ) : Type 0 where
  pub put : Put
  pub changes : entry.change ≡ change.Put put
  pub within : settings.ceiling < 2 ^ 31 → IsGranted put.granted
  pub same : IsGranted put.granted → (token ≡ exchange.token) × (mid ≡ put.mid) × (lifetime ≡ put.granted)

-- no datagram came
abbrev pub IsNoDatagram : Event → Type 0
IsNoDatagram (event.Datagram peer datagram) = ⊥
IsNoDatagram _ = ⊤
