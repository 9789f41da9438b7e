-- What the packets that were sent to the upstream are of, in the words of a run.
use Rattle.std.specs.Prelude.{◌≡◌, ◌⊎◌, ℕ, ◌^◌, ◌<◌, ◌≤◌, true, List, [], ◌∷◌, Contains}
use Rattle.std.specs.Int.{w64, to_be_bytes}
use Rattle.coap_message.specs.Message.{CoapMessage, spelling}
use Rattle.dots_keys.specs.Exchanges.{is_request}
use Rattle.dots_host.specs.declared.out.OwnedOut.TheVariants as owned
use Rattle.dots_host.specs.Acts.{WireAct, gave, Timed}
use Rattle.dots_settings.specs.Settings.{SettingsValue}
use Rattle.dots_gateway.specs.declared.exchange.Exchange.{Exchange}
use Rattle.gateway_agent.specs.Crashes.{HasThe}
use Rattle.gateway_agent.specs.Exchanges.{IsStore, is_young, last_number}

-- a request that was passed on under the number, which is one of 8 bytes: these are its token
abbrev pub IsPacket : ℕ → List ℕ → Type 0
IsPacket number bytes =
    (m : CoapMessage) × (bytes ≡ spelling m) × (is_request m ≡ true) × (number < 2 ^ 64) × (m.token ≡ to_be_bytes w64 number)

-- it was handed to the wire for the upstream
abbrev pub IsHanded : ℕ → ℕ → WireAct → Type 0
IsHanded upstream number (gave (owned.To peer bytes) done) = (peer ≡ upstream) × IsPacket number bytes
IsHanded upstream number _ = ⊥

-- before the moment
abbrev pub WasSent : ℕ → ℕ → ℕ → List Timed → Type 0
WasSent upstream m number [] = ⊥
WasSent upstream m number (timed ∷ acts) = ((timed.moment < m) × IsHanded upstream number timed.act) ⊎ WasSent upstream m number acts

-- Each packet that was sent before is of one of the exchanges that were kept. The image holds a store. In it is each of these of which a packet was
-- sent before and that is at most 246 s old, and its last number isn't below that of any packet.
pub record HasSent (settings : SettingsValue) (most upstream m now : ℕ) (kept : List Exchange) (acts : List Timed) (image : ℕ → ℕ) : Type 0 where
  pub some : List Exchange
  pub image_has : HasThe settings some image
  pub store : IsStore most some
  pub of : (number : ℕ) → WasSent upstream m number acts → (x : Exchange) × Contains kept x × (x.number ≡ number)
  pub has : (number : ℕ) (x : Exchange) → WasSent upstream m number acts → Contains kept x → x.number ≡ number → is_young now x ≡ true → Contains some x
  pub above : (number : ℕ) → WasSent upstream m number acts → number ≤ last_number some
