-- The parts of what an answer does to a client, by the place of its request.
use Rattle.std.specs.Prelude.{◌≡◌, ◌≢◌, ℕ, ℤ, ◌/◌, Some, slice_get, position}
use Rattle.std.specs.List.{remove}
use Rattle.acl_lists.specs.declared.asked.Asked.{Asked}
use Rattle.coap_message.specs.declared.kind.Kind.TheVariants.{Non}
use Rattle.coap_message.specs.Message.{CoapMessage}
use Rattle.dots_client.specs.declared.heard.Heard.{Heard}
use Rattle.dots_client.specs.declared.heard.Heard.TheVariants as heard
use Rattle.dots_client.specs.Client.{ClientValue, WaitingValue}
use Rattle.dots_client.specs.Receiving.{waits_by, granted_row}
use Rattle.dots_client.specs.Ledger.{with_row, without_row}

-- the message answers the request at this place
pub record IsOf (client : ClientValue) (m : CoapMessage) (place : ℕ) : Type 0 where
  pub kind : m.kind ≡ Non
  pub class : m.code / 32 ≢ 0
  pub place_is : position (waits_by m.token) client.waiting ≡ Some place

-- without the request at this place
abbrev pub without_place : ClientValue → ℕ → ClientValue
without_place client place = record client { waiting = remove client.waiting place }

abbrev pub Sets : ClientValue → ℕ → ℤ → ℕ → Heard → ClientValue → Type 0
Sets old place lifetime now (heard.Granted mid) new =
    (w : WaitingValue) × (asked : Asked) × (slice_get old.waiting place ≡ Some w) × (mid ≡ w.request.mid) × (w.request.scope ≡ Some asked)
    × (new ≡ record (without_place old place) { ledger = with_row (granted_row mid asked lifetime now) old.ledger })
Sets old place lifetime now heard.NoMemory new = new ≡ old
Sets old place lifetime now _ new = ⊥

abbrev pub Removes : ClientValue → ℕ → Heard → ClientValue → Type 0
Removes old place (heard.Withdrawn mid) new =
    (w : WaitingValue) × (slice_get old.waiting place ≡ Some w) × (mid ≡ w.request.mid)
    × (new ≡ record (without_place old place) { ledger = without_row mid old.ledger })
Removes old place _ new = ⊥

abbrev pub Drops : ClientValue → ℕ → ℕ → Heard → ClientValue → Type 0
Drops old place code (heard.Refused mid other) new =
    (w : WaitingValue) × (slice_get old.waiting place ≡ Some w) × (mid ≡ w.request.mid) × (other ≡ code) × (new ≡ without_place old place)
Drops old place code _ new = ⊥
