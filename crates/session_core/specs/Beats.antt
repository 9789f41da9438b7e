-- Heartbeats: their bytes, and those of a tick (RFC 9132, section 4.7).
use Rattle.std.specs.Prelude.{ℕ, Bool, List, [], ◌∷◌, ◌++◌, map, filter_map}
use Rattle.cbor_profile.specs.Canon.{canon}
use Rattle.coap_message.specs.declared.codes.TheConstants.{PUT}
use Rattle.coap_message.specs.declared.option_numbers.TheConstants.{URI_PATH}
use Rattle.coap_message.specs.declared.kind.Kind.TheVariants.{Non}
use Rattle.coap_message.specs.Message.{CoapOption, spelling}
use Rattle.dots_keys.specs.Replies.{dots_cbor}
use Rattle.dots_keys.specs.Paths.{heartbeat, path_of}
use Rattle.dots_host.specs.declared.out.OwnedOut.{OwnedOut}
use Rattle.dots_host.specs.declared.out.OwnedOut.TheVariants as owned
use Rattle.reply_bodies.specs.Sessions.{beat_tree}
use Rattle.session_core.specs.declared.contact.Beat.{Beat}
use Rattle.session_core.specs.declared.contact.PeerContact.{PeerContact}
use Rattle.session_core.specs.Beating.{Beating, due_beat}
use Rattle.session_core.specs.Spacing.{with_beat}

-- a segment of the path (RFC 7252, section 5.10.1)
abbrev pub uri_path : List ℕ → CoapOption
uri_path segment = record { number = URI_PATH; value = segment }

-- a PUT of `hb` that isn't confirmable, without a token
abbrev pub beat_with : ℕ → List ℕ → List ℕ
beat_with id body = spelling (record {
  kind = Non;
  code = PUT;
  identifier = id;
  token = [];
  options = map uri_path (path_of heartbeat) ++ dots_cbor ∷ [];
  payload = body;
})

-- with peer-hb-status: whether the peer was heard within the interval
abbrev pub beat_bytes : ℕ → Bool → List ℕ
beat_bytes id heard = beat_with id (canon (beat_tree heard))

abbrev pub beat_sent : Beat → OwnedOut
beat_sent beat = owned.To beat.peer (beat_bytes beat.id beat.heard)

-- the heartbeats of a tick: each peer that is due one is sent one, in the order of the settings
abbrev pub beats : Beating → ℕ → List PeerContact → List OwnedOut
beats by now contacts = map beat_sent (filter_map (due_beat by now) contacts)

-- what the tick leaves of the sessions
abbrev pub after_beats : Beating → ℕ → List PeerContact → List PeerContact
after_beats by now contacts = map (with_beat by now) contacts
