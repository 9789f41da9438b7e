-- The configuration of a session (RFC 9132, section 4.5.1), and heartbeats (section 4.7).
use Rattle.std.specs.Prelude.{ℕ, Bool, List, [], ◌∷◌, ◌++◌}
use Rattle.cbor_profile.specs.Tree.{Tree, unsigned, negative, array, tag, boolean, items_of}
use Rattle.reply_bodies.specs.declared.keys.TheConstants.{SIGNAL_CONFIG, SID, MITIGATING_CONFIG, HEARTBEAT_INTERVAL, CURRENT_VALUE, MISSING_HB_ALLOWED, MAX_RETRANSMIT, ACK_TIMEOUT, ACK_RANDOM_FACTOR, CURRENT_VALUE_DECIMAL, IDLE_CONFIG, HEARTBEAT, PROBING_RATE, PEER_HB_STATUS}
use Rattle.reply_bodies.specs.declared.session.TheConstants.{DECIMAL_FRACTION}
use Rattle.reply_bodies.specs.declared.session.Current.{Current}
use Rattle.reply_bodies.specs.declared.session.SessionView.{SessionView}
use Rattle.reply_bodies.specs.Maps.{field, numbered, map_of, sole}

-- hundredths, as a decimal fraction (RFC 8949, section 3.4.4): a tag before an array of the exponent -2 and the number
abbrev pub decimal : ℕ → Tree
decimal hundredths = tag DECIMAL_FRACTION (array (items_of (negative 1 ∷ unsigned hundredths ∷ [])))

-- a value is a map of its current value alone
abbrev pub number_field : ℕ → ℕ → List (Tree × Tree)
number_field key number = field key (sole CURRENT_VALUE (unsigned number))

abbrev pub decimal_field : ℕ → ℕ → List (Tree × Tree)
decimal_field key hundredths = field key (sole CURRENT_VALUE_DECIMAL (decimal hundredths))

abbrev pub values : Current → Tree
values current =
    map_of
    (
    number_field HEARTBEAT_INTERVAL current.interval
    ++ number_field MISSING_HB_ALLOWED current.missing
    ++ number_field MAX_RETRANSMIT current.retransmit
    ++ decimal_field ACK_TIMEOUT current.timeout
    ++ decimal_field ACK_RANDOM_FACTOR current.factor
    ++ number_field PROBING_RATE current.rate
    )

-- {31: sid, 32: values, 44: values}, where there is no sid without it
abbrev pub configuration : SessionView → Tree
configuration view = map_of (numbered SID view.sid ++ field MITIGATING_CONFIG (values view.mitigating) ++ field IDLE_CONFIG (values view.idle))

abbrev pub session_tree : SessionView → Tree
session_tree view = sole SIGNAL_CONFIG (configuration view)

-- {49: {51: heard}}
abbrev pub beat_tree : Bool → Tree
beat_tree heard = sole HEARTBEAT (sole PEER_HB_STATUS (boolean heard))
