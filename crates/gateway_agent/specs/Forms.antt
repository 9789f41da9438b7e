-- An exchange of a gateway as an entry of a journal. No server has an entry of this form.
use Rattle.std.specs.Prelude.{ℕ, Bool, not, ◌&&◌, ◌==◌, nat_le, if◌then◌else◌, List, [], ◌++◌, length, map, take, drop, Option, Some, None}
use Rattle.std.specs.Int.{w64, to_be_bytes, from_be_bytes}
use Rattle.dots_history.specs.declared.entry.Entry.{Entry}
use Rattle.dots_history.specs.declared.change.Change.TheVariants as change
use Rattle.dots_history.specs.Calm.{is_http}
use Rattle.dots_history.specs.Capacities.{is_registration}
use Rattle.dots_gateway.specs.declared.exchange.Exchange.{Exchange}

-- the domain of these entries, which no settings have
abbrev pub exchange_domain : ℕ
exchange_domain = 65534

-- The entry has the time, the peer and the message of the exchange, no cuid, a registration as its change, and as its reply the 8
-- bytes of the number and then the client's token.
abbrev pub entry_of : Exchange → Entry
entry_of x = record {
  time = x.time;
  peer = x.peer;
  domain = exchange_domain;
  cuid = [];
  key = x.key;
  reply = to_be_bytes w64 x.number ++ x.token;
  change = change.Register;
}

abbrev pub entries_of : List Exchange → List Entry
entries_of exchanges = map entry_of exchanges

-- a reply of 8 bytes and a token (RFC 7252, section 5.3.1)
abbrev pub is_form_of_reply : ℕ → Bool
is_form_of_reply size = nat_le 8 size && nat_le size 16

-- an entry of this form; its message is none of the data channel
abbrev pub is_form : Entry → Bool
is_form e =
    e.domain == exchange_domain
    && ((length e.cuid == 0) && (not (is_http e.key) && (is_form_of_reply (length e.reply) && is_registration e.change)))

-- the exchange of an entry of this form
abbrev pub exchange_in : Entry → Option Exchange
exchange_in e =
    if is_form e
    then Some (record { number = from_be_bytes w64 (take 8 e.reply); peer = e.peer; key = e.key; token = drop 8 e.reply; time = e.time })
    else None

-- an exchange of a request of the signal channel
abbrev pub is_of_request : Exchange → Bool
is_of_request x = not (is_http x.key) && nat_le (length x.token) 8
