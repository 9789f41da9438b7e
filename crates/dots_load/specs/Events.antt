-- The events of a generated run.
use Rattle.std.specs.Prelude.{ℕ, ◌+◌, ◌*◌, ◌%◌, ◌==◌, nat_lt, if◌then◌else◌, List, map}
use Rattle.std.specs.List.{range_with_len}
use Rattle.dots_host.specs.declared.event.Event.{Event}
use Rattle.dots_host.specs.declared.event.Event.TheVariants as event
use Rattle.dots_host.specs.Memory.{Coming}
use Rattle.coap_message.specs.Message.{CoapMessage, spelling}
use Rattle.dots_load.specs.Draws.{draw}
use Rattle.dots_load.specs.Requests.{get_all, delete_one, put_one, prefix_text, scope_body}

abbrev pub sends : ℕ → CoapMessage → Event
sends peer message = event.Datagram peer (spelling message)

-- What event k is by its four draws. The first is of the peer, of eight. By the second, of eight, five are a PUT of mid k + 1 for a prefix of
-- the peer's domain by the third and a lifetime by the fourth; one is a DELETE of a mid that may have been asked for, by the third; one is
-- a GET of all; and one is a tick. The Message ID is k.
unfoldable pub event_by : ℕ → ℕ → ℕ → ℕ → ℕ → Event
event_by k a b c d =
    let peer = a % 8 in
    let kind = b % 8 in
    if nat_lt kind 5 then sends peer (put_one k peer (k + 1) (scope_body (prefix_text (peer % 4) (c % 256)) (60 + d % 600)))
    else if kind == 5 then sends peer (delete_one k peer (1 + c % (k + 1)))
    else if kind == 6 then sends peer (get_all k peer)
    else event.Tick

-- Event k comes a second after the one before it, the first at 1000, with the next four draws from the seed.
unfoldable pub load_event : ℕ → ℕ → Coming
load_event seed k = record {
  event = event_by k (draw seed (4 * k)) (draw seed (4 * k + 1)) (draw seed (4 * k + 2)) (draw seed (4 * k + 3));
  at = 1000 + k;
}

-- the first events
unfoldable pub events_to : ℕ → ℕ → List Coming
events_to seed count = map (load_event seed) (range_with_len 0 count)

-- A generated run has 20,000 events; End comes behind them.
abbrev pub load_events : ℕ → List Coming
load_events seed = events_to seed 20000
