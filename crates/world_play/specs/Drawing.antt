-- The events of a generated world.
use Rattle.std.specs.Prelude.{ℕ, zero, suc, ◌+◌, ◌*◌, ◌%◌, ◌==◌, nat_lt, ◌&&◌, max, if◌then◌else◌}
use Rattle.dots_load.specs.Draws.{draw}
use Rattle.dots_world.specs.declared.event.WorldEvent.{WorldEvent}
use Rattle.dots_world.specs.declared.event.WorldEvent.TheVariants as event
use Rattle.world_play.specs.declared.drawing.Drawn.{Drawn}
use Rattle.world_play.specs.Asks.{ask_for}

-- the three draws of event k of a seed
abbrev pub drawn_at : ℕ → ℕ → Drawn
drawn_at seed k = record { first = draw seed (3 * k); second = draw seed (3 * k + 1); third = draw seed (3 * k + 2) }

-- ---- times, in seconds

-- by how much an event raises the time
abbrev pub raise : Drawn → ℕ
raise drawn = if drawn.first % 8 == 1 then drawn.third % 30 else if drawn.first % 8 == 2 && nat_lt 1 (drawn.third % 16) then 1 else 0

-- the time after so many events
abbrev pub time_after : ℕ → ℕ → ℕ
time_after seed zero = 1000
time_after seed (suc k) = time_after seed k + raise (drawn_at seed k)

-- ---- events

-- the number of one of so many packets, or 0 where there are none
abbrev pub number_among : Drawn → ℕ → ℕ
number_among drawn packets = (256 * drawn.second + drawn.third) % max 1 packets

-- What an event is by its draws, where it is `time` behind it and so many packets were sent before. By the first draw, of eight, one is an ask
-- of a client, by the second; one is a restart of the server once in sixteen, by the third, and once one of the gateway; that one else, and one
-- more, are a tick; and five are the coming of any packet that was sent. Where none was, nothing comes.
unfoldable pub event_by : Drawn → ℕ → ℕ → WorldEvent
event_by drawn time packets =
    if drawn.first % 8 == 0 then event.Ask (drawn.second % 3) (ask_for (drawn.second % 3) drawn.third)
    else if drawn.first % 8 == 2 && drawn.third % 16 == 0 then event.Restart
    else if drawn.first % 8 == 2 && drawn.third % 16 == 1 then event.GatewayRestart
    else if nat_lt (drawn.first % 8) 3 then event.Tick time
    else event.Deliver (number_among drawn packets)

-- event k of a seed, where so many packets were sent before
abbrev pub event_at : ℕ → ℕ → ℕ → WorldEvent
event_at seed k packets = event_by (drawn_at seed k) (time_after seed (suc k)) packets
