-- The time of a host: what the wall clock read first, and what the monotonic clock has gone on since.
use Rattle.std.specs.Prelude.{◌≡◌, ◌⊎◌, ℕ, ◌+◌, ◌-◌, ◌/◌, ◌^◌, max, min, Bool, nat_lt, Option, Some, None, ⊤}
use Rattle.std.specs.Duration.{as_nanos, max_nanos}
use Rattle.std.specs.declared.time.Duration.{Duration}
use Rattle.dots_edge.specs.declared.seconds.Begun.{Begun}

-- the time in nanoseconds since 1970 at a reading of the monotonic clock
abbrev pub nanos_at : Begun → Duration → ℕ
nanos_at begun reading = min (as_nanos begun.wall + (as_nanos reading - as_nanos begun.reading)) max_nanos

-- the same in seconds, the last of which is that before 2^48
abbrev pub second_at : Begun → Duration → ℕ
second_at begun reading = min (nanos_at begun reading / 1000000000) (2 ^ 48 - 1)

-- Once the clocks were read the time goes by the monotonic one alone: either that couldn't be read, and the time stands still, or it is the time at
-- some reading of it, but not below the time before.
abbrev pub IsSteady : Option Begun → Option Begun → ℕ → ℕ → Type 0
IsSteady None now last at = ⊤
IsSteady (Some begun) now last at = (now ≡ Some begun) × ((at ≡ last) ⊎ ((reading : Duration) × (at ≡ max last (second_at begun reading))))

-- the wall clock differs from the time by more than 30 seconds
abbrev pub strays : Begun → Duration → Duration → Bool
strays begun reading wall = nat_lt 30000000000 (max (nanos_at begun reading) (as_nanos wall) - min (nanos_at begun reading) (as_nanos wall))

-- one more, up to the greatest u64
abbrev pub one_more : ℕ → ℕ
one_more count = min (count + 1) (2 ^ 64 - 1)
