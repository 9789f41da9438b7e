-- What has passed by a clock that doesn't fall.
use Rattle.std.specs.Prelude.{ℕ, ◌-◌, ◌*◌, Bool, false, nat_le, ◌||◌, Option, Some, None}
use Rattle.std.specs.Duration.{as_nanos}
use Rattle.std.specs.declared.time.Duration.{Duration}

-- so many seconds, or more, have passed since
abbrev pub have_passed : ℕ → Duration → Duration → Bool
have_passed seconds since now = nat_le (seconds * 1000000000) (as_nanos now - as_nanos since)

-- a second has passed since the last tick; where there was none, none is due
abbrev pub is_due : Option Duration → Duration → Bool
is_due None now = false
is_due (Some last) now = have_passed 1 last now

-- it counts from the first look at the clock on
abbrev pub begun : Option Duration → Duration → Option Duration
begun None now = Some now
begun (Some last) now = Some last

-- how many nanoseconds are left until a second has passed
abbrev pub left_of : Option Duration → Duration → ℕ
left_of None now = 1000000000
left_of (Some last) now = 1000000000 - (as_nanos now - as_nanos last)

-- what was asked has waited for an answer for 30 seconds
abbrev pub is_unanswered : Option Duration → Duration → Bool
is_unanswered None now = false
is_unanswered (Some asked) now = have_passed 30 asked now

-- nothing has come or gone for 300 seconds, or what was asked has waited too long
abbrev pub is_stale : Duration → Option Duration → Duration → Bool
is_stale moved asked now = have_passed 300 moved now || is_unanswered asked now
