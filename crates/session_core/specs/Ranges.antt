-- The values of a session configuration: which are accepted, and what holds where none is given (RFC 9132, section 4.5.2).
use Rattle.std.specs.Prelude.{ℕ, Bool, false, ◌&&◌, ◌||◌, ◌==◌, not, nat_le, Option, Some, None, unwrap_or}
use Rattle.session_core.specs.declared.setting.Setting.{Setting}
use Rattle.session_core.specs.declared.setting.Setting.TheVariants.{Interval, Missing, Retransmit, Timeout, Factor, Rate}

-- the key in CBOR (RFC 9132, section 6)
abbrev pub key_of : Setting → ℕ
key_of Interval = 33
key_of Missing = 37
key_of Retransmit = 38
key_of Timeout = 39
key_of Factor = 40
key_of Rate = 50

-- seconds, numbers, hundredths and bytes a second
abbrev pub default_of : Setting → ℕ
default_of Interval = 30
default_of Missing = 15
default_of Retransmit = 3
default_of Timeout = 200
default_of Factor = 150
default_of Rate = 5

abbrev pub is_within : ℕ → ℕ → ℕ → Bool
is_within least most value = nat_le least value && nat_le value most

-- an interval of 0 stands for no heartbeats
abbrev pub is_accepted : Setting → ℕ → Bool
is_accepted Interval value = (value == 0) || is_within 15 240 value
is_accepted Missing value = is_within 3 20 value
is_accepted Retransmit value = is_within 2 15 value
is_accepted Timeout value = is_within 100 3000 value
is_accepted Factor value = is_within 110 400 value
is_accepted Rate value = is_within 1 100 value

-- a value is given that isn't accepted
abbrev pub is_refused : Setting → Option ℕ → Bool
is_refused setting None = false
is_refused setting (Some value) = not (is_accepted setting value)

-- the value that is given, or the default
abbrev pub chosen : Setting → Option ℕ → ℕ
chosen setting value = unwrap_or value (default_of setting)
