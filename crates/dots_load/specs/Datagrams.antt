-- What each event of a list is.
use Rattle.std.specs.Prelude.{ℕ, ◌<◌, ◌^◌, List, [], ◌∷◌, length, get_or, ⊤}
use Rattle.dots_host.specs.declared.event.Event.{Event}
use Rattle.dots_host.specs.declared.event.Event.TheVariants as event
use Rattle.dots_host.specs.Memory.{Coming}

-- each of the events has the property
abbrev pub EachComing : (Event → Type 0) → List Coming → Type 0
EachComing P [] = ⊤
EachComing P (coming ∷ later) = P coming.event × EachComing P later

-- a datagram has bytes, which are below 256, and fewer than 2^64
abbrev pub AreBytes : Event → Type 0
AreBytes (event.Datagram from bytes) = ((i : ℕ) → get_or bytes i 0 < 256) × (length bytes < 2 ^ 64)
AreBytes _ = ⊤
