-- How often the messages of requests can still be handed out.
use Rattle.std.specs.Prelude.{ℕ, ◌+◌, ◌-◌, if◌then◌else◌, List, [], ◌∷◌}
use Rattle.dots_client.specs.Client.{WaitingValue, is_unsent}

-- once where it wasn't yet, and three times more
abbrev pub turns_of : WaitingValue → ℕ
turns_of w = (if is_unsent w then 1 else 0) + (3 - w.sent.repeats)

abbrev pub turns_left : List WaitingValue → ℕ
turns_left [] = 0
turns_left (w ∷ ws) = turns_of w + turns_left ws
