-- The segments that a reader of a path has still to read: the next one, if there is one, and those among the options behind it.
use Rattle.std.specs.Prelude.{ℕ, List, [], ◌∷◌, Option, Some, None}
use Rattle.coap_message.specs.Message.{CoapOption}
use Rattle.dots_keys.specs.Options.{values_of}

abbrev pub segments_left : Option (List ℕ) → List CoapOption → List (List ℕ)
segments_left None options = []
segments_left (Some segment) options = segment ∷ values_of 11 options
