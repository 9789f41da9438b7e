-- Writing into a buffer.
use Rattle.std.specs.Prelude.{ℕ, ◌+◌, ◌-◌, List, [], ◌∷◌, ◌++◌, length, take, drop}
use Rattle.coap_message.specs.declared.parts.OptionPart.{OptionPart}
use Rattle.coap_message.specs.Message.{extension}

-- the buffer with these bytes from a place on, as it was before and behind them
abbrev pub put_at : ℕ → List ℕ → List ℕ → List ℕ
put_at at bytes buffer = take at buffer ++ bytes ++ drop (at + length bytes) buffer

-- how many bytes these options have behind one with the number `previous`
abbrev pub options_size : ℕ → List OptionPart → ℕ
options_size previous [] = 0
options_size previous (part ∷ parts) = 1 + length (extension (part.number - previous)) + length (extension part.length) + part.length + options_size part.number parts
