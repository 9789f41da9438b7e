use Rattle.std.proofs.Common.{◌≡◌, ◌++◌, take}
use Rattle.std.specs.List.{flat_map}
use Rattle.server_figures.specs.Lines.{spelled_byte}
use Rattle.server_figures.proofs.spelling.add_bytes.Given as goal

abbrev pub invariant-loop-byte : goal.invariant-loop-byte
invariant-loop-byte l = record { added : l.text.items ≡ l.fn.text.items ++ flat_map spelled_byte (take l.byte-index l.name) }
