use Rattle.std.proofs.Common.{◌≡◌, ◌++◌, take, flat_map}
use Rattle.dots_script.specs.Quoting.{escaped}
use Rattle.dots_script.proofs.quoting.add_escaped.Given as goal

abbrev pub invariant-loop-byte : goal.invariant-loop-byte
invariant-loop-byte l = record { added : l.text.items ≡ l.fn.text.items ++ flat_map escaped (take l.byte-index l.bytes) }
