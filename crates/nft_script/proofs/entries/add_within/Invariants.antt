use Rattle.std.proofs.Common.{◌≡◌, ◌++◌, take}
use Rattle.std.specs.List.{flat_map}
use Rattle.nft_script.specs.Script.{rule_within}
use Rattle.nft_script.proofs.entries.add_within.Given as goal

abbrev pub invariant-loop-prefix : goal.invariant-loop-prefix
invariant-loop-prefix l = record { added : l.text.items ≡ l.fn.text.items ++ flat_map (rule_within l.number l.ace l.family) (take l.prefix-index l.prefixes) }
