use Rattle.std.proofs.Common.{◌≡◌, ◌++◌, take}
use Rattle.std.specs.List.{flat_map}
use Rattle.nft_script.specs.Script.{entry_rules}
use Rattle.nft_script.proofs.entries.add_entries.Given as goal

abbrev pub invariant-loop-ace : goal.invariant-loop-ace
invariant-loop-ace l = record { added : l.text.items ≡ l.fn.text.items ++ flat_map (entry_rules l.settings l.number l.row) (take l.ace-index l.aces) }
