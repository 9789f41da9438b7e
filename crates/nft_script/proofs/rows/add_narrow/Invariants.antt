use Rattle.std.proofs.Common.{◌≡◌, ◌++◌, take}
use Rattle.std.specs.List.{flat_map}
use Rattle.nft_script.specs.Script.{row_element}
use Rattle.nft_script.proofs.rows.add_narrow.Given as goal

abbrev pub invariant-loop-protocol : goal.invariant-loop-protocol
invariant-loop-protocol l = record { added : l.text.items ≡ l.fn.text.items ++ flat_map (row_element l.number l.left) (take l.protocol-index l.protocols) }
