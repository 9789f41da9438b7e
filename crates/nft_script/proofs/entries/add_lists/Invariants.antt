use Rattle.std.proofs.Common.{◌≡◌, ◌+◌, ◌++◌, drop}
use Rattle.nft_script.specs.Script.{lists_text}
use Rattle.nft_script.proofs.entries.add_lists.Given as goal

abbrev pub invariant-loop-timed : goal.invariant-loop-timed
invariant-loop-timed l = record {
  number : l.number ≡ l.timed-index + 1;
  added : l.text.items ++ lists_text l.settings l.number (drop l.timed-index l.lists) ≡ l.fn.text.items ++ lists_text l.settings 1 l.lists;
}
