use Rattle.std.proofs.Common.{◌≡◌, ◌+◌, ◌++◌, drop}
use Rattle.nft_script.specs.Script.{rows_text}
use Rattle.nft_script.proofs.rows.add_rows.Given as goal

abbrev pub invariant-loop-timed : goal.invariant-loop-timed
invariant-loop-timed l = record {
  number : l.number ≡ l.timed-index + 1;
  added : l.text.items ++ rows_text l.number (drop l.timed-index l.rows) ≡ l.fn.text.items ++ rows_text 1 l.rows;
}
