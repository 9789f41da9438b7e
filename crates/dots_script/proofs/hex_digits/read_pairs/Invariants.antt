use Rattle.dots_script.proofs.DecodingPairs.{IsDecoded}
use Rattle.dots_script.proofs.hex_digits.read_pairs.Given as goal

abbrev pub invariant-pairs : goal.invariant-pairs
invariant-pairs l = IsDecoded l.digits l.into l.at l.greatest
