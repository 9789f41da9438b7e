use Rattle.std.proofs.Common.{◌≡◌, map, drop}
use Rattle.dots_edge.specs.HostLine.{line_value}
use Rattle.dots_edge.specs.Found.{filters_nft_in}
use Rattle.dots_edge.proofs.found.filters_nft_in.Given as goal

abbrev pub invariant-loop-line : goal.invariant-loop-line
invariant-loop-line l = filters_nft_in (map line_value (drop l.line-index l.lines)) ≡ filters_nft_in (map line_value l.lines)
