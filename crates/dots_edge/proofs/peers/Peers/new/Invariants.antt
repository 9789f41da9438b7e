use Rattle.std.proofs.Common.{◌≡◌, ℕ, None, map, drop}
use Rattle.std.specs.Ordering.{nat_cmp}
use Rattle.std.specs.BTreeMap.{get}
use Rattle.dots_edge.specs.HostLine.{line_value}
use Rattle.dots_edge.specs.Peers.{whose}
use Rattle.dots_edge.proofs.peers.Peers.new.Given as goal

abbrev pub invariant-loop-line : goal.invariant-loop-line
invariant-loop-line l = (key : ℕ) → whose (get nat_cmp l.peers.numbers key) (map line_value (drop l.line-index l.lines)) key ≡ whose None (map line_value l.lines) key
