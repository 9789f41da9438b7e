-- Where a peer's messages go.
use Rattle.std.specs.Prelude.{ℕ, Option, Some, None, option_map}
use Rattle.std.specs.declared.net.socket_addr.SocketAddr.{SocketAddr}
use Rattle.dots_edge.specs.declared.head.Head.{Head}
use Rattle.dots_edge.specs.declared.way.Way.{Way}
use Rattle.dots_edge.specs.Returns.{Reached, after_received, after_sent, goes_to}

-- back to where a datagram came from, from the socket on which it came
abbrev pub way_from : SocketAddr → ℕ → Way
way_from from via = record { to = from; via = Some via }

-- of a number that no line names nothing is known, and nothing goes to it
abbrev pub after_received_by : Way → Option Head → Option Reached → Option Reached
after_received_by way head known = option_map (after_received way head) known

abbrev pub after_sent_by : Option Head → Option Reached → Option Reached
after_sent_by head known = option_map (after_sent head) known

abbrev pub way_by : Option Head → Option Reached → Option Way
way_by head None = None
way_by head (Some known) = goes_to head known
