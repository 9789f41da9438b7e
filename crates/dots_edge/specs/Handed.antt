-- What becomes of what the host hands to its sockets.
use Rattle.std.specs.Prelude.{◌≡◌, ℕ, List, Option, Some, None}
use Rattle.std.specs.Ordering.{nat_cmp}
use Rattle.std.specs.BTreeMap.{get}
use Rattle.dots_host.specs.declared.out.Out.{Out}
use Rattle.dots_host.specs.declared.out.Out.TheVariants as out
use Rattle.dots_host.specs.declared.out.Sent.{Sent}
use Rattle.dots_host.specs.declared.out.Sent.TheVariants as sent
use Rattle.dots_edge.specs.Headers.{head_in}
use Rattle.dots_edge.specs.declared.way.Way.{Way}
use Rattle.dots_edge.specs.declared.ends.Ends.{Ends}
use Rattle.dots_edge.specs.Ways.{way_by}
use Rattle.dots_edge.specs.Datagrams.{IsSentFrom, SameSignalsBeside, signal_at, place_of}
use Rattle.dots_edge.specs.Places.{at_place, SameBeside, IsSentAt, closed_at}

-- a datagram goes by the way, from one socket, or nowhere
abbrev pub IsSentBy : Option Way → Sent → List ℕ → Ends → Ends → Type 0
IsSentBy None result bytes old new = (result ≡ sent.Lost) × (new.sockets ≡ old.sockets)
IsSentBy (Some way) result bytes old new =
    let place = place_of way old.sockets.signals.items in
    IsSentFrom result bytes (signal_at old.sockets place) (signal_at new.sockets place) × SameSignalsBeside old.sockets place new.sockets

-- A datagram goes where its peer is. What is sent on a connection goes behind all that was sent on it, and what its socket doesn't take is kept. All
-- other connections and sockets keep theirs.
abbrev pub IsHanded : Out → Sent → Ends → Ends → Type 0
IsHanded (out.To peer bytes) result old new =
    (new.connections ≡ old.connections) × IsSentBy (way_by (head_in bytes.now) (get nat_cmp old.peers.endpoints peer)) result bytes.now old new
IsHanded (out.Conn conn bytes) result old new =
    (new.sockets ≡ old.sockets) × IsSentAt (at_place old.connections conn) bytes.now result (at_place new.connections conn)
    × SameBeside old.connections conn new.connections
IsHanded (out.Close conn) result old new =
    (new.sockets ≡ old.sockets) × (at_place new.connections conn ≡ closed_at (at_place old.connections conn))
    × SameBeside old.connections conn new.connections
