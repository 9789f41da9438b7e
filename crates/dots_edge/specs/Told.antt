-- What the calls of a host tell of its connections.
use Rattle.std.specs.Prelude.{◌≡◌, ℕ, Bool, false, List, Option, Some, None, ⊤}
use Rattle.dots_host.specs.declared.event.What.{What}
use Rattle.dots_host.specs.declared.out.Out.{Out}
use Rattle.dots_host.specs.declared.out.Sent.{Sent}
use Rattle.dots_host.specs.declared.out.Sent.TheVariants as sent
use Rattle.dots_host.specs.declared.act.Act.{Act}
use Rattle.dots_edge.specs.declared.ends.Ends.{Ends}
use Rattle.dots_edge.specs.Opened.{is_open_in}
use Rattle.dots_edge.specs.Places.{is_open, NoneOpen, Follows, IsGiven}

-- whether the connection of the number is open for the server; none is where the sockets aren't open
abbrev pub is_open_of : Option Ends → ℕ → Bool
is_open_of None conn = false
is_open_of (Some ends) conn = is_open ends.connections conn

-- the connections are open that the calls opened and didn't close
abbrev pub AreOpenAsTold : List Act → Option Ends → Type 0
AreOpenAsTold calls ends = (conn : ℕ) → is_open_in calls conn ≡ is_open_of ends conn

-- none is open yet
abbrev pub AreFresh : Option Ends → Type 0
AreFresh None = ⊤
AreFresh (Some ends) = NoneOpen ends.connections

-- an event, or none, leaves the connections as it says; where the sockets aren't open none comes
abbrev pub FollowsOf : Option What → Option Ends → Option Ends → Type 0
FollowsOf found (Some old) (Some new) = Follows found old.connections new.connections
FollowsOf None None None = ⊤
FollowsOf _ _ _ = ⊥

-- a send leaves them as it says; where the sockets aren't open it is lost
abbrev pub IsGivenOf : Out → Sent → Option Ends → Option Ends → Type 0
IsGivenOf out result (Some old) (Some new) = IsGiven out result old.connections new.connections
IsGivenOf out sent.Lost None None = ⊤
IsGivenOf _ _ _ _ = ⊥
