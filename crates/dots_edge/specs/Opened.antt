-- Which connections are open for the server, by the calls of a host.
use Rattle.std.specs.Prelude.{◌≡◌, ℕ, ◌<◌, ◌==◌, Bool, true, false, List, fold, if◌then◌else◌, ⊤}
use Rattle.dots_host.specs.declared.event.Event.TheVariants as event
use Rattle.dots_host.specs.declared.event.What.{What}
use Rattle.dots_host.specs.declared.event.What.TheVariants as what
use Rattle.dots_host.specs.declared.out.Out.{Out}
use Rattle.dots_host.specs.declared.out.Out.TheVariants as out
use Rattle.dots_host.specs.declared.out.OwnedOut.TheVariants as owned
use Rattle.dots_host.specs.declared.out.Sent.{Sent}
use Rattle.dots_host.specs.declared.out.Sent.TheVariants as sent
use Rattle.dots_host.specs.declared.act.Act.{Act}
use Rattle.dots_host.specs.declared.act.Act.TheVariants as act
use Rattle.dots_host.specs.Acts.{is_done}

-- whether the connection of the number is open after a call, where it was so before it
abbrev pub open_by : ℕ → Bool → Act → Bool
open_by conn was (act.Took (event.Opened other from) at) = if other == conn then true else was
open_by conn was (act.Took (event.Closed other) at) = if other == conn then false else was
open_by conn was (act.Gave (owned.Close other) done) = if other == conn then false else was
open_by conn was call = was

-- whether it is open after the calls: it was opened, and since then it neither ended nor was closed
abbrev pub is_open_in : List Act → ℕ → Bool
is_open_in calls conn = fold (open_by conn) false calls

-- What a host hands in after these calls: a connection is opened under a number below 128 that isn't open, bytes come on one that is, and one that is
-- ends.
abbrev pub FollowsCalls : What → List Act → Type 0
FollowsCalls (what.Opened conn from) calls = (conn < 128) × (is_open_in calls conn ≡ false)
FollowsCalls (what.Piece conn len) calls = is_open_in calls conn ≡ true
FollowsCalls (what.Closed conn) calls = is_open_in calls conn ≡ true
FollowsCalls _ calls = ⊤

-- What a host is handed after these calls: it is sent only on a connection that is open, and one is closed exactly where it is open.
abbrev pub IsGivenAfter : Out → Sent → List Act → Type 0
IsGivenAfter (out.Conn conn bytes) sent.Done calls = is_open_in calls conn ≡ true
IsGivenAfter (out.Close conn) result calls = is_done result ≡ is_open_in calls conn
IsGivenAfter _ result calls = ⊤
