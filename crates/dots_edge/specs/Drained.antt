-- Where a host may wait, and where it fails.
use Rattle.std.specs.Prelude.{◌≡◌, ◌⊎◌, ◌+◌, ◌-◌, ◌^◌, ◌≤◌, false, true, length, ⊤}
use Rattle.dots_edge.specs.declared.ends.Ends.{Ends}
use Rattle.dots_edge.specs.declared.waiting.Accepting.{Accepting}
use Rattle.dots_edge.specs.declared.waiting.Accepting.TheVariants as accepting
use Rattle.dots_edge.specs.Answers.{has_failed}
use Rattle.dots_edge.specs.Datagrams.{AreEmpty, has_failed_at, signal_at, last_asked}
use Rattle.dots_edge.specs.Accepts.{AreQuiet}
use Rattle.dots_edge.specs.Places.{AreOpen, AreIdle, AreSpent}

-- no connection can be accepted: none waited when it was asked last, it can't be for now, or there is no place for one
abbrev pub NoneToAccept : Accepting → Ends → Type 0
NoneToAccept accepting.No ends = AreQuiet ends.sockets.listeners.items
NoneToAccept accepting.Yes ends = AreOpen ends.connections
NoneToAccept accepting.Stuck ends = ⊤

-- No datagram may be there, no connection may have something to read, or a socket that takes some of its rest, and none can be accepted. Each of these
-- is known from the sockets.
pub record IsDrained (ends : Ends) : Type 0 where
  pub datagrams : ends.waiting.datagrams ≡ false
  pub connections : ends.connections.looks ≡ 0
  pub empty : AreEmpty ends.sockets.signals.items
  pub idle : AreIdle ends.connections
  pub spent : AreSpent ends.connections
  pub none : NoneToAccept ends.waiting.connections ends

-- The clock couldn't be read, a wait failed, or the socket failed that was asked last.
abbrev pub HasBroken : Ends → Type 0
HasBroken ends =
    (has_failed ends.clock.answers ≡ true)
    ⊎ ((has_failed ends.sockets.waits.answers ≡ true) ⊎ (has_failed_at (signal_at ends.sockets (last_asked ends.sockets)) ≡ true))

-- the clock was read too often
abbrev pub HasTired : Ends → Ends → Type 0
HasTired old new = length old.clock.answers + (2 ^ 64 - 1) ≤ length new.clock.answers
