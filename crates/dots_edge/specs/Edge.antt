-- What contracts see of a host of real sockets and a real file.
use Rattle.std.specs.Prelude.{◌≡◌, ℕ, ◌-◌, Bool, List, [], ◌∷◌, ◌++◌, Option, Some, None}
use Rattle.dots_lists.specs.Lines.{lines_of}
use Rattle.dots_host.specs.declared.act.Act.{Act}
use Rattle.dots_host.specs.Acts.{Timed, wire_acts}
use Rattle.dots_host.specs.Runs.{Added}
use Rattle.dots_host.specs.Stored.{AreOfDisk}
use Rattle.dots_edge.specs.Restarts.{AreNoRestarts}
use Rattle.dots_edge.specs.declared.seconds.Begun.{Begun}
use Rattle.dots_edge.specs.HostLine.{LineValue}
use Rattle.dots_edge.specs.HostFile.{Stand}
use Rattle.dots_edge.specs.Found.{events_in, reserve_in, has_journal}

-- Whether it is open: a host whose file has a fault, or whose sockets or journal can't be opened, isn't. Whether it has a journal, and
-- whether that was seen to be gone from its path; how many events are still to come and how many bytes are reserved, where that is said; what the clocks read first, the last time beside an event, and at how many ticks
-- the wall clock was away from it; how often wire and disk failed; and the calls of the host so far.
pub record Edge : Type 0 where
  pub opened : Bool
  pub journaled : Bool
  pub lost : Bool
  pub left : Option ℕ
  pub reserve : Option ℕ
  pub begun : Option Begun
  pub last : ℕ
  pub strayed : ℕ
  pub wire : ℕ
  pub disk : ℕ
  pub calls : List Act

-- the acts of the wire among the calls, which it always tells
abbrev pub acts_told : Edge → Option (List Timed)
acts_told host = Some (wire_acts 0 host.calls)

-- one call more, and nothing else changed
abbrev pub with_call : Edge → Act → Edge
with_call host call = record host { calls = host.calls ++ call ∷ [] }

-- the acts grew from the one state to the other, and none of those that came is a restart
abbrev pub NeverRestarts : Edge → Edge → Type 0
NeverRestarts old new = Added (acts_told old) (acts_told new) AreNoRestarts

-- one event fewer is to come
abbrev pub one_fewer : Option ℕ → Option ℕ
one_fewer None = None
one_fewer (Some left) = Some (left - 1)

-- calls of the disk change the count of the disk's faults alone, and are added to the calls of the host
pub record KeepsWire (old new : Edge) : Type 0 where
  pub more : List Act
  pub kept : new ≡ record old { disk = new.disk; calls = old.calls ++ more }
  pub of_disk : AreOfDisk more

-- a call of the wire keeps the count of the disk's faults, and how many bytes it has
pub record KeepsDisk (old new : Edge) : Type 0 where
  pub disk : new.disk ≡ old.disk
  pub reserve : new.reserve ≡ old.reserve

-- the host file stands, and the host has a journal, its room and the count of its events as the file says
pub record IsAsSaid (file : List ℕ) (host : Edge) : Type 0 where
  pub values : List LineValue
  pub stand : Stand (lines_of file) values
  pub left : host.left ≡ events_in values
  pub reserve : host.reserve ≡ reserve_in values
  pub journaled : host.journaled ≡ has_journal values
