-- What contracts see of the host of a script.
use Rattle.std.specs.Prelude.{◌≡◌, ℕ, List}
use Rattle.dots_host.specs.Logged.{Logged, AddsCalls}

-- its source, the bytes that were read ahead of the events, its sink, its disk with the calls of the host so far, and how often its wire failed
pub record Scripting (S K : Type 0) : Type 0 where
  pub source : S
  pub ahead : List ℕ
  pub sink : K
  pub disk : Logged
  pub faults : ℕ

-- Calls of the disk alone came: the script, what was written of sends, and the faults of the wire are as before.
pub record KeepsScript {S K : Type 0} (old new : Scripting S K) : Type 0 where
  pub disk : AddsCalls old.disk new.disk
  pub source : new.source ≡ old.source
  pub ahead : new.ahead ≡ old.ahead
  pub sink : new.sink ≡ old.sink
  pub faults : new.faults ≡ old.faults
