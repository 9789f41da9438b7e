-- What the server reads of a message.
use Rattle.std.specs.Prelude.{◌≡◌, Bool, List, ℕ}
use Rattle.dots_machine.specs.declared.received.Received.{Received}
use Rattle.dots_machine.specs.Requests.{IsReceived}

-- the datagram is received as this, and as nothing else
pub record IsReadAs (datagram : List ℕ) (gateway : Bool) (got : Received) : Type 0 where
  pub is : IsReceived datagram gateway got
  pub only : (other : Received) → IsReceived datagram gateway other → other ≡ got
