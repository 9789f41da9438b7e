-- One call more in the log of a socket.
use Rattle.std.specs.Prelude.{◌≡◌, ℕ, List, ◌∷◌, ◌++◌, Option, Some}
use Rattle.dots_edge.specs.declared.answer.Answer.{Answer}
use Rattle.dots_edge.specs.declared.socket_log.SocketLog.{SocketLog}

-- a call more was made, which answered this, and these bytes went
abbrev pub IsNext : SocketLog → Answer → List ℕ → SocketLog → Type 0
IsNext old answer bytes new = (new.answers ≡ answer ∷ old.answers) × (new.bytes ≡ old.bytes ++ bytes)

-- both are there, and this holds of them
abbrev pub IfBoth : {X : Type 0} → Option X → Option X → (X → X → Type 0) → Type 0
IfBoth (Some old) (Some new) P = P old new
IfBoth _ _ P = ⊥
