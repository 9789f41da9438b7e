use Rattle.std.proofs.Common.{◌≡◌, ◌-◌, length}
use Rattle.ask_agent.proofs.Asks.{GoesOn}
use Rattle.ask_agent.proofs.asker.Asker.ask_due.Given as goal

abbrev pub invariant-loop-self : goal.invariant-loop-self
invariant-loop-self l = record { goes : GoesOn l.fn.self l.self; server : l.self.server ≡ l.fn.self.server }

abbrev pub decreases-loop-self : goal.decreases-loop-self
decreases-loop-self l = length l.self.asks - l.self.reached
