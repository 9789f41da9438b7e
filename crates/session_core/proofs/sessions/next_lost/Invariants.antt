-- no session of a peer before the one at hand is lost
use Rattle.std.proofs.Common.{◌≡◌, false, take}
use Rattle.std.specs.List.{list_any}
use Rattle.session_core.specs.Beating.{Beating, Agrees, has_lost}
use Rattle.session_core.proofs.sessions.next_lost.Given as goal

abbrev pub invariant-loop-row : goal.invariant-loop-row
invariant-loop-row g l = record {
  same : l.rows ≡ l.fn.rows;
  none : (by : Beating) → Agrees (g.C.Configs.Says l.configs) by → list_any (has_lost by l.now) (take l.row-index l.fn.rows) ≡ false;
}
