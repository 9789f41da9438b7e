-- the rows from the place on have been entered
use Rattle.std.proofs.Common.{◌≤◌, length, map}
use Rattle.session_core.specs.Places.{row_peer, AreFirsts}
use Rattle.session_core.proofs.sessions.places_of.Given as goal

abbrev pub invariant-loop-at : goal.invariant-loop-at
invariant-loop-at l = record {
  within : l.at ≤ length l.rows;
  found : AreFirsts l.at l.places.entries (map row_peer l.rows);
}

abbrev pub decreases-loop-at : goal.decreases-loop-at
decreases-loop-at l = l.at
