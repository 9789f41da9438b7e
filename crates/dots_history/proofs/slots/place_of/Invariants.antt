-- those before are below the slot
use Rattle.std.proofs.Common.{◌≡◌, ◌++◌, take, drop}
use Rattle.dots_history.specs.Slots.{placed}
use Rattle.dots_history.proofs.slots.place_of.Given as goal

abbrev pub invariant-loop-place : goal.invariant-loop-place
invariant-loop-place l = placed l.slot l.slots ≡ take l.place l.slots ++ placed l.slot (drop l.place l.slots)
