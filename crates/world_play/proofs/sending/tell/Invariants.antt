use Rattle.std.proofs.Common.{◌≡◌, ◌++◌, take, flat_map}
use Rattle.world_play.specs.Calls.{given_in}
use Rattle.world_play.proofs.sending.tell.Given as goal

abbrev pub invariant-loop-call : goal.invariant-loop-call
invariant-loop-call l = record {
  told : l.acts.acts ≡ l.fn.acts.acts ++ flat_map given_in (take l.call-index l.calls);
}
