use Rattle.std.proofs.Common.{◌≡◌, ◌++◌, take, flat_map}
use Rattle.world_play.specs.Packets.{packets_in}
use Rattle.world_play.proofs.sending.post.Given as goal

abbrev pub invariant-loop-call : goal.invariant-loop-call
invariant-loop-call l = record {
  posted : l.packets.items ≡ l.fn.packets.items ++ flat_map (packets_in l.parties l.source) (take l.call-index l.calls);
}
