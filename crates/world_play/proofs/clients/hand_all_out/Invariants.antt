use Rattle.std.proofs.Common.{◌≡◌, ◌≤◌, ◌-◌, length}
use Rattle.std.specs.List.{range_with_len}
use Rattle.world_play.specs.Clients.{AllHanded}
use Rattle.world_play.proofs.clients.hand_all_out.Given as goal

abbrev pub invariant-loop-place : goal.invariant-loop-place
invariant-loop-place l = record {
  within : l.place ≤ length l.plan;
  size : length l.clients.items ≡ length l.fn.clients.items;
  handed : AllHanded l.plan l.now (range_with_len 0 l.place) l.fn.clients.items l.fn.packets.items l.clients.items l.packets.items;
}

abbrev pub decreases-loop-place : goal.decreases-loop-place
decreases-loop-place l = length l.plan - l.place
