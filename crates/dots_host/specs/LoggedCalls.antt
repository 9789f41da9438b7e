-- What a call of a host is among its acts.
use Rattle.dots_host.specs.declared.act.Act.{Act}
use Rattle.dots_host.specs.declared.act.Act.TheVariants as act
use Rattle.dots_host.specs.Acts.{event_of, owned_of, is_done}
use Rattle.dots_host.specs.declared.call_log.Call.{Call}
use Rattle.dots_host.specs.declared.call_log.Call.TheVariants as call

abbrev pub act_of : Call → Act
act_of (call.Took what room at) = act.Took (event_of what room.now) at
act_of (call.Gave out sent) = act.Gave (owned_of out) (is_done sent)
act_of (call.Read ok) = act.Read ok
act_of (call.Wrote at bytes ok) = act.Wrote at bytes.now ok
act_of (call.Synced ok) = act.Synced ok
