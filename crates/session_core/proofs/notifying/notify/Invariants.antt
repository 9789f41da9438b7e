use Rattle.std.proofs.Common.{◌≡◌, true, false, List, length, None, ◌-◌}
use Rattle.dots_host.specs.Runs.{Added}
use Rattle.dots_host.specs.declared.out.OwnedOut.{OwnedOut}
use Rattle.dots_host.specs.Becoming.{KeepsMedia}
use Rattle.coap_observe.specs.Observing.{NoneIsDue}
use Rattle.session_core.specs.Notifying.{SentTo}
use Rattle.session_core.proofs.Ordering.{Far}
use Rattle.session_core.proofs.Quiet.{IsOneOwed}
use Rattle.session_core.proofs.Excused.{OnlyUnheard}
use Rattle.session_core.proofs.notifying.notify.Given as goal

abbrev pub invariant-loop-due : goal.invariant-loop-due
invariant-loop-due g l = record {
  notified : (sends : List OwnedOut) × Far (g.S.Views.lists l.view_bodies) (g.S.ViewBodies.bodies l.view_bodies) l.fn.watch.observers.observed l.fn.watch.sessions l.from l.watch.observers.observed l.watch.sessions sends
      × Added (g.H.Wire.acts l.fn.host) (g.H.Wire.acts l.host) (SentTo (g.H.Wire.moment l.fn.host) (g.H.Wire.moment l.host) sends);
  quiet : l.passed_over ≡ false → NoneIsDue (g.S.Views.lists l.view_bodies) l.fn.watch.due 0 l.from l.watch.observers.observed;
  owed : l.passed_over ≡ true → IsOneOwed (g.S.Views.lists l.view_bodies) l.from l.watch.observers.observed;
  all : l.refused ≡ None → OnlyUnheard (g.S.Views.lists l.view_bodies) l.fn.watch.due l.watch.sessions 0 l.from l.watch.observers.observed;
  due : l.watch.due ≡ l.fn.watch.due;
  room : l.watch.observers.room ≡ l.fn.watch.observers.room;
  pairs : l.watch.observers.pairs ≡ l.fn.watch.observers.pairs;
  media : KeepsMedia (g.H.Disk.media l.fn.host) (g.H.Disk.media l.host);
  extent : g.H.Disk.extent l.host ≡ g.H.Disk.extent l.fn.host;
  disk : g.H.Disk.faults l.host ≡ g.H.Disk.faults l.fn.host;
  wire : g.H.Wire.faults l.host ≡ g.H.Wire.faults l.fn.host;
  leads : g.H.Wire.leads l.fn.host l.host;
}

abbrev pub decreases-loop-due : goal.decreases-loop-due
decreases-loop-due g l = length l.watch.observers.observed - l.from
