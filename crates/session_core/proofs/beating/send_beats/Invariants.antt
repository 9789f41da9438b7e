use Rattle.std.proofs.Common.{◌≡◌, List, map}
use Rattle.std.specs.Prelude.{count_by}
use Rattle.dots_host.specs.Runs.{Added}
use Rattle.dots_host.specs.Becoming.{KeepsMedia}
use Rattle.session_core.specs.declared.contact.Beat.{Beat}
use Rattle.session_core.specs.Beating.{Beating, Agrees, has_waited}
use Rattle.session_core.specs.Places.{row_peer}
use Rattle.session_core.specs.Notifying.{SentTo}
use Rattle.session_core.specs.Beats.{beat_sent}
use Rattle.session_core.proofs.NoticeTicking.{DueTo}
use Rattle.session_core.proofs.beating.send_beats.Given as goal

abbrev pub invariant-loop-beat : goal.invariant-loop-beat
invariant-loop-beat g l = record {
  sent : (given : List Beat) × ((by : Beating) → Agrees (g.C.Configs.Says l.configs) by → DueTo by l.now l.fn.sessions given l.sessions)
      × Added (g.H.Wire.acts l.fn.host) (g.H.Wire.acts l.host) (SentTo (g.H.Wire.moment l.fn.host) (g.H.Wire.moment l.host) (map beat_sent given));
  peers : map row_peer l.sessions ≡ map row_peer l.fn.sessions;
  media : KeepsMedia (g.H.Disk.media l.fn.host) (g.H.Disk.media l.host);
  extent : g.H.Disk.extent l.host ≡ g.H.Disk.extent l.fn.host;
  disk : g.H.Disk.faults l.host ≡ g.H.Disk.faults l.fn.host;
  wire : g.H.Wire.faults l.host ≡ g.H.Wire.faults l.fn.host;
  leads : g.H.Wire.leads l.fn.host l.host;
}

abbrev pub decreases-loop-beat : goal.decreases-loop-beat
decreases-loop-beat g l = count_by (has_waited l.now) l.sessions
