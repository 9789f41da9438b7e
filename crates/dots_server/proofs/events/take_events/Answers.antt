use Rattle.std.proofs.Common.{◌≡◌, ◌≤◌, ◌∙◌, ◌+◌, List, inl, inr, [], ◌∷◌, ◌++◌, refl, sym, subst, arith, append-nil}
use Rattle.dots_host.specs.Becoming.{RestsWith}
use Rattle.dots_host.specs.declared.event.Event.TheVariants as event
use Rattle.dots_host.specs.Acts.{took, event_of}
use Rattle.dots_host.specs.Causes.{Rose}
use Rattle.dots_host.specs.Runs.{resting, owed_in, each_telling}
use Rattle.dots_host.proofs.RunLemmas.{added_none, added_by}
use Rattle.slot_store.specs.Layout.{needed_of}
use Rattle.slot_journal.specs.DiskEntries as journal
use Rattle.dots_machine.specs.declared.ending.Stop.TheVariants as stop
use Rattle.dots_settings.specs.Settings.{SettingsValue}
use Rattle.dots_history.specs.declared.entry.Entry.{Entry}
use Rattle.dots_machine.specs.Machine.{State, restarted}
use Rattle.dots_machine.specs.Surviving.{shown_by}
use Rattle.dots_server.specs.ServerValues.{ServerValue}
use Rattle.dots_server.proofs.Turning.{none_added}
use Rattle.dots_server.proofs.Looks.{SeenOn, seen_first, seen_then, sees_got, seen_to_end, seen_unrecovered, seen_to_failure, seen_out}
use Rattle.dots_server.specs.Onlooking.{seen_at}
use Rattle.dots_server.proofs.Turns.{rests_came, comes_to_end, comes_to_failure, comes_unrecovered, ran_out, no_end}
use Rattle.dots_server.proofs.Taking.{restart_took, restart_broke, recover_stops, recover_counts, stops_more, rose_since}
use Rattle.dots_server.proofs.Following.{added_any, restarted_on, restarted_now, taken_on, added_on, either_on, followed}
use Rattle.dots_server.proofs.events.take_events.Goals.{in-Restart+in-Ok, in_default+in-Ok-handle}
use Rattle.dots_server.proofs.events.take_events.Goals as goal

-- ---- before the first event

pub loop-turn-init : goal.loop-turn-init
loop-turn-init g c =
    let media = g.H.Disk.media c.args.host.now in
    let acts = g.H.Wire.acts c.args.host.now in
    let none = g.met.W.Onlooker.sees_none c.args.onlooker.now in record {
      leads = g.met.H.Wire.leads_same c.args.host.now;
      later = omega arith;
      disk = refl;
      size = c.requires.size;
      settings = refl;
      adds = added_none acts (λ _. Unit {0}) tt;
      rested = λ settings start stored kept rests. seen_first g.W.Onlooker.sees settings start c.args.server stored media acts c.args.onlooker.now kept none;
      lives = λ settings start stored kept. inr (seen_first g.W.Onlooker.sees settings start c.args.server stored media acts c.args.onlooker.now kept none);
    }

-- ---- one more

pub loop-turn-preserved : goal.loop-turn-preserved
loop-turn-preserved g c =
    let inv = c.loop-turn.invariant in
    let host = c.loop-turn.host in
    let came = c.next-got.new.self in
    let server = c.loop-turn.server in
    let at = c.next-got.result.at in
    let keeps = g.met.H.Host.wire_keeps host came c.next-got.ensures.beside in
    let first = g.H.Disk.media c.args.host.now in
    let a = g.H.Disk.media host in
    let b = g.H.Disk.media came in
    let xs = g.H.Wire.acts c.args.host.now in
    let ys = g.H.Wire.acts host in
    let zs = g.H.Wire.acts came in
    let moment = g.H.Wire.moment host in
    let now = g.H.Wire.moment came in
    let here = g.met.H.Host.one_moment host in
    let size_came = subst (λ extent. needed_of server.journal.slots ≤ extent) (sym keeps.1) inv.size in
    elim c.match-got.branch [
      | in-Restart+in-Ok w ↦
          let left = w.restart.new.host in
          let begun = w.in-Ok.begun in
          let keeps_left = g.met.H.Host.disk_keeps came left w.restart.ensures.beside in
          let took_it = rw w.in-Restart.is at c.next-got.ensures.acts in
          let more = added_any zs (g.H.Wire.acts left) (λ more. more ≡ []) (none_added zs (g.H.Wire.acts left) keeps_left.0) in
          rw (w.host-is, w.server-is, w.onlooker-is) (record {
            leads = g.met.H.Wire.leads_then _ _ _ (g.met.H.Wire.leads_then _ _ _ inv.leads c.next-got.ensures.leads) keeps_left.2;
            later = omega (arith, c.next-got.ensures.later, keeps_left.1, inv.later);
            disk = w.in-Ok.ensures.cause ∙ keeps.2 ∙ inv.disk;
            size = subst (λ slots. needed_of slots ≤ g.H.Disk.extent left) (sym w.in-Ok.ensures.slots) w.in-Ok.ensures.size;
            settings = w.in-Ok.ensures.settings ∙ inv.settings;
            adds = added_on xs zs (g.H.Wire.acts left) (taken_on xs ys zs moment now (took event.Restart at) inv.adds took_it) more;
            rested = λ settings start stored kept rests.
                let Rests = RestsWith first (journal.Represents c.args.server.journal settings stored) in
                let on = inv.rested settings start stored kept rests in
                let lives = on.lives in
                let still = rests_came settings start server c.loop-turn._turn moment at event.Restart Rests first a b xs ys zs now here keeps.0 took_it lives rests in
                let found = w.in-Ok.ensures.restarted settings lives.state lives.few lives.kept still in
                seen_then g.W.Onlooker.sees settings start server c.loop-turn._turn moment at event.Restart Rests first a b xs ys zs now here keeps.0 took_it c.args.onlooker.now c.loop-turn.onlooker on begun
                (g.H.Disk.media left) (g.H.Wire.acts left) tt
                (restart_took settings lives.state at server lives.few lives.kept b (g.H.Disk.media left) zs (g.H.Wire.acts left) keeps_left.0 (w.restart.ensures.moments settings lives.state lives.few lives.kept)
                begun (g.H.Wire.moment left) (g.met.H.Host.one_moment left) found.0 found.1)
                c.loop-turn.onlooker [] (subst (g.W.Onlooker.sees c.args.onlooker.now c.loop-turn.onlooker) (sym (append-nil on.seen)) on.has_seen) refl;
            lives = λ settings start stored kept. inl (restarted_on xs zs (g.H.Wire.acts left) (restarted_now xs ys zs moment now (took event.Restart at) tt inv.adds took_it) more);
          })
      | in_default+in-Ok-handle w ↦
          let left = w.handle.new.host in
          let what = event_of c.next-got.result.what c.next-got.new.into in
          let goes = no_end c.next-got.result.what c.next-got.new.into at w.in_default.not-End w.in_default.not-Failed in
          let took_it = c.next-got.ensures.acts in
          let shown : (settings : SettingsValue) (start : State) (stored : List Entry) (Rests : Type 0) → SeenOn g.W.Onlooker.sees settings start server c.loop-turn._turn Rests first a xs ys c.args.onlooker.now c.loop-turn.onlooker
          → SeenOn g.W.Onlooker.sees settings start w.handle.new.self (c.loop-turn._turn + 1) Rests first (g.H.Disk.media left) xs (g.H.Wire.acts left) c.args.onlooker.now w.show.new.onlooker =
          λ settings start stored Rests on.
          let lives = on.lives in
          let done = w.in-Ok-handle.ensures.done settings lives.state lives.few lives.kept in
          seen_then g.W.Onlooker.sees settings start server c.loop-turn._turn moment at what Rests first a b xs ys zs now here keeps.0 took_it c.args.onlooker.now c.loop-turn.onlooker on w.handle.new.self
          (g.H.Disk.media left) (g.H.Wire.acts left) goes done w.show.new.onlooker (seen_at c.next-got.result.what w.handle.new.self)
          (g.met.W.Onlooker.sees_then _ _ _ on.seen (seen_at c.next-got.result.what w.handle.new.self) on.has_seen w.show.ensures)
          (sees_got settings c.next-got.result.what c.next-got.new.into at done.new w.handle.new.self done.kept.represents.represents) in
          rw (w.host-is, w.server-is, w.onlooker-is) (record {
            leads = g.met.H.Wire.leads_then _ _ _ (g.met.H.Wire.leads_then _ _ _ inv.leads c.next-got.ensures.leads) w.handle.ensures.leads;
            later = omega (arith, c.next-got.ensures.later, w.handle.ensures.wire, inv.later);
            disk = w.in-Ok-handle.ensures.cause.same ∙ keeps.2 ∙ inv.disk;
            size = subst (λ slots. needed_of slots ≤ g.H.Disk.extent left) (sym w.handle.ensures.slots) (subst (λ extent. needed_of server.journal.slots ≤ extent) (sym w.handle.ensures.extent) size_came);
            settings = w.handle.ensures.settings ∙ inv.settings;
            adds = added_on xs zs (g.H.Wire.acts left) (taken_on xs ys zs moment now (took what at) inv.adds took_it) w.handle.ensures.adds;
            rested = λ settings start stored kept rests.
                let Rests = RestsWith first (journal.Represents c.args.server.journal settings stored) in
                shown settings start stored Rests (inv.rested settings start stored kept rests);
            lives = λ settings start stored kept.
                let Rests = RestsWith first (journal.Represents c.args.server.journal settings stored) in
                either_on (SeenOn g.W.Onlooker.sees settings start server c.loop-turn._turn Rests first a xs ys c.args.onlooker.now c.loop-turn.onlooker)
                (SeenOn g.W.Onlooker.sees settings start w.handle.new.self (c.loop-turn._turn + 1) Rests first (g.H.Disk.media left) xs (g.H.Wire.acts left) c.args.onlooker.now w.show.new.onlooker)
                xs ys (g.H.Wire.acts left) (added_on ys zs (g.H.Wire.acts left) (added_by ys zs moment now (took what at) (λ _. Unit {0}) took_it tt) w.handle.ensures.adds)
                (shown settings start stored Rests)
                (inv.lives settings start stored kept);
          })
    ]

-- ---- the end

pub returns-in-End-clause-came : goal.returns-in-End-clause-came
returns-in-End-clause-came g c = λ settings start stored kept follows.
    let inv = c.loop-turn.invariant in
    let host = c.loop-turn.host in
    let came = c.next-got.new.self in
    let server = c.loop-turn.server in
    let at = c.next-got.result.at in
    let first = g.H.Disk.media c.args.host.now in
    let xs = g.H.Wire.acts c.args.host.now in
    let ys = g.H.Wire.acts host in
    let zs = g.H.Wire.acts came in
    let moment = g.H.Wire.moment host in
    let now = g.H.Wire.moment came in
    let Rests = RestsWith first (journal.Represents c.args.server.journal settings stored) in
    let L = SeenOn g.W.Onlooker.sees settings start server c.loop-turn._turn Rests first (g.H.Disk.media host) xs ys c.args.onlooker.now c.loop-turn.onlooker in
    let took_it = rw c.in-End.is at c.next-got.ensures.acts in
    let on = followed Rests L xs zs follows (inv.rested settings start stored kept)
    (either_on L L xs ys zs (added_by ys zs moment now (took event.End at) (λ _. Unit {0}) took_it tt) (λ l. l) (inv.lives settings start stored kept)) in
    let lives = on.lives in (
      resting lives.state,
      comes_to_end settings start server c.loop-turn._turn moment at event.End Rests first (g.H.Disk.media host) (g.H.Disk.media came) xs ys zs now (g.met.H.Host.one_moment host)
          (g.met.H.Host.wire_keeps host came c.next-got.ensures.beside).0 took_it lives stop.Ended (refl, refl) refl tt (refl, refl, refl) (λ front goes. (front, _, at, refl, refl, goes)),
      lives.kept.represents.represents,
    )

pub returns-in-End-clause-seen : goal.returns-in-End-clause-seen
returns-in-End-clause-seen g c = λ settings start stored kept follows.
    let inv = c.loop-turn.invariant in
    let host = c.loop-turn.host in
    let came = c.next-got.new.self in
    let server = c.loop-turn.server in
    let at = c.next-got.result.at in
    let first = g.H.Disk.media c.args.host.now in
    let xs = g.H.Wire.acts c.args.host.now in
    let ys = g.H.Wire.acts host in
    let zs = g.H.Wire.acts came in
    let moment = g.H.Wire.moment host in
    let now = g.H.Wire.moment came in
    let Rests = RestsWith first (journal.Represents c.args.server.journal settings stored) in
    let L = SeenOn g.W.Onlooker.sees settings start server c.loop-turn._turn Rests first (g.H.Disk.media host) xs ys c.args.onlooker.now c.loop-turn.onlooker in
    let took_it = rw c.in-End.is at c.next-got.ensures.acts in
    let on = followed Rests L xs zs follows (inv.rested settings start stored kept)
    (either_on L L xs ys zs (added_by ys zs moment now (took event.End at) (λ _. Unit {0}) took_it tt) (λ l. l) (inv.lives settings start stored kept)) in
    let lives = on.lives in (
      lives.trace ++ lives.state ∷ [],
      resting lives.state,
      on.seen,
      on.has_seen,
      seen_to_end g.W.Onlooker.sees settings start server c.loop-turn._turn moment at event.End Rests first (g.H.Disk.media host) (g.H.Disk.media came) xs ys zs now (g.met.H.Host.one_moment host)
          (g.met.H.Host.wire_keeps host came c.next-got.ensures.beside).0 took_it c.args.onlooker.now c.loop-turn.onlooker on stop.Ended (refl, refl) (refl, refl, refl) (λ front goes. (front, _, at, refl, refl, goes)) refl,
    )

pub returns-in-End-clause-adds : goal.returns-in-End-clause-adds
returns-in-End-clause-adds g c =
    taken_on (g.H.Wire.acts c.args.host.now) (g.H.Wire.acts c.loop-turn.host) (g.H.Wire.acts c.next-got.new.self) (g.H.Wire.moment c.loop-turn.host) (g.H.Wire.moment c.next-got.new.self)
    (took (event_of c.next-got.result.what c.next-got.new.into) c.next-got.result.at) c.loop-turn.invariant.adds c.next-got.ensures.acts

pub returns-in-End-clause-counts : goal.returns-in-End-clause-counts
returns-in-End-clause-counts g c = (g.met.H.Host.wire_keeps c.loop-turn.host c.next-got.new.self c.next-got.ensures.beside).2 ∙ c.loop-turn.invariant.disk

pub returns-in-Failed-clause-came : goal.returns-in-Failed-clause-came
returns-in-Failed-clause-came g c = λ settings start stored kept follows.
    let inv = c.loop-turn.invariant in
    let host = c.loop-turn.host in
    let came = c.next-got.new.self in
    let server = c.loop-turn.server in
    let at = c.next-got.result.at in
    let first = g.H.Disk.media c.args.host.now in
    let xs = g.H.Wire.acts c.args.host.now in
    let ys = g.H.Wire.acts host in
    let zs = g.H.Wire.acts came in
    let moment = g.H.Wire.moment host in
    let now = g.H.Wire.moment came in
    let Rests = RestsWith first (journal.Represents c.args.server.journal settings stored) in
    let L = SeenOn g.W.Onlooker.sees settings start server c.loop-turn._turn Rests first (g.H.Disk.media host) xs ys c.args.onlooker.now c.loop-turn.onlooker in
    let took_it = rw c.in-Failed.is at c.next-got.ensures.acts in
    let on = followed Rests L xs zs follows (inv.rested settings start stored kept)
    (either_on L L xs ys zs (added_by ys zs moment now (took event.Failed at) (λ _. Unit {0}) took_it tt) (λ l. l) (inv.lives settings start stored kept)) in
    let lives = on.lives in (
      resting lives.state,
      comes_to_end settings start server c.loop-turn._turn moment at event.Failed Rests first (g.H.Disk.media host) (g.H.Disk.media came) xs ys zs now (g.met.H.Host.one_moment host)
          (g.met.H.Host.wire_keeps host came c.next-got.ensures.beside).0 took_it lives stop.NextFailed (refl, refl) refl tt (refl, refl, refl) (λ front goes. (front, _, at, refl, refl, goes)),
      tt,
    )

pub returns-in-Failed-clause-seen : goal.returns-in-Failed-clause-seen
returns-in-Failed-clause-seen g c = λ settings start stored kept follows.
    let inv = c.loop-turn.invariant in
    let host = c.loop-turn.host in
    let came = c.next-got.new.self in
    let server = c.loop-turn.server in
    let at = c.next-got.result.at in
    let first = g.H.Disk.media c.args.host.now in
    let xs = g.H.Wire.acts c.args.host.now in
    let ys = g.H.Wire.acts host in
    let zs = g.H.Wire.acts came in
    let moment = g.H.Wire.moment host in
    let now = g.H.Wire.moment came in
    let Rests = RestsWith first (journal.Represents c.args.server.journal settings stored) in
    let L = SeenOn g.W.Onlooker.sees settings start server c.loop-turn._turn Rests first (g.H.Disk.media host) xs ys c.args.onlooker.now c.loop-turn.onlooker in
    let took_it = rw c.in-Failed.is at c.next-got.ensures.acts in
    let on = followed Rests L xs zs follows (inv.rested settings start stored kept)
    (either_on L L xs ys zs (added_by ys zs moment now (took event.Failed at) (λ _. Unit {0}) took_it tt) (λ l. l) (inv.lives settings start stored kept)) in
    let lives = on.lives in (
      lives.trace ++ lives.state ∷ [],
      resting lives.state,
      on.seen,
      on.has_seen,
      seen_to_end g.W.Onlooker.sees settings start server c.loop-turn._turn moment at event.Failed Rests first (g.H.Disk.media host) (g.H.Disk.media came) xs ys zs now (g.met.H.Host.one_moment host)
          (g.met.H.Host.wire_keeps host came c.next-got.ensures.beside).0 took_it c.args.onlooker.now c.loop-turn.onlooker on stop.NextFailed (refl, refl) (refl, refl, refl) (λ front goes. (front, _, at, refl, refl, goes)) refl,
    )

pub returns-in-Failed-clause-adds : goal.returns-in-Failed-clause-adds
returns-in-Failed-clause-adds g c =
    taken_on (g.H.Wire.acts c.args.host.now) (g.H.Wire.acts c.loop-turn.host) (g.H.Wire.acts c.next-got.new.self) (g.H.Wire.moment c.loop-turn.host) (g.H.Wire.moment c.next-got.new.self)
    (took (event_of c.next-got.result.what c.next-got.new.into) c.next-got.result.at) c.loop-turn.invariant.adds c.next-got.ensures.acts

pub returns-in-Failed-clause-counts : goal.returns-in-Failed-clause-counts
returns-in-Failed-clause-counts g c = (g.met.H.Host.wire_keeps c.loop-turn.host c.next-got.new.self c.next-got.ensures.beside).2 ∙ c.loop-turn.invariant.disk

-- ---- at a restart the disk wasn't recovered

pub returns-in-Err-clause-came : goal.returns-in-Err-clause-came
returns-in-Err-clause-came g c = λ settings start stored kept follows.
    let inv = c.loop-turn.invariant in
    let host = c.loop-turn.host in
    let came = c.next-got.new.self in
    let left = c.restart.new.host in
    let server = c.loop-turn.server in
    let at = c.next-got.result.at in
    let keeps = g.met.H.Host.wire_keeps host came c.next-got.ensures.beside in
    let keeps_left = g.met.H.Host.disk_keeps came left c.restart.ensures.beside in
    let first = g.H.Disk.media c.args.host.now in
    let a = g.H.Disk.media host in
    let b = g.H.Disk.media came in
    let xs = g.H.Wire.acts c.args.host.now in
    let ys = g.H.Wire.acts host in
    let zs = g.H.Wire.acts came in
    let moment = g.H.Wire.moment host in
    let now = g.H.Wire.moment came in
    let here = g.met.H.Host.one_moment host in
    let Rests = RestsWith first (journal.Represents c.args.server.journal settings stored) in
    let took_it = rw c.in-Restart.is at c.next-got.ensures.acts in
    let more = added_any zs (g.H.Wire.acts left) (λ more. more ≡ []) (none_added zs (g.H.Wire.acts left) keeps_left.0) in
    followed Rests _ xs (g.H.Wire.acts left) follows (λ rests.
    let lives = (inv.rested settings start stored kept rests).lives in
    let still = rests_came settings start server c.loop-turn._turn moment at event.Restart Rests first a b xs ys zs now here keeps.0 took_it lives rests in
    let size_came = subst (λ extent. needed_of server.journal.slots ≤ extent) (sym keeps.1) inv.size in
    let large = subst (λ slots. needed_of slots ≤ g.H.Disk.extent came) lives.kept.represents.slots size_came in (
      resting (restarted settings lives.state at),
      comes_unrecovered settings start server c.loop-turn._turn moment at event.Restart Rests first a b xs ys zs now here keeps.0 took_it lives c.in-Err.fault (g.H.Disk.media left) (g.H.Wire.acts left) refl
          (c.in-Err.ensures.found settings lives.state lives.few lives.kept still large)
          (restart_broke settings lives.state at server lives.few lives.kept b (g.H.Disk.media left) zs (g.H.Wire.acts left) keeps_left.0 (c.restart.ensures.moments settings lives.state lives.few lives.kept)),
      tt,
    ))
    (inl (restarted_on xs zs (g.H.Wire.acts left) (restarted_now xs ys zs moment now (took event.Restart at) tt inv.adds took_it) more))

pub returns-in-Err-clause-seen : goal.returns-in-Err-clause-seen
returns-in-Err-clause-seen g c = λ settings start stored kept follows.
    let inv = c.loop-turn.invariant in
    let host = c.loop-turn.host in
    let came = c.next-got.new.self in
    let left = c.restart.new.host in
    let server = c.loop-turn.server in
    let at = c.next-got.result.at in
    let keeps = g.met.H.Host.wire_keeps host came c.next-got.ensures.beside in
    let keeps_left = g.met.H.Host.disk_keeps came left c.restart.ensures.beside in
    let first = g.H.Disk.media c.args.host.now in
    let a = g.H.Disk.media host in
    let b = g.H.Disk.media came in
    let xs = g.H.Wire.acts c.args.host.now in
    let ys = g.H.Wire.acts host in
    let zs = g.H.Wire.acts came in
    let moment = g.H.Wire.moment host in
    let now = g.H.Wire.moment came in
    let here = g.met.H.Host.one_moment host in
    let Rests = RestsWith first (journal.Represents c.args.server.journal settings stored) in
    let took_it = rw c.in-Restart.is at c.next-got.ensures.acts in
    let more = added_any zs (g.H.Wire.acts left) (λ more. more ≡ []) (none_added zs (g.H.Wire.acts left) keeps_left.0) in
    followed Rests _ xs (g.H.Wire.acts left) follows (λ rests.
    let on = inv.rested settings start stored kept rests in
    let lives = on.lives in (
      lives.trace ++ restarted settings lives.state at ∷ [],
      resting (restarted settings lives.state at),
      on.seen,
      on.has_seen,
      seen_unrecovered g.W.Onlooker.sees settings start server c.loop-turn._turn moment at event.Restart Rests first a b xs ys zs now here keeps.0 took_it c.args.onlooker.now c.loop-turn.onlooker on c.in-Err.fault
          (g.H.Wire.acts left) refl (none_added zs (g.H.Wire.acts left) keeps_left.0),
    ))
    (inl (restarted_on xs zs (g.H.Wire.acts left) (restarted_now xs ys zs moment now (took event.Restart at) tt inv.adds took_it) more))

pub returns-in-Err-clause-adds : goal.returns-in-Err-clause-adds
returns-in-Err-clause-adds g c =
    let came = c.next-got.new.self in
    let left = c.restart.new.host in
    let xs = g.H.Wire.acts c.args.host.now in
    let zs = g.H.Wire.acts came in
    added_on xs zs (g.H.Wire.acts left)
    (taken_on xs (g.H.Wire.acts c.loop-turn.host) zs (g.H.Wire.moment c.loop-turn.host) (g.H.Wire.moment came) (took (event_of c.next-got.result.what c.next-got.new.into) c.next-got.result.at)
    c.loop-turn.invariant.adds c.next-got.ensures.acts)
    (added_any zs (g.H.Wire.acts left) (λ more. more ≡ []) (none_added zs (g.H.Wire.acts left) (g.met.H.Host.disk_keeps came left c.restart.ensures.beside).0))

pub returns-in-Err-clause-stopped : goal.returns-in-Err-clause-stopped
returns-in-Err-clause-stopped g c =
    let first = c.args.host.now in
    let came = c.next-got.new.self in
    let left = c.restart.new.host in
    let wire = c.loop-turn.invariant.later in
    let wire_on = c.next-got.ensures.later in
    let disk = c.loop-turn.invariant.disk in
    let disk_on = (g.met.H.Host.wire_keeps c.loop-turn.host came c.next-got.ensures.beside).2 in
    stops_more (stop.Unrecovered c.in-Err.fault) (Rose (g.H.Wire.faults came) (g.H.Wire.faults left)) (Rose (g.H.Wire.faults first) (g.H.Wire.faults left))
    (Rose (g.H.Disk.faults came) (g.H.Disk.faults left)) (Rose (g.H.Disk.faults first) (g.H.Disk.faults left))
    (rose_since (g.H.Wire.faults first) (g.H.Wire.faults came) (g.H.Wire.faults left) (omega (arith, wire, wire_on)))
    (rose_since (g.H.Disk.faults first) (g.H.Disk.faults came) (g.H.Disk.faults left) (omega (arith, disk, disk_on)))
    (recover_stops ServerValue c.in-Err.fault (Rose (g.H.Wire.faults came) (g.H.Wire.faults left)) (g.H.Disk.faults came) (g.H.Disk.faults left) c.in-Err.ensures.cause)

pub returns-in-Err-clause-counts : goal.returns-in-Err-clause-counts
returns-in-Err-clause-counts g c =
    let came = c.next-got.new.self in
    recover_counts ServerValue c.in-Err.fault (g.H.Disk.faults c.args.host.now) (g.H.Disk.faults came) (g.H.Disk.faults c.restart.new.host)
    ((g.met.H.Host.wire_keeps c.loop-turn.host came c.next-got.ensures.beside).2 ∙ c.loop-turn.invariant.disk) c.in-Err.ensures.cause

pub returns-in-Err-clause-sized : goal.returns-in-Err-clause-sized
returns-in-Err-clause-sized g c =
    let keeps = g.met.H.Host.wire_keeps c.loop-turn.host c.next-got.new.self c.next-got.ensures.beside in
    c.in-Err.ensures.sized (subst (λ extent. needed_of c.loop-turn.server.journal.slots ≤ extent) (sym keeps.1) c.loop-turn.invariant.size)

pub returns-in-Err-clause-leads : goal.returns-in-Err-clause-leads
returns-in-Err-clause-leads g c =
    g.met.H.Wire.leads_then _ _ _ (g.met.H.Wire.leads_then _ _ _ c.loop-turn.invariant.leads c.next-got.ensures.leads) (g.met.H.Host.disk_keeps c.next-got.new.self c.restart.new.host c.restart.ensures.beside).2

pub returns-in-Err-clause-later : goal.returns-in-Err-clause-later
returns-in-Err-clause-later g c =
    let keeps = g.met.H.Host.disk_keeps c.next-got.new.self c.restart.new.host c.restart.ensures.beside in
    omega (arith, c.next-got.ensures.later, keeps.1, c.loop-turn.invariant.later)

-- ---- the disk failed in the middle of an event

pub returns-in-Err-handle : goal.returns-in-Err-handle
returns-in-Err-handle g c =
    let inv = c.loop-turn.invariant in
    let host = c.loop-turn.host in
    let came = c.next-got.new.self in
    let left = c.handle.new.host in
    let server = c.loop-turn.server in
    let at = c.next-got.result.at in
    let what = event_of c.next-got.result.what c.next-got.new.into in
    let keeps = g.met.H.Host.wire_keeps host came c.next-got.ensures.beside in
    let first = g.H.Disk.media c.args.host.now in
    let xs = g.H.Wire.acts c.args.host.now in
    let ys = g.H.Wire.acts host in
    let zs = g.H.Wire.acts came in
    let vs = g.H.Wire.acts left in
    let moment = g.H.Wire.moment host in
    let now = g.H.Wire.moment came in
    let took_it = c.next-got.ensures.acts in record {
      came = λ settings start stored kept follows.
          let Rests = RestsWith first (journal.Represents c.args.server.journal settings stored) in
          let L = SeenOn g.W.Onlooker.sees settings start server c.loop-turn._turn Rests first (g.H.Disk.media host) xs ys c.args.onlooker.now c.loop-turn.onlooker in
          let on = followed Rests L xs vs follows (inv.rested settings start stored kept)
          (either_on L L xs ys vs (added_on ys zs vs (added_by ys zs moment now (took what at) (λ _. Unit {0}) took_it tt) c.handle.ensures.adds) (λ l. l) (inv.lives settings start stored kept)) in
          let lives = on.lives in
          let over = c.in-Err-handle.ensures.failed settings lives.state lives.few lives.kept in (
            record { last = over.last.left; owed = each_telling over.last.left over.last.sends },
            comes_to_failure settings start server c.loop-turn._turn moment at what Rests first (g.H.Disk.media host) (g.H.Disk.media came) xs ys zs now (g.met.H.Host.one_moment host) keeps.0 took_it lives
                (g.H.Disk.media left) vs (no_end c.next-got.result.what c.next-got.new.into at c.in_default.not-End c.in_default.not-Failed) over,
            tt,
          );
      seen = λ settings start stored kept follows.
          let Rests = RestsWith first (journal.Represents c.args.server.journal settings stored) in
          let L = SeenOn g.W.Onlooker.sees settings start server c.loop-turn._turn Rests first (g.H.Disk.media host) xs ys c.args.onlooker.now c.loop-turn.onlooker in
          let on = followed Rests L xs vs follows (inv.rested settings start stored kept)
          (either_on L L xs ys vs (added_on ys zs vs (added_by ys zs moment now (took what at) (λ _. Unit {0}) took_it tt) c.handle.ensures.adds) (λ l. l) (inv.lives settings start stored kept)) in
          let lives = on.lives in
          let over = c.in-Err-handle.ensures.failed settings lives.state lives.few lives.kept in (
            lives.trace ++ over.last.left ∷ shown_by (owed_in over.turns),
            record { last = over.last.left; owed = each_telling over.last.left over.last.sends },
            on.seen,
            on.has_seen,
            seen_to_failure g.W.Onlooker.sees settings start server c.loop-turn._turn moment at what Rests first (g.H.Disk.media host) (g.H.Disk.media came) xs ys zs now (g.met.H.Host.one_moment host) keeps.0 took_it
                c.args.onlooker.now c.loop-turn.onlooker on (g.H.Disk.media left) vs (no_end c.next-got.result.what c.next-got.new.into at c.in_default.not-End c.in_default.not-Failed) over,
          );
      adds = added_on xs zs vs (taken_on xs ys zs moment now (took what at) inv.adds took_it) c.handle.ensures.adds;
      settings = tt;
      stopped = let disk = inv.disk in let disk_on = keeps.2 in
          rose_since (g.H.Disk.faults c.args.host.now) (g.H.Disk.faults came) (g.H.Disk.faults left) (omega (arith, disk, disk_on)) c.in-Err-handle.ensures.cause.rose;
      counts = tt;
      sized = tt;
      leads = g.met.H.Wire.leads_then _ _ _ (g.met.H.Wire.leads_then _ _ _ inv.leads c.next-got.ensures.leads) c.handle.ensures.leads;
      later = omega (arith, c.next-got.ensures.later, c.handle.ensures.wire, inv.later);
    }

-- ---- the loop has run out

pub returns-clause-came : goal.returns-clause-came
returns-clause-came g c = λ settings start stored kept follows.
    let first = g.H.Disk.media c.args.host.now in
    let media = g.H.Disk.media c.loop-turn.host in
    let xs = g.H.Wire.acts c.args.host.now in
    let ys = g.H.Wire.acts c.loop-turn.host in
    let Rests = RestsWith first (journal.Represents c.args.server.journal settings stored) in
    let on = followed Rests (SeenOn g.W.Onlooker.sees settings start c.loop-turn.server c.loop-turn._turn Rests first media xs ys c.args.onlooker.now c.loop-turn.onlooker) xs ys follows
    (c.loop-turn.invariant.rested settings start stored kept) (c.loop-turn.invariant.lives settings start stored kept) in
    let lives = on.lives in (
      resting lives.state,
      record {
        settled = refl;
        trace = lives.trace;
        told = ran_out settings start lives.state c.loop-turn._turn lives.trace first media Rests xs ys (omega (arith, c.loop-turn-test.false, c.loop-turn.auto._turn-end)) lives.told;
        grows = lives.grown;
        own = lives.kept.represents.represents.own;
        found = tt;
      },
      tt,
    )

pub returns-clause-seen : goal.returns-clause-seen
returns-clause-seen g c = λ settings start stored kept follows.
    let first = g.H.Disk.media c.args.host.now in
    let media = g.H.Disk.media c.loop-turn.host in
    let xs = g.H.Wire.acts c.args.host.now in
    let ys = g.H.Wire.acts c.loop-turn.host in
    let Rests = RestsWith first (journal.Represents c.args.server.journal settings stored) in
    let on = followed Rests (SeenOn g.W.Onlooker.sees settings start c.loop-turn.server c.loop-turn._turn Rests first media xs ys c.args.onlooker.now c.loop-turn.onlooker) xs ys follows
    (c.loop-turn.invariant.rested settings start stored kept) (c.loop-turn.invariant.lives settings start stored kept) in (
      on.lives.trace,
      resting on.lives.state,
      on.seen,
      on.has_seen,
      seen_out g.W.Onlooker.sees settings start c.loop-turn.server c.loop-turn._turn Rests first media xs ys c.args.onlooker.now c.loop-turn.onlooker on (omega (arith, c.loop-turn-test.false, c.loop-turn.auto._turn-end)),
    )

pub returns-clause-counts : goal.returns-clause-counts
returns-clause-counts g c = c.loop-turn.invariant.disk
