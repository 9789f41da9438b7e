use Rattle.std.proofs.Common.{◌≡◌, ◌≤◌, ◌∙◌, ◌+◌, ℕ, inl, inr, [], ◌∷◌, ◌++◌, length, append-nil, refl, sym, ap, subst, arith}
use Rattle.std.specs.Prelude.{Ok, Err}
use Rattle.dots_host.specs.Becoming.{Leaves, RestsWith}
use Rattle.slot_store.proofs.Steps.{begins}
use Rattle.dots_host.specs.declared.event.Event.TheVariants as event
use Rattle.dots_host.specs.Acts.{IsWithin, took, event_of}
use Rattle.dots_host.specs.Causes.{Rose}
use Rattle.dots_host.specs.Runs.{resting}
use Rattle.dots_host.proofs.RunLemmas.{added_none, added_by}
use Rattle.slot_store.specs.Layout.{needed_of}
use Rattle.slot_journal.specs.Sizes.{slots_of}
use Rattle.gateway_agent.specs.Exchanges.{most_young}
use Rattle.gateway_agent.specs.Stores.{IsOn, StoreValue}
use Rattle.dots_gateway.specs.Gateway.{GatewayValue}
use Rattle.gateway_agent.specs.declared.stopping.GatewayHalt.TheVariants as halt
use Rattle.gateway_agent.specs.Passing.{GatewayState, restarted}
use Rattle.gateway_agent.specs.Keeping.{IsIn, agent}
use Rattle.gateway_agent.specs.Turning.{HasTurn}
use Rattle.gateway_agent.proofs.Following.{added_any, restarted_on, restarted_now, taken_on, added_on, either_on, followed}
use Rattle.gateway_agent.proofs.OpeningLemmas.{restart_writes}
use Rattle.gateway_agent.proofs.Restarting.{restart_took, unrecovered_stops, stops_more, rose_since, taken_of}
use Rattle.gateway_agent.proofs.Runs.{LivesOn, go_on_then, lives_first, lives_then, rests_came, comes_unsent, grows_then, own_time, owing, ran_out, no_end}
use Rattle.gateway_agent.proofs.Turning.{keeps_same, none_added}
use Rattle.gateway_agent.proofs.running.take_events.Goals.{in-Restart+in-Ok, in_default+in-Ok-take}
use Rattle.gateway_agent.proofs.running.take_events.Goals as goal

-- ---- before the first event

pub loop-turn-init : goal.loop-turn-init
loop-turn-init g c =
    let host = c.args.host.now in
    let settings = c.args.settings.now in
    let now = agent c.args.core c.args.store in
    let many = ap most_young c.requires.of.slots in
    let first = λ (start : GatewayState) (is : IsIn now start). lives_first settings (most_young (slots_of settings)) start now (g.H.Wire.moment host) (g.H.Disk.media host) (g.H.Wire.acts host) is many in
    record {
      leads = g.met.H.Wire.leads_same host;
      later = omega arith;
      disk = refl;
      size = c.requires.size;
      of = c.requires.of;
      joined = c.requires.joined;
      adds = added_none (g.H.Wire.acts host) (λ _. Unit {0}) tt;
      rested = λ start is rests. first start is;
      lives = λ start is. inr (first start is);
    }

-- what a turn asks
pub take-requires : goal.take-requires
take-requires g c =
    let inv = c.loop-turn.invariant in
    let came = c.next-got.new.self in
    let keeps = g.met.H.Host.wire_keeps c.loop-turn.host came c.next-got.ensures.beside in
    record {
      within = subst (λ (n : ℕ). IsWithin c.next-got.result.what n) (sym (c.next-got.auto.into ∙ c.loop-turn.auto.room ∙ c.requires.room)) c.next-got.ensures.within;
      early = c.next-got.ensures.at;
      taken = taken_of c.next-got.result.what c.in_default.not-End c.in_default.not-Failed c.in_default.not-Restart;
      upstream = sym inv.of.upstream_is;
      joined = inv.joined;
      size = subst (λ (extent : ℕ). needed_of c.loop-turn.store.journal.slots ≤ extent) (sym keeps.1)
          (subst (λ (slots : ℕ). needed_of slots ≤ g.H.Disk.extent c.loop-turn.host) (sym inv.of.slots) inv.size);
    }

-- ---- one more

pub loop-turn-preserved : goal.loop-turn-preserved
loop-turn-preserved g c =
    let inv = c.loop-turn.invariant in
    let settings = c.args.settings.now in
    let most = most_young (slots_of settings) in
    let host = c.loop-turn.host in
    let came = c.next-got.new.self in
    let core = c.loop-turn.core in
    let store = c.loop-turn.store in
    let at = c.next-got.result.at in
    let keeps = g.met.H.Host.wire_keeps host came c.next-got.ensures.beside in
    let first = g.H.Disk.media c.args.host.now in
    let a = g.H.Disk.media host in
    let b = g.H.Disk.media came in
    let xs = g.H.Wire.acts c.args.host.now in
    let ys = g.H.Wire.acts host in
    let zs = g.H.Wire.acts came in
    let moment = g.H.Wire.moment host in
    let now = g.H.Wire.moment came in
    let here = g.met.H.Host.one_moment host in
    let Rests = RestsWith first (IsOn settings c.args.store) in
    let size_came = subst (λ (extent : ℕ). needed_of (slots_of settings) ≤ extent) (sym keeps.1) inv.size in
    elim c.match-got.branch [
      | in-Restart+in-Ok w ↦
          let left = w.restart.new.disk in
          let begun = w.in-Ok.begun in
          let next = agent begun.0 begun.1 in
          let keeps_left = g.met.H.Host.disk_keeps came left w.restart.ensures.beside in
          let took_it = rw w.in-Restart.is at c.next-got.ensures.acts in
          let more = added_any zs (g.H.Wire.acts left) (λ more. more ≡ []) (none_added zs (g.H.Wire.acts left) keeps_left.0) in
          let many = ap most_young w.in-Ok.ensures.of.0.slots in
          rw (w.host-is, w.core-is, w.store-is) (record {
            leads = g.met.H.Wire.leads_then _ _ _ (g.met.H.Wire.leads_then _ _ _ inv.leads c.next-got.ensures.leads) keeps_left.2;
            later = omega (arith, c.next-got.ensures.later, keeps_left.1, inv.later);
            disk = w.in-Ok.ensures.cause ∙ keeps.2 ∙ inv.disk;
            size = w.in-Ok.ensures.size;
            of = w.in-Ok.ensures.of.0;
            joined = w.in-Ok.ensures.of.1;
            adds = added_on xs zs (g.H.Wire.acts left) (taken_on xs ys zs moment now (took event.Restart at) inv.adds took_it) more;
            rested = λ start is rests.
                let lives = inv.rested start is rests in
                let still = rests_came settings most start (agent core store) c.loop-turn._turn moment at event.Restart Rests first a b xs ys zs now here keeps.0 took_it lives rests in
                let found = w.in-Ok.ensures.restarted lives.state lives.is_in still in
                lives_then settings most start (agent core store) c.loop-turn._turn moment at event.Restart Rests first a b xs ys zs now here keeps.0 took_it lives next (g.H.Disk.media left) (g.H.Wire.acts left) many tt
                (restart_took settings lives.state at (agent core store) next b (g.H.Disk.media left) (g.H.Wire.moment left) zs (g.H.Wire.acts left) lives.is_in found.0 (g.met.H.Host.one_moment left) keeps_left.0
                (λ rest. restart_writes settings (agent core store) lives.state at b (g.H.Disk.media left) lives.is_in (w.restart.ensures.moments rest))
                (λ rest. found.1));
            lives = λ start is. inl (restarted_on xs zs (g.H.Wire.acts left) (restarted_now xs ys zs moment now (took event.Restart at) tt inv.adds took_it) more);
          })
      | in_default+in-Ok-take w ↦
          let left = w.take.new.host in
          let next = agent w.take.new.core w.take.new.store in
          let what = event_of c.next-got.result.what c.next-got.new.into in
          let goes = no_end c.next-got.result.what c.next-got.new.into at w.in_default.not-End w.in_default.not-Failed in
          let took_it = c.next-got.ensures.acts in
          let many = ap most_young (w.take.ensures.same.slots ∙ inv.of.slots) in
          let on = λ (start : GatewayState) (lives : LivesOn settings most start (agent core store) c.loop-turn._turn Rests first a xs ys).
          lives_then settings most start (agent core store) c.loop-turn._turn moment at what Rests first a b xs ys zs now here keeps.0 took_it lives next (g.H.Disk.media left) (g.H.Wire.acts left) many goes
          (w.in-Ok-take.ensures.done settings lives.state lives.is_in) in
          rw (w.host-is, w.core-is, w.store-is) (record {
            leads = g.met.H.Wire.leads_then _ _ _ (g.met.H.Wire.leads_then _ _ _ inv.leads c.next-got.ensures.leads) w.take.ensures.leads;
            later = omega (arith, c.next-got.ensures.later, w.take.ensures.wire, inv.later);
            disk = w.in-Ok-take.ensures.cause.same ∙ keeps.2 ∙ inv.disk;
            size = subst (λ (extent : ℕ). needed_of (slots_of settings) ≤ extent) (sym w.take.ensures.extent) size_came;
            of = record {
              routes = w.take.ensures.same.routes ∙ inv.of.routes;
              upstream_is = w.take.ensures.same.upstream ∙ inv.of.upstream_is;
              slots = w.take.ensures.same.slots ∙ inv.of.slots;
            };
            joined = w.in-Ok-take.ensures.joined;
            adds = added_on xs zs (g.H.Wire.acts left) (taken_on xs ys zs moment now (took what at) inv.adds took_it) w.take.ensures.adds;
            rested = λ start is rests. on start (inv.rested start is rests);
            lives = λ start is.
                either_on (LivesOn settings most start (agent core store) c.loop-turn._turn Rests first a xs ys) (LivesOn settings most start next (c.loop-turn._turn + 1) Rests first (g.H.Disk.media left) xs (g.H.Wire.acts left))
                xs ys (g.H.Wire.acts left) (added_on ys zs (g.H.Wire.acts left) (added_by ys zs moment now (took what at) (λ _. Unit {0}) took_it tt) w.take.ensures.adds)
                (on start) (inv.lives start is);
          })
    ]

-- ---- the end, and a failure of the wire

pub returns-in-End-clause-came : goal.returns-in-End-clause-came
returns-in-End-clause-came g c = λ start is follows.
    let inv = c.loop-turn.invariant in
    let settings = c.args.settings.now in
    let most = most_young (slots_of settings) in
    let now = agent c.loop-turn.core c.loop-turn.store in
    let host = c.loop-turn.host in
    let came = c.next-got.new.self in
    let at = c.next-got.result.at in
    let first = g.H.Disk.media c.args.host.now in
    let a = g.H.Disk.media host in
    let b = g.H.Disk.media came in
    let xs = g.H.Wire.acts c.args.host.now in
    let ys = g.H.Wire.acts host in
    let zs = g.H.Wire.acts came in
    let moment = g.H.Wire.moment host in
    let later = g.H.Wire.moment came in
    let Rests = RestsWith first (IsOn settings c.args.store) in
    let L = LivesOn settings most start now c.loop-turn._turn Rests first a xs ys in
    let took_it = rw c.in-End.is at c.next-got.ensures.acts in
    let lives = followed Rests L xs zs follows (inv.rested start is)
    (either_on L L xs ys zs (added_by ys zs moment later (took event.End at) (λ _. Unit {0}) took_it tt) (λ l. l) (inv.lives start is)) in (
      resting lives.state,
      record {
        settled = refl;
        found = tt;
        waits = c.waiting_in.ensures ∙ ap (λ (g : GatewayValue). length g.exchanges.waiting) lives.is_in.core;
        grows = lives.grown;
        trace = lives.trace ++ lives.state ∷ [];
        told = comes_unsent settings most start now c.loop-turn._turn moment at event.End Rests first a b xs ys zs later (g.met.H.Host.one_moment host) (g.met.H.Host.wire_keeps host came c.next-got.ensures.beside).0 took_it lives
            (Ok c.waiting_in.result) [] lives.state b zs (refl, refl) ([], sym (append-nil lives.state.kept)) (own_time settings most now lives.state lives.is_in) (keeps_same zs) (λ rest. begins b _)
            (λ front goes. (front, _, at, refl, refl, goes));
      },
    )

pub returns-in-End-clause-adds : goal.returns-in-End-clause-adds
returns-in-End-clause-adds g c =
    taken_on (g.H.Wire.acts c.args.host.now) (g.H.Wire.acts c.loop-turn.host) (g.H.Wire.acts c.next-got.new.self) (g.H.Wire.moment c.loop-turn.host) (g.H.Wire.moment c.next-got.new.self)
    (took (event_of c.next-got.result.what c.next-got.new.into) c.next-got.result.at) c.loop-turn.invariant.adds c.next-got.ensures.acts

pub returns-in-Failed-clause-came : goal.returns-in-Failed-clause-came
returns-in-Failed-clause-came g c = λ start is follows.
    let inv = c.loop-turn.invariant in
    let settings = c.args.settings.now in
    let most = most_young (slots_of settings) in
    let now = agent c.loop-turn.core c.loop-turn.store in
    let host = c.loop-turn.host in
    let came = c.next-got.new.self in
    let at = c.next-got.result.at in
    let first = g.H.Disk.media c.args.host.now in
    let a = g.H.Disk.media host in
    let b = g.H.Disk.media came in
    let xs = g.H.Wire.acts c.args.host.now in
    let ys = g.H.Wire.acts host in
    let zs = g.H.Wire.acts came in
    let moment = g.H.Wire.moment host in
    let later = g.H.Wire.moment came in
    let Rests = RestsWith first (IsOn settings c.args.store) in
    let L = LivesOn settings most start now c.loop-turn._turn Rests first a xs ys in
    let took_it = rw c.in-Failed.is at c.next-got.ensures.acts in
    let lives = followed Rests L xs zs follows (inv.rested start is)
    (either_on L L xs ys zs (added_by ys zs moment later (took event.Failed at) (λ _. Unit {0}) took_it tt) (λ l. l) (inv.lives start is)) in (
      resting lives.state,
      record {
        settled = refl;
        found = tt;
        waits = tt;
        grows = lives.grown;
        trace = lives.trace ++ lives.state ∷ [];
        told = comes_unsent settings most start now c.loop-turn._turn moment at event.Failed Rests first a b xs ys zs later (g.met.H.Host.one_moment host) (g.met.H.Host.wire_keeps host came c.next-got.ensures.beside).0 took_it lives
            (Err halt.NextFailed) [] lives.state b zs (refl, refl) ([], sym (append-nil lives.state.kept)) (own_time settings most now lives.state lives.is_in) (keeps_same zs) (λ rest. begins b _)
            (λ front goes. (front, _, at, refl, refl, goes));
      },
    )

pub returns-in-Failed-clause-adds : goal.returns-in-Failed-clause-adds
returns-in-Failed-clause-adds g c =
    taken_on (g.H.Wire.acts c.args.host.now) (g.H.Wire.acts c.loop-turn.host) (g.H.Wire.acts c.next-got.new.self) (g.H.Wire.moment c.loop-turn.host) (g.H.Wire.moment c.next-got.new.self)
    (took (event_of c.next-got.result.what c.next-got.new.into) c.next-got.result.at) c.loop-turn.invariant.adds c.next-got.ensures.acts

-- ---- at a restart the store didn't open

pub returns-in-Err : goal.returns-in-Err
returns-in-Err g c =
    let inv = c.loop-turn.invariant in
    let settings = c.args.settings.now in
    let most = most_young (slots_of settings) in
    let now = agent c.loop-turn.core c.loop-turn.store in
    let host = c.loop-turn.host in
    let came = c.next-got.new.self in
    let left = c.restart.new.disk in
    let at = c.next-got.result.at in
    let keeps = g.met.H.Host.wire_keeps host came c.next-got.ensures.beside in
    let keeps_left = g.met.H.Host.disk_keeps came left c.restart.ensures.beside in
    let first = g.H.Disk.media c.args.host.now in
    let a = g.H.Disk.media host in
    let b = g.H.Disk.media came in
    let xs = g.H.Wire.acts c.args.host.now in
    let ys = g.H.Wire.acts host in
    let zs = g.H.Wire.acts came in
    let vs = g.H.Wire.acts left in
    let moment = g.H.Wire.moment host in
    let later = g.H.Wire.moment came in
    let Rests = RestsWith first (IsOn settings c.args.store) in
    let took_it = rw c.in-Restart.is at c.next-got.ensures.acts in
    let more = added_any zs vs (λ more. more ≡ []) (none_added zs vs keeps_left.0) in
    let size_came = subst (λ (extent : ℕ). needed_of (slots_of settings) ≤ extent) (sym keeps.1) inv.size in
    record {
      came = λ start is follows.
          followed Rests _ xs vs follows (λ rests.
          let lives = inv.rested start is rests in
          let still = rests_came settings most start now c.loop-turn._turn moment at event.Restart Rests first a b xs ys zs later (g.met.H.Host.one_moment host) keeps.0 took_it lives rests in (
            resting (restarted lives.state at),
            record {
              settled = refl;
              found = c.in-Err.ensures.found inv.joined still size_came;
              waits = tt;
              grows = lives.grown;
              trace = lives.trace ++ restarted lives.state at ∷ [];
              told = comes_unsent settings most start now c.loop-turn._turn moment at event.Restart Rests first a b xs ys zs later (g.met.H.Host.one_moment host) keeps.0 took_it lives
                  (Err (halt.Unrecovered c.in-Err.fault)) [] (restarted lives.state at) (g.H.Disk.media left) vs (refl, refl) ([], sym (append-nil lives.state.kept)) (omega arith) keeps_left.0
                  (λ rest. subst (λ (m : ℕ). Leaves b (g.H.Disk.media left) (HasTurn settings m lives.state (restarted lives.state at))) lives.many
                  (restart_writes settings now lives.state at b (g.H.Disk.media left) lives.is_in (c.restart.ensures.moments rest)))
                  (λ front goes. (front, _, at, refl, refl, goes));
            },
          ))
          (inl (restarted_on xs zs vs (restarted_now xs ys zs moment later (took event.Restart at) tt inv.adds took_it) more));
      adds = added_on xs zs vs (taken_on xs ys zs moment later (took (event_of c.next-got.result.what c.next-got.new.into) at) inv.adds c.next-got.ensures.acts) more;
      stopped =
          let wire = inv.later in
          let wire_on = c.next-got.ensures.later in
          let disk = inv.disk in
          let disk_on = keeps.2 in
          stops_more (halt.Unrecovered c.in-Err.fault) (Rose (g.H.Wire.faults came) (g.H.Wire.faults left)) (Rose (g.H.Wire.faults c.args.host.now) (g.H.Wire.faults left))
          (Rose (g.H.Disk.faults came) (g.H.Disk.faults left)) (Rose (g.H.Disk.faults c.args.host.now) (g.H.Disk.faults left))
          (rose_since (g.H.Wire.faults c.args.host.now) (g.H.Wire.faults came) (g.H.Wire.faults left) (omega (arith, wire, wire_on)))
          (rose_since (g.H.Disk.faults c.args.host.now) (g.H.Disk.faults came) (g.H.Disk.faults left) (omega (arith, disk, disk_on)))
          (unrecovered_stops (GatewayValue × StoreValue) c.in-Err.fault _ (g.H.Disk.faults came) (g.H.Disk.faults left) c.in-Err.ensures.cause);
      leads = g.met.H.Wire.leads_then _ _ _ (g.met.H.Wire.leads_then _ _ _ inv.leads c.next-got.ensures.leads) keeps_left.2;
      later = omega (arith, c.next-got.ensures.later, keeps_left.1, inv.later);
    }

-- ---- the disk failed in the middle of an event

pub returns-in-Err-take : goal.returns-in-Err-take
returns-in-Err-take g c =
    let inv = c.loop-turn.invariant in
    let settings = c.args.settings.now in
    let most = most_young (slots_of settings) in
    let now = agent c.loop-turn.core c.loop-turn.store in
    let host = c.loop-turn.host in
    let came = c.next-got.new.self in
    let left = c.take.new.host in
    let at = c.next-got.result.at in
    let what = event_of c.next-got.result.what c.next-got.new.into in
    let keeps = g.met.H.Host.wire_keeps host came c.next-got.ensures.beside in
    let first = g.H.Disk.media c.args.host.now in
    let a = g.H.Disk.media host in
    let b = g.H.Disk.media came in
    let xs = g.H.Wire.acts c.args.host.now in
    let ys = g.H.Wire.acts host in
    let zs = g.H.Wire.acts came in
    let vs = g.H.Wire.acts left in
    let moment = g.H.Wire.moment host in
    let later = g.H.Wire.moment came in
    let took_it = c.next-got.ensures.acts in
    let goes_on = no_end c.next-got.result.what c.next-got.new.into at c.in_default.not-End c.in_default.not-Failed in
    record {
      came = λ start is follows.
          let Rests = RestsWith first (IsOn settings c.args.store) in
          let L = LivesOn settings most start now c.loop-turn._turn Rests first a xs ys in
          let lives = followed Rests L xs vs follows (inv.rested start is)
          (either_on L L xs ys vs (added_on ys zs vs (added_by ys zs moment later (took what at) (λ _. Unit {0}) took_it tt) c.take.ensures.adds) (λ l. l) (inv.lives start is)) in
          let over = c.in-Err-take.ensures.failed settings lives.state lives.is_in in (
            owing over.new over.outs,
            record {
              settled = tt;
              found = tt;
              waits = tt;
              grows = grows_then start.kept lives.state.kept over.new.kept lives.grown over.grows;
              trace = lives.trace ++ over.new ∷ [];
              told = comes_unsent settings most start now c.loop-turn._turn moment at what Rests first a b xs ys zs later (g.met.H.Host.one_moment host) keeps.0 took_it lives
                  (Err halt.DiskFailed) over.outs over.new (g.H.Disk.media left) vs over.made over.grows over.timely over.broke.silent
                  (subst (λ (m : ℕ). RestsWith b (IsOn settings c.loop-turn.store) → Leaves b (g.H.Disk.media left) (HasTurn settings m lives.state over.new)) lives.many over.broke.writes)
                  (λ front goes. (front, _, what, at, refl, refl, go_on_then front _ goes (goes_on, tt)));
            },
          );
      adds = added_on xs zs vs (taken_on xs ys zs moment later (took what at) inv.adds took_it) c.take.ensures.adds;
      stopped =
          let disk = inv.disk in
          let disk_on = keeps.2 in
          rose_since (g.H.Disk.faults c.args.host.now) (g.H.Disk.faults came) (g.H.Disk.faults left) (omega (arith, disk, disk_on)) c.in-Err-take.ensures.cause.rose;
      leads = g.met.H.Wire.leads_then _ _ _ (g.met.H.Wire.leads_then _ _ _ inv.leads c.next-got.ensures.leads) c.take.ensures.leads;
      later = omega (arith, c.next-got.ensures.later, c.take.ensures.wire, inv.later);
    }

-- ---- the loop has run out

pub returns-clause-came : goal.returns-clause-came
returns-clause-came g c = λ start is follows.
    let inv = c.loop-turn.invariant in
    let settings = c.args.settings.now in
    let most = most_young (slots_of settings) in
    let now = agent c.loop-turn.core c.loop-turn.store in
    let first = g.H.Disk.media c.args.host.now in
    let media = g.H.Disk.media c.loop-turn.host in
    let xs = g.H.Wire.acts c.args.host.now in
    let ys = g.H.Wire.acts c.loop-turn.host in
    let Rests = RestsWith first (IsOn settings c.args.store) in
    let lives = followed Rests (LivesOn settings most start now c.loop-turn._turn Rests first media xs ys) xs ys follows (inv.rested start is) (inv.lives start is) in (
      resting lives.state,
      record {
        settled = refl;
        found = tt;
        waits = tt;
        grows = lives.grown;
        trace = lives.trace;
        told = ran_out settings most start lives.state c.loop-turn._turn lives.trace first media Rests xs ys (omega (arith, c.loop-turn-test.false, c.loop-turn.auto._turn-end)) lives.told;
      },
    )
