use Rattle.std.proofs.Common.{ℕ, refl, sym, subst, ◌∙◌, arith}
use Rattle.std.specs.Prelude.{Ok, Err}
use Rattle.dots_host.specs.Runs.{Added, Gives}
use Rattle.dots_gateway.specs.Gateway.{gateway_at}
use Rattle.gateway_agent.specs.Passing.{sends_of, state_at}
use Rattle.gateway_agent.specs.PassingWell.{GoesUpAs}
use Rattle.gateway_agent.specs.Keeping.{agent}
use Rattle.gateway_agent.specs.Turning.{TookBy}
use Rattle.gateway_agent.proofs.Joining.{joined_at}
use Rattle.gateway_agent.proofs.Turning.{added_behind, some_adds, silent_adds, err_joined, up_can, up_fixed, up_joined, took_up, took_refused, broke_up}
use Rattle.gateway_agent.proofs.turns.take_up.Goals as goal

pub keep_fresh-requires-clause-can : goal.keep_fresh-requires-clause-can
keep_fresh-requires-clause-can g c =
    up_can (gateway_at c.args.at c.args.core.now) c.up.new.self c.args.store.now c.args.from c.args.bytes.now c.in-Ok.said
    (joined_at c.args.core.now c.args.store.now c.args.at c.requires.joined c.requires.early) c.in-Ok.ensures

pub keep_fresh-requires-clause-store : goal.keep_fresh-requires-clause-store
keep_fresh-requires-clause-store g c = c.requires.joined.order

-- what is new was kept, and the sends were given
pub returns-in-Ok-keep_fresh : goal.returns-in-Ok-keep_fresh
returns-in-Ok-keep_fresh g c =
    let host = c.args.host.now in
    let between = c.keep_fresh.new.disk in
    let left = c.give.new.wire in
    let core = c.args.core.now in
    let new = c.up.new.self in
    let old = c.args.store.now in
    let store = c.keep_fresh.new.store in
    let said = c.in-Ok.said in
    let ups = c.in-Ok.ensures in
    let joined = joined_at core old c.args.at c.requires.joined c.requires.early in
    let wrote = g.met.H.Host.disk_keeps host between c.keep_fresh.ensures.beside in
    let keeps = g.met.H.Host.wire_keeps between left c.give.ensures.beside in
    let gives = subst (λ (u : ℕ). Added (g.H.Wire.acts between) (g.H.Wire.acts left) (Gives (g.H.Wire.moment between) (sends_of u said))) c.requires.upstream c.give.ensures.gives in
    let fixed = up_fixed (gateway_at c.args.at core) c.args.from c.args.bytes.now (Ok said) new ups in
    record {
      done = λ settings state is.
          took_up settings state core new old store c.args.from c.args.bytes.now c.args.at said is c.requires.early ups
          (g.H.Disk.media host) (g.H.Disk.media between) (g.H.Disk.media left) (g.H.Wire.moment between) (g.H.Wire.acts host) (g.H.Wire.acts between) (g.H.Wire.acts left)
          c.keep_fresh.ensures.slots c.in-Ok-keep_fresh.ensures.more (c.keep_fresh.ensures.moments settings) (c.in-Ok-keep_fresh.ensures.rests settings)
          wrote.0 (g.met.H.Host.one_moment between) gives keeps.0;
      failed = tt;
      joined = up_joined (gateway_at c.args.at core) new old store c.args.from c.args.bytes.now joined c.keep_fresh.ensures.slots said ups c.in-Ok-keep_fresh.ensures.more;
      same = record { routes = fixed.0; upstream = fixed.1; slots = c.keep_fresh.ensures.slots };
      adds = some_adds _ _ _ (added_behind _ _ _ (Gives (g.H.Wire.moment between) (sends_of core.upstream said)) wrote.0 gives);
      cause =
          let same = keeps.2 ∙ c.in-Ok-keep_fresh.ensures.cause.same in
          record { later = omega (arith, same); same = same; rose = tt };
      extent = keeps.1 ∙ c.keep_fresh.ensures.extent;
      wire = c.give.ensures.faults ∙ wrote.1;
      leads = g.met.H.Wire.leads_then _ _ _ wrote.2 c.give.ensures.leads;
    }

-- the disk failed, and nothing was sent
pub returns-in-Err-keep_fresh : goal.returns-in-Err-keep_fresh
returns-in-Err-keep_fresh g c =
    let host = c.args.host.now in
    let between = c.keep_fresh.new.disk in
    let core = c.args.core.now in
    let new = c.up.new.self in
    let old = c.args.store.now in
    let said = c.in-Ok.said in
    let ups = c.in-Ok.ensures in
    let wrote = g.met.H.Host.disk_keeps host between c.keep_fresh.ensures.beside in
    let fixed = up_fixed (gateway_at c.args.at core) c.args.from c.args.bytes.now (Ok said) new ups in
    record {
      done = tt;
      failed = λ settings state is.
          broke_up settings state core new old c.keep_fresh.new.store c.args.from c.args.bytes.now c.args.at said is c.requires.early ups
          (g.H.Disk.media host) (g.H.Disk.media between) (g.H.Wire.acts host) (g.H.Wire.acts between) (c.keep_fresh.ensures.moments settings) wrote.0;
      joined = tt;
      same = record { routes = fixed.0; upstream = fixed.1; slots = c.keep_fresh.ensures.slots };
      adds = silent_adds _ _ wrote.0;
      cause = record { later = c.keep_fresh.ensures.cause.later; same = tt; rose = c.in-Err-keep_fresh.ensures.cause.rose };
      extent = c.keep_fresh.ensures.extent;
      wire = wrote.1;
      leads = wrote.2;
    }

-- it can't be passed on
pub returns-in-Err : goal.returns-in-Err
returns-in-Err g c =
    let host = c.args.host.now in
    let left = c.refuse_for.new.wire in
    let core = c.args.core.now in
    let new = c.up.new.self in
    let store = c.args.store.now in
    let why = c.in-Err.fault in
    let ups = c.in-Err.ensures in
    let keeps = g.met.H.Host.wire_keeps host left c.refuse_for.ensures.beside in
    let (outs, sends, gives) = c.refuse_for.ensures.refuses in
    let fixed = up_fixed (gateway_at c.args.at core) c.args.from c.args.bytes.now (Err why) new ups in
    record {
      done = λ settings state is.
          subst (λ enough. TookBy (λ outs new. GoesUpAs enough (state_at state c.args.at) c.args.from c.args.bytes.now outs new) settings state (agent core store) (agent new store)
          (g.H.Disk.media host) (g.H.Disk.media left) (g.H.Wire.acts host) (g.H.Wire.acts left))
          (sym c.is_table_full.ensures)
          (took_refused settings state core new store c.args.from c.args.bytes.now c.args.at why outs (g.H.Disk.media host) (g.H.Disk.media left) (g.H.Wire.moment host) (g.H.Wire.acts host) (g.H.Wire.acts left)
          is c.requires.early ups sends (g.met.H.Host.one_moment host) gives keeps.0);
      failed = tt;
      joined = err_joined core new store c.args.from c.args.bytes.now c.args.at why c.requires.joined c.requires.early ups;
      same = record { routes = fixed.0; upstream = fixed.1; slots = refl };
      adds = some_adds _ _ _ gives;
      cause = let same = keeps.2 in record { later = omega (arith, same); same = same; rose = tt };
      extent = keeps.1;
      wire = c.refuse_for.ensures.faults;
      leads = c.refuse_for.ensures.leads;
    }
