use Rattle.std.proofs.Common.{◌<◌, length, arith, refl, ap, ◌∙◌, subst}
use Rattle.dots_host.proofs.RunLemmas.{added_none}
use Rattle.dots_settings.specs.Settings.{IsSettings}
use Rattle.dots_registry.proofs.Answering.{err_of}
use Rattle.dots_server.specs.ServerValues.{ServerValue}
use Rattle.dots_server.proofs.Following.{added_on}
use Rattle.dots_server.proofs.Lapsing.{none_lapsed, one_lapsed, broke_lapsed, all_lapsed}
use Rattle.dots_server.proofs.server.Server.lapse.Goals as goal

pub loop-place-init : goal.loop-place-init
loop-place-init g c =
    let host = c.args.host.now in
    record {
      lapsed = λ settings state entries kept. none_lapsed settings state c.args.self.now entries (g.H.Disk.media host) (g.H.Wire.acts host) kept;
      sessions = refl;
      adds = added_none (g.H.Wire.acts host) (λ _. Unit {0}) tt;
      settings = refl;
      slots = refl;
      extent = refl;
      disk = refl;
      wire = refl;
      leads = g.met.H.Wire.leads_same host;
    }

pub loop-place-preserved : goal.loop-place-preserved
loop-place-preserved g c =
    let inv = c.loop-place.invariant in
    let host = c.args.host.now in
    let there = c.loop-place.host in
    let left = c.lapse_at.new.host in
    let count = c.len-place-end.ensures ∙ ap (λ (server : ServerValue). length server.watch.sessions) c.self.view_is in
    let less : c.loop-place.place < length c.loop-place.self.watch.sessions = omega (arith, c.loop-place-test.true, c.loop-place.auto.place-end, count, inv.sessions) in
    record {
      lapsed = λ settings state entries kept.
          let so_far = inv.lapsed settings state entries kept in
          let (few, new_kept, wrote) = c.in_ok-lapse_at.ensures.done settings so_far.reached so_far.few so_far.kept in
          one_lapsed settings state c.args.self.now entries (g.H.Disk.media host) (g.H.Wire.acts host) c.loop-place.place c.loop-place.self c.lapse_at.new.self
          (g.H.Disk.media there) (g.H.Disk.media left) (g.H.Wire.acts there) (g.H.Wire.acts left) so_far few (g.H.Wire.moment left) less (g.met.H.Host.one_moment left) new_kept wrote;
      sessions = c.lapse_at.ensures.sessions ∙ inv.sessions;
      adds = added_on (g.H.Wire.acts host) (g.H.Wire.acts there) (g.H.Wire.acts left) inv.adds c.lapse_at.ensures.adds;
      settings = c.lapse_at.ensures.settings ∙ inv.settings;
      slots = c.lapse_at.ensures.slots ∙ inv.slots;
      extent = c.lapse_at.ensures.extent ∙ inv.extent;
      disk = c.in_ok-lapse_at.ensures.cause.same ∙ inv.disk;
      wire = c.lapse_at.ensures.wire ∙ inv.wire;
      leads = g.met.H.Wire.leads_then _ _ _ inv.leads c.lapse_at.ensures.leads;
    }

-- all peers had their turns
pub returns-clause-done : goal.returns-clause-done
returns-clause-done g c = λ settings state entries kept.
    let host = c.args.host.now in
    let there = c.loop-place.host in
    let count = c.len-place-end.ensures ∙ ap (λ (server : ServerValue). length server.watch.sessions) c.self.view_is in
    all_lapsed settings state c.args.self.now entries (g.H.Disk.media host) (g.H.Wire.acts host) c.loop-place.place c.loop-place.self (g.H.Disk.media there) (g.H.Wire.acts there)
    (omega (arith, c.loop-place-test.false, c.loop-place.auto.place-end, count)) kept (c.loop-place.invariant.lapsed settings state entries kept)

-- the disk failed
pub returns-in_err-lapse_at-clause-failed : goal.returns-in_err-lapse_at-clause-failed
returns-in_err-lapse_at-clause-failed g c =
    err_of c.from_residual.result _ (λ settings state entries kept.
    let inv = c.loop-place.invariant in
    let host = c.args.host.now in
    let there = c.loop-place.host in
    let left = c.lapse_at.new.host in
    let count = c.len-place-end.ensures ∙ ap (λ (server : ServerValue). length server.watch.sessions) c.self.view_is in
    let less : c.loop-place.place < length c.loop-place.self.watch.sessions = omega (arith, c.loop-place-test.true, c.loop-place.auto.place-end, count, inv.sessions) in
    let so_far = inv.lapsed settings state entries kept in
    let (adds, broke) = c.in_err-lapse_at.ensures.failed settings so_far.reached so_far.few so_far.kept in
    broke_lapsed settings state c.args.self.now entries (g.H.Disk.media host) (g.H.Wire.acts host) c.loop-place.place c.loop-place.self c.lapse_at.new.self
    (g.H.Disk.media there) (g.H.Disk.media left) (g.H.Wire.acts there) (g.H.Wire.acts left) so_far (subst IsSettings so_far.kept.represents.represents.settings_are c.lapse_at.ensures.valid) less adds broke)
