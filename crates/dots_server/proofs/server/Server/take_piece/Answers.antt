use Rattle.std.proofs.Common.{◌≤◌, ℕ, List, length, drop, arith, refl, sym, ◌∙◌, subst}
use Rattle.dots_host.proofs.RunLemmas.{added_none}
use Rattle.slot_store.specs.Layout.{needed_of}
use Rattle.dots_registry.proofs.Answering.{err_of}
use Rattle.dots_server.specs.Pieces.{TurnsTaken}
use Rattle.dots_server.proofs.Following.{added_on}
use Rattle.dots_server.proofs.Rows.{fewer_left}
use Rattle.dots_server.proofs.Fronts.{some_taken, none_left}
use Rattle.dots_server.proofs.Chaining.{none_taken, one_taken, whole_taken, broke_taken}
use Rattle.dots_server.proofs.server.Server.take_piece.Goals as goal

pub fronts-init : goal.fronts-init
fronts-init g c =
    let host = c.args.host.now in
    record {
      taken = λ settings state entries kept. none_taken settings c.args.conn c.args.piece.now state c.args.self.now entries (g.H.Disk.media host) (g.H.Wire.acts host) kept;
      adds = added_none (g.H.Wire.acts host) (λ _. Unit {0}) tt;
      settings = refl;
      slots = refl;
      extent = refl;
      disk = refl;
      wire = refl;
      leads = g.met.H.Wire.leads_same host;
    }

pub take_front-requires : goal.take_front-requires
take_front-requires g c =
    let inv = c.fronts.invariant in
    record {
      size = subst (λ extent. needed_of c.fronts.self.journal.slots ≤ extent) (sym inv.extent) (subst (λ slots. needed_of slots ≤ g.H.Disk.extent c.args.host.now) (sym inv.slots) c.requires.size);
    }

pub split_at-requires : goal.split_at-requires
split_at-requires g c =
    (fewer_left c.in_ok-take_front.field-0 c.in-Some.taken c.args.conn (length c.fronts.rest.now) c.fronts.self.lines c.take_front.new.self.lines c.in-Some.is c.in_ok-take_front.ensures.fewer).0

pub fronts-smaller : goal.fronts-smaller
fronts-smaller g c =
    let fewer =
    fewer_left c.in_ok-take_front.field-0 c.in-Some.taken c.args.conn (length c.fronts.rest.now) c.fronts.self.lines c.take_front.new.self.lines c.in-Some.is c.in_ok-take_front.ensures.fewer in
    let back = c.split_at.ensures.back_len in
    omega (arith, fewer.0, fewer.1, back)

pub fronts-preserved : goal.fronts-preserved
fronts-preserved g c =
    let inv = c.fronts.invariant in
    let host = c.args.host.now in
    let there = c.fronts.host in
    let left = c.take_front.new.host in
    record {
      taken = λ settings state entries kept.
          let so_far = inv.taken settings state entries kept in
          subst
          (λ (rest : List ℕ). TurnsTaken settings c.args.conn c.args.piece.now rest state c.args.self.now c.take_front.new.self entries (g.H.Disk.media host) (g.H.Disk.media left) (g.H.Wire.acts host) (g.H.Wire.acts left))
          (sym c.split_at.ensures.back)
          (one_taken settings c.args.conn c.args.piece.now state c.args.self.now entries (g.H.Disk.media host) (g.H.Wire.acts host) c.fronts.rest.now c.fronts.self c.take_front.new.self
          (g.H.Disk.media there) (g.H.Disk.media left) (g.H.Wire.acts there) (g.H.Wire.acts left) so_far (drop c.in-Some.taken c.fronts.rest.now)
          (some_taken c.in_ok-take_front.field-0 settings c.args.conn c.fronts.rest.now so_far.reached c.fronts.self c.take_front.new.self so_far.few (g.H.Disk.media there) (g.H.Disk.media left) (g.H.Wire.acts there)
          (g.H.Wire.acts left) c.in-Some.taken c.in-Some.is (c.in_ok-take_front.ensures.done settings so_far.reached so_far.few so_far.kept)));
      adds = added_on (g.H.Wire.acts host) (g.H.Wire.acts there) (g.H.Wire.acts left) inv.adds c.take_front.ensures.adds;
      settings = c.take_front.ensures.settings ∙ inv.settings;
      slots = c.take_front.ensures.slots ∙ inv.slots;
      extent = c.take_front.ensures.extent ∙ inv.extent;
      disk = c.in_ok-take_front.ensures.cause.same ∙ inv.disk;
      wire = c.take_front.ensures.wire ∙ inv.wire;
      leads = g.met.H.Wire.leads_then _ _ _ inv.leads c.take_front.ensures.leads;
    }

-- the connection rests
pub returns-in-None-clause-done : goal.returns-in-None-clause-done
returns-in-None-clause-done g c = λ settings state entries kept.
    let host = c.args.host.now in
    let there = c.fronts.host in
    let left = c.take_front.new.host in
    let so_far = c.fronts.invariant.taken settings state entries kept in
    whole_taken settings c.args.conn c.args.piece.now state c.args.self.now entries (g.H.Disk.media host) (g.H.Wire.acts host) c.fronts.rest.now c.fronts.self c.take_front.new.self
    (g.H.Disk.media there) (g.H.Disk.media left) (g.H.Wire.acts there) (g.H.Wire.acts left) so_far
    (none_left c.in_ok-take_front.field-0 settings c.args.conn c.fronts.rest.now so_far.reached c.fronts.self c.take_front.new.self so_far.few (g.H.Disk.media there) (g.H.Disk.media left) (g.H.Wire.acts there)
    (g.H.Wire.acts left) c.in-None.is (c.in_ok-take_front.ensures.done settings so_far.reached so_far.few so_far.kept))

-- the disk failed
pub returns-in_err-take_front-clause-failed : goal.returns-in_err-take_front-clause-failed
returns-in_err-take_front-clause-failed g c =
    err_of c.from_residual.result _ (λ settings state entries kept.
    let host = c.args.host.now in
    let there = c.fronts.host in
    let left = c.take_front.new.host in
    let so_far = c.fronts.invariant.taken settings state entries kept in
    broke_taken settings c.args.conn c.args.piece.now state c.args.self.now entries (g.H.Disk.media host) (g.H.Wire.acts host) c.fronts.rest.now c.fronts.self c.take_front.new.self
    (g.H.Disk.media there) (g.H.Disk.media left) (g.H.Wire.acts there) (g.H.Wire.acts left) so_far (c.in_err-take_front.ensures.failed settings so_far.reached so_far.few so_far.kept))
