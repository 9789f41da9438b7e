use Rattle.std.proofs.Common.{◌+◌, get_or, refl, sym, ap, ◌∙◌, arith}
use Rattle.held_resources.specs.Tables.{lost_in}
use Rattle.live_mitigations.specs.LiveValues.{rows_for}
use Rattle.live_mitigations.specs.Rows.{slots_of}
use Rattle.live_mitigations.specs.Slots.{put_in}
use Rattle.dots_registry.specs.Awaited.{filters_found}
use Rattle.dots_registry.proofs.RowsInTurn.{made_first, made_next, made_last, found_fits}
use Rattle.dots_registry.proofs.awaited.install_all.Goals as goal

pub loop-domain-init : goal.loop-domain-init
loop-domain-init c = record {
  made = λ entries awaits. made_first entries c.args.live.now c.args.held.now c.args.domains.now c.args.filters.now awaits;
  place = refl;
}

pub install_at-requires : goal.install_at-requires
install_at-requires c = λ m some.
    found_fits
    c.requires.entries
    c.args.live.now
    c.args.held.now
    c.args.domains.now
    c.args.filters.now
    c.loop-domain.filters
    c.loop-domain.domain-index
    (get_or c.args.domains.now c.loop-domain.domain-index 0)
    m
    c.requires.awaits
    c.loop-domain-test.true
    refl
    (c.loop-domain.invariant.made c.requires.entries c.requires.awaits)
    (ap (λ k. put_in k (rows_for c.args.live.now (get_or c.args.domains.now c.loop-domain.domain-index 0)) (slots_of (get_or c.args.domains.now c.loop-domain.domain-index 0) c.args.live.now.tables)) (sym c.loop-domain.invariant.place) ∙ some)

pub overflow_add-slot : goal.overflow_add-slot
overflow_add-slot c =
    let place = c.loop-domain.invariant.place in
    let less = c.loop-domain-test.true in
    let few = c.requires.few in
    omega (arith, place, less, few)

pub loop-domain-preserved : goal.loop-domain-preserved
loop-domain-preserved c = record {
  made = λ entries awaits.
      made_next
      entries
      c.args.live.now
      c.args.held.now
      c.args.domains.now
      c.args.filters.now
      c.loop-domain.filters
      c.install_at.new.filters
      c.loop-domain.domain-index
      (get_or c.args.domains.now c.loop-domain.domain-index 0)
      awaits
      c.loop-domain-test.true
      refl
      (c.in_ok-install_at.ensures
      ∙ ap
      (λ k. filters_found (lost_in c.args.held.now) (put_in k (rows_for c.args.live.now (get_or c.args.domains.now c.loop-domain.domain-index 0)) (slots_of (get_or c.args.domains.now c.loop-domain.domain-index 0) c.args.live.now.tables)) c.loop-domain.filters)
      c.loop-domain.invariant.place)
      (c.loop-domain.invariant.made entries awaits);
  place = ap (λ k. k + 1) c.loop-domain.invariant.place;
}

pub returns : goal.returns
returns c = λ entries awaits.
    made_last
    entries
    c.args.live.now
    c.args.held.now
    c.args.domains.now
    c.args.filters.now
    c.loop-domain.filters
    c.loop-domain.domain-index
    awaits
    c.loop-domain-test.false
    (c.loop-domain.invariant.made entries awaits)
