use Rattle.std.proofs.Common.{arith, ◌≡◌, ℕ, ◌+◌, ◌-◌, ◌≤◌, length, drop, refl, ap, ◌∙◌}
use Rattle.std.specs.List.{prefix_len}
use Rattle.filter_table.specs.Sifting.{is_outside}
use Rattle.filter_table.proofs.Sifted.{sift_start, sift_next, sift_end}
use Rattle.filter_table.proofs.sifting.sift.Goals as goal

pub loop-end-init : goal.loop-end-init
loop-end-init c = record {
  state = sift_start (is_outside c.args.low c.args.high) c.args.ranks.now c.args.numbers.now c.args.slots.now c.args.levels.now.items c.requires.in_order c.requires.numbers c.requires.slots c.requires.levels;
  place = c.next_inside-end.ensures.value;
  within = c.next_inside-end.ensures.within;
  capacity = refl;
}

pub loop-end-preserved : goal.loop-end-preserved
loop-end-preserved c =
    let below : c.loop-end.holes ≤ c.loop-end.end = omega (arith, c.loop-end.invariant.place) in
    let same : c.loop-end.end + 1 ≡ c.loop-end.end - c.loop-end.holes + (c.loop-end.holes + 1) = omega (arith, below) in
    record {
      state = sift_next (is_outside c.args.low c.args.high) c.args.ranks.now c.loop-end.ranks c.close_all.new.ranks c.loop-end.staying c.loop-end.holes c.loop-end.end (c.loop-end.end - c.loop-end.holes)
          c.loop-end.numbers c.close_all.new.numbers c.loop-end.slots c.close_all.new.slots c.loop-end.levels.items c.take_one.new.levels.items _
          c.loop-end.invariant.state c.loop-end.invariant.place (omega (arith, c.loop-end-test.true, c.loop-end.auto.ranks)) (omega (arith, below))
          c.close_all.ensures.ranks c.close_all.ensures.numbers c.close_all.ensures.slots c.take_one.ensures.items;
      place = c.next_inside-end-in-loop-end.ensures.value
          ∙ ap (λ (n : ℕ). n + prefix_len (is_outside c.args.low c.args.high) (drop n c.close_all.new.ranks)) same;
      within = c.next_inside-end-in-loop-end.ensures.within;
      capacity = c.take_one.ensures.capacity ∙ c.loop-end.invariant.capacity;
    }

pub returns-clause-ranks : goal.returns-clause-ranks
returns-clause-ranks c =
    let below : c.loop-end.holes ≤ c.loop-end.end = omega (arith, c.loop-end.invariant.place) in
    let left = sift_end (is_outside c.args.low c.args.high) c.args.ranks.now c.loop-end.ranks c.close_all-2.new.ranks c.loop-end.staying c.loop-end.holes (length c.args.ranks.now) (length c.args.ranks.now - c.loop-end.holes)
    c.loop-end.numbers c.close_all-2.new.numbers c.loop-end.slots c.close_all-2.new.slots c.loop-end.levels.items c.loop-end.invariant.state
    (omega (arith, c.loop-end.invariant.place, c.loop-end.invariant.within, c.loop-end-test.false, c.loop-end.auto.ranks)) (omega (arith, c.loop-end.auto.ranks))
    (omega (arith, below, c.loop-end.invariant.within, c.loop-end.auto.ranks)) c.close_all-2.ensures.ranks c.close_all-2.ensures.numbers c.close_all-2.ensures.slots in
    left.ranks

pub returns-clause-numbers : goal.returns-clause-numbers
returns-clause-numbers c =
    let below : c.loop-end.holes ≤ c.loop-end.end = omega (arith, c.loop-end.invariant.place) in
    let left = sift_end (is_outside c.args.low c.args.high) c.args.ranks.now c.loop-end.ranks c.close_all-2.new.ranks c.loop-end.staying c.loop-end.holes (length c.args.ranks.now) (length c.args.ranks.now - c.loop-end.holes)
    c.loop-end.numbers c.close_all-2.new.numbers c.loop-end.slots c.close_all-2.new.slots c.loop-end.levels.items c.loop-end.invariant.state
    (omega (arith, c.loop-end.invariant.place, c.loop-end.invariant.within, c.loop-end-test.false, c.loop-end.auto.ranks)) (omega (arith, c.loop-end.auto.ranks))
    (omega (arith, below, c.loop-end.invariant.within, c.loop-end.auto.ranks)) c.close_all-2.ensures.ranks c.close_all-2.ensures.numbers c.close_all-2.ensures.slots in
    left.numbers

pub returns-clause-slots : goal.returns-clause-slots
returns-clause-slots c =
    let below : c.loop-end.holes ≤ c.loop-end.end = omega (arith, c.loop-end.invariant.place) in
    let left = sift_end (is_outside c.args.low c.args.high) c.args.ranks.now c.loop-end.ranks c.close_all-2.new.ranks c.loop-end.staying c.loop-end.holes (length c.args.ranks.now) (length c.args.ranks.now - c.loop-end.holes)
    c.loop-end.numbers c.close_all-2.new.numbers c.loop-end.slots c.close_all-2.new.slots c.loop-end.levels.items c.loop-end.invariant.state
    (omega (arith, c.loop-end.invariant.place, c.loop-end.invariant.within, c.loop-end-test.false, c.loop-end.auto.ranks)) (omega (arith, c.loop-end.auto.ranks))
    (omega (arith, below, c.loop-end.invariant.within, c.loop-end.auto.ranks)) c.close_all-2.ensures.ranks c.close_all-2.ensures.numbers c.close_all-2.ensures.slots in
    left.slots

pub returns-clause-levels : goal.returns-clause-levels
returns-clause-levels c =
    let below : c.loop-end.holes ≤ c.loop-end.end = omega (arith, c.loop-end.invariant.place) in
    let left = sift_end (is_outside c.args.low c.args.high) c.args.ranks.now c.loop-end.ranks c.close_all-2.new.ranks c.loop-end.staying c.loop-end.holes (length c.args.ranks.now) (length c.args.ranks.now - c.loop-end.holes)
    c.loop-end.numbers c.close_all-2.new.numbers c.loop-end.slots c.close_all-2.new.slots c.loop-end.levels.items c.loop-end.invariant.state
    (omega (arith, c.loop-end.invariant.place, c.loop-end.invariant.within, c.loop-end-test.false, c.loop-end.auto.ranks)) (omega (arith, c.loop-end.auto.ranks))
    (omega (arith, below, c.loop-end.invariant.within, c.loop-end.auto.ranks)) c.close_all-2.ensures.ranks c.close_all-2.ensures.numbers c.close_all-2.ensures.slots in
    left.levels_are

pub returns-clause-capacity : goal.returns-clause-capacity
returns-clause-capacity c = c.loop-end.invariant.capacity
