use Rattle.std.proofs.Common.{ℕ, List, Option, ap, sym, ◌∙◌}
use Rattle.filter_table.specs.Best.{best, greater_of, mid_in}
use Rattle.filter_table.proofs.Bests.{greater_joined, greater_none, best-append}
use Rattle.filter_table.proofs.greater.greatest_covered.Goals as goal

pub loop-slots-preserved : goal.loop-slots-preserved
loop-slots-preserved c =
    ap (λ (m : Option ℕ). greater_of m (best (mid_in c.args.packet.now c.args.rows.now) c.next.new.self.slots)) c.greater_in-found.ensures
    ∙ greater_joined c.loop-slots.found (best (mid_in c.args.packet.now c.args.rows.now) c.in-Some.slots.now) (best (mid_in c.args.packet.now c.args.rows.now) c.next.new.self.slots)
    ∙ ap (greater_of c.loop-slots.found)
    (sym (best-append (mid_in c.args.packet.now c.args.rows.now) c.in-Some.slots.now c.next.new.self.slots) ∙ ap (best (mid_in c.args.packet.now c.args.rows.now)) (sym c.in-Some.ensures.some))
    ∙ c.loop-slots.invariant

pub returns : goal.returns
returns c =
    sym (greater_none c.loop-slots.found)
    ∙ ap (λ (ss : List ℕ). greater_of c.loop-slots.found (best (mid_in c.args.packet.now c.args.rows.now) ss)) (sym c.in_default.ensures.none)
    ∙ c.loop-slots.invariant
