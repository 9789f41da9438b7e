use Rattle.std.proofs.Common.{arith, ◌≡◌, ◌+◌, ◌≤◌, List, length, ap, sym, subst, ◌∙◌}
use Rattle.filter_table.specs.Ranks.{RankingValue}
use Rattle.filter_table.specs.TableRows.{ScrubsValue, rank_of, AreInstalled}
use Rattle.filter_table.specs.Rows.{gathered, mark_of}
use Rattle.filter_table.proofs.Stored.{ranks_fit, few_placed, ranked_at_once}
use Rattle.filter_table.proofs.scrubs.Scrubs.install_all.Goals as goal

pub store_all-requires-clause-stand : goal.store_all-requires-clause-stand
store_all-requires-clause-stand c = record { room = c.self.inside.room; ranking = c.self.inside.ranking; marks = c.self.inside.marks; stand = c.self.invariant.0 }

pub store_all-requires-clause-enough : goal.store_all-requires-clause-enough
store_all-requires-clause-enough c =
    let fits : length (gathered c.self.inside.rows.items c.self.inside.turns.items) + length c.args.own.items ≤ c.self.inside.room =
    subst (λ (v : ScrubsValue). length v.placed + length c.args.own.items ≤ v.room) (sym c.self.view_is) c.requires.room in
    omega (arith, fits, c.self.invariant.0.slots_are.number)

pub store_all-requires-clause-room : goal.store_all-requires-clause-room
store_all-requires-clause-room c = omega (arith, c.self.invariant.0.rows_number, c.self.invariant.1)

pub store_all-requires-clause-ranks_room : goal.store_all-requires-clause-ranks_room
store_all-requires-clause-ranks_room c =
    let fits : length (gathered c.self.inside.rows.items c.self.inside.turns.items) + length c.args.own.items ≤ c.self.inside.room =
    subst (λ (v : ScrubsValue). length v.placed + length c.args.own.items ≤ v.room) (sym c.self.view_is) c.requires.room in
    omega (arith, fits, ap (λ (r : RankingValue). r.room) c.clear.ensures, c.self.invariant.3)

pub store_all-requires-clause-marks_room : goal.store_all-requires-clause-marks_room
store_all-requires-clause-marks_room c =
    let fits : length (gathered c.self.inside.rows.items c.self.inside.turns.items) + length c.args.own.items ≤ c.self.inside.room =
    subst (λ (v : ScrubsValue). length v.placed + length c.args.own.items ≤ v.room) (sym c.self.view_is) c.requires.room in
    omega (arith, fits, ap (λ (r : RankingValue). r.room) c.clear-2.ensures, c.self.invariant.4)

pub put_all-requires : goal.put_all-requires
put_all-requires c =
    let put = c.store_all.ensures.stored c.self.inside.room c.self.inside.ranking c.self.inside.marks c.self.invariant.0 in
    ranks_fit rank_of c.self.inside.ranking c.self.inside.room c.store_all.new.ranks.ranks (gathered c.store_all.new.rows.items c.store_all.new.turns.items) put.stand.ranks_are
    (few_placed _ _ _ _ _ _ put.stand)

pub put_all-requires-2 : goal.put_all-requires-2
put_all-requires-2 c =
    let put = c.store_all.ensures.stored c.self.inside.room c.self.inside.ranking c.self.inside.marks c.self.invariant.0 in
    ranks_fit mark_of c.self.inside.marks c.self.inside.room c.store_all.new.marks.ranks (gathered c.store_all.new.rows.items c.store_all.new.turns.items) put.stand.marks_are
    (few_placed _ _ _ _ _ _ put.stand)

pub invariant_of-self : goal.invariant_of-self
invariant_of-self c =
    let put = c.store_all.ensures.stored c.self.inside.room c.self.inside.ranking c.self.inside.marks c.self.invariant.0 in (
      ranked_at_once _ _ _ _ _ _ _ _ _ _ _ _ _ _ _ put c.put_all.ensures c.put_all-2.ensures,
      omega (arith, c.store_all.ensures.turns_capacity, c.self.invariant.1),
      omega (arith, c.store_all.ensures.free_capacity, c.self.invariant.2),
      c.store_all.ensures.ranks_same ∙ ap (λ (r : RankingValue). r.room) c.clear.ensures ∙ c.self.invariant.3,
      c.store_all.ensures.marks_same ∙ ap (λ (r : RankingValue). r.room) c.clear-2.ensures ∙ c.self.invariant.4,
    )

pub returns-clause-rows : goal.returns-clause-rows
returns-clause-rows c =
    let put = c.store_all.ensures.stored c.self.inside.room c.self.inside.ranking c.self.inside.marks c.self.invariant.0 in
    subst (λ (v : ScrubsValue). AreInstalled v.room c.args.place c.args.own.items v.placed (gathered c.store_all.new.rows.items c.store_all.new.turns.items)) c.self.view_is put.installed
