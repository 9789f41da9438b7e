use Rattle.std.proofs.Common.{◌≡◌, ℕ, List, [], map, filter, take, drop, ap, sym, subst, ◌∙◌, Option}
use Rattle.std.specs.List.{AllByRecursion}
use Rattle.std.specs.Option.{IfNone}
use Rattle.filter_table.specs.declared.rank.Rank.{Rank}
use Rattle.filter_table.specs.Ranks.{slot_of}
use Rattle.filter_table.specs.RankLaws.{AreRanked}
use Rattle.filter_table.specs.Covers.{covers, IsShort, CoveringValue}
use Rattle.filter_table.proofs.Each.{each_take, each_drop, none_there}
use Rattle.filter_table.proofs.Ranked.{ranked_front}
use Rattle.filter_table.proofs.Counting.{no_levels}
use Rattle.filter_table.proofs.Runs.{OfKind, FirstLevel, first_level}
use Rattle.filter_table.proofs.BesideRanks.{beside_behind}
use Rattle.filter_table.proofs.covering.Covering.next.Goals as goal

pub returns-in_err-level-clause-none : goal.returns-in_err-level-clause-none
returns-in_err-level-clause-none c =
    let none : c.self.inside.ranks.now ≡ [] = no_levels c.self.inside.ranks.now (sym c.self.invariant.0.levels_are ∙ none_there c.self.inside.levels.now c.in_err-level.ensures.cases) in
    let slots : c.args.self.now.slots ≡ [] =
    ap (λ (v : CoveringValue). v.slots) (sym c.self.view_is)
    ∙ ap (λ (rs : List Rank). map slot_of (filter (covers c.self.inside.address.family c.self.inside.address.number) rs)) none in
    rw c.from_residual.ensures slots

pub split_at-requires : goal.split_at-requires
split_at-requires c =
    (first_level c.self.inside.ranks.now c.in_ok-level.level.now c.in_ok-level.levels.now (sym c.self.invariant.0.levels_are ∙ c.in_ok-level.ensures.cases.0)).within

pub slots_covering-requires-clause-in_order : goal.slots_covering-requires-clause-in_order
slots_covering-requires-clause-in_order c =
    subst AreRanked (sym c.split_at.ensures.front) (ranked_front c.in_ok-level.level.now.len c.self.inside.ranks.now c.self.invariant.0.in_order)

pub slots_covering-requires-clause-of_kind : goal.slots_covering-requires-clause-of_kind
slots_covering-requires-clause-of_kind c =
    subst (OfKind c.in_ok-level.level.now.kind) (sym c.split_at.ensures.front)
    (first_level c.self.inside.ranks.now c.in_ok-level.level.now c.in_ok-level.levels.now (sym c.self.invariant.0.levels_are ∙ c.in_ok-level.ensures.cases.0)).of_kind

pub invariant_of-self : goal.invariant_of-self
invariant_of-self c =
    let first : FirstLevel c.in_ok-level.level.now c.in_ok-level.levels.now c.self.inside.ranks.now =
    first_level c.self.inside.ranks.now c.in_ok-level.level.now c.in_ok-level.levels.now (sym c.self.invariant.0.levels_are ∙ c.in_ok-level.ensures.cases.0) in (
      beside_behind _ _ _ _ _ _ _ c.in_ok-level.level.now c.in_ok-level.levels.now c.self.invariant.0 first c.split_at.ensures.back c.split_at-2.ensures.back c.split_at-3.ensures.back,
      subst (AllByRecursion IsShort) (sym c.split_at.ensures.back) (each_drop IsShort c.in_ok-level.level.now.len c.self.inside.ranks.now c.self.invariant.1),
      c.self.invariant.2,
    )
