use Rattle.std.proofs.Common.{◌≡◌, List, Option, map, filter, ap, sym, subst, ◌∙◌}
use Rattle.std.specs.List.{AllByRecursion}
use Rattle.acl_lists.specs.declared.rows.ScrubRow.{ScrubRow}
use Rattle.acl_lists.specs.Fates.{scrubbing_mid}
use Rattle.filter_table.specs.declared.rank.Rank.{Rank}
use Rattle.filter_table.specs.Ranks.{slot_of}
use Rattle.filter_table.specs.Covers.{covers, IsShort, CoveringValue}
use Rattle.filter_table.specs.TableRows.{ScrubsValue, row_of_scrub}
use Rattle.filter_table.specs.Rows.{gathered}
use Rattle.filter_table.specs.Best.{best, mid_in}
use Rattle.filter_table.proofs.Gathered.{are_stored}
use Rattle.filter_table.proofs.Bests.{best_is, ranks_short}
use Rattle.filter_table.proofs.scrubs.Scrubs.greatest_mid.Goals as goal

pub covering-covering-requires : goal.covering-covering-requires
covering-covering-requires c =
    subst (AllByRecursion IsShort) (sym c.self.invariant.0.ranks_are.in_order)
    (ranks_short c.self.inside.rows.items (gathered c.self.inside.rows.items c.self.inside.turns.items) (are_stored c.self.inside.rows.items c.self.inside.turns.items c.self.invariant.0.tied))

pub returns : goal.returns
returns c =
    c.greatest_covered.ensures
    ∙ ap (λ (v : CoveringValue). best (mid_in c.args.packet.now c.as_slice.result.now) v.slots) c.covering-covering.ensures
    ∙ ap (λ (rs : List (Option ScrubRow)). best (mid_in c.args.packet.now rs) (map slot_of (filter (covers c.args.packet.now.destination.family c.args.packet.now.destination.number) c.self.inside.ranking.ranks))) c.as_slice.ensures.value
    ∙ ap (λ (ranks : List Rank). best (mid_in c.args.packet.now c.self.inside.rows.items) (map slot_of (filter (covers c.args.packet.now.destination.family c.args.packet.now.destination.number) ranks))) c.self.invariant.0.ranks_are.in_order
    ∙ best_is c.args.packet.now c.self.inside.rows.items (gathered c.self.inside.rows.items c.self.inside.turns.items)
    (are_stored c.self.inside.rows.items c.self.inside.turns.items c.self.invariant.0.tied)
    ∙ ap (λ (v : ScrubsValue). scrubbing_mid c.args.packet.now (map row_of_scrub v.placed)) c.self.view_is
