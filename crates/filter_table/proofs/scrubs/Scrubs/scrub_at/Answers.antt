use Rattle.std.proofs.Common.{◌≡◌, None, IsSome, option_map, List, Option, ap, sym, subst, ◌∙◌}
use Rattle.acl_lists.specs.declared.rows.ScrubRow.{ScrubRow}
use Rattle.filter_table.specs.TableRows.{ScrubsValue, scrub_in, row_of_scrub}
use Rattle.filter_table.specs.Rows.{in_slot, gathered}
use Rattle.filter_table.proofs.Gathered.{scrub_here, some_mapped}
use Rattle.filter_table.proofs.scrubs.Scrubs.scrub_at.Goals as goal

pub unreachable-requires : goal.unreachable-requires
unreachable-requires c =
    let there : IsSome (scrub_in c.args.slot (gathered c.self.inside.rows.items c.self.inside.turns.items)) =
    subst (λ (v : ScrubsValue). IsSome (scrub_in c.args.slot v.placed)) (sym c.self.view_is) c.requires in
    let none : in_slot c.self.inside.rows.items c.args.slot ≡ None = ap (λ (rs : List (Option ScrubRow)). in_slot rs c.args.slot) (sym c.as_slice.ensures.value) ∙ sym c.in-None.ensures in
    some_mapped (scrub_in c.args.slot (gathered c.self.inside.rows.items c.self.inside.turns.items)) there
    (scrub_here c.self.inside.rows.items c.self.inside.turns.items c.args.slot c.self.invariant.0.tied there ∙ none)

pub returns : goal.returns
returns c =
    let there : IsSome (scrub_in c.args.slot (gathered c.self.inside.rows.items c.self.inside.turns.items)) =
    subst (λ (v : ScrubsValue). IsSome (scrub_in c.args.slot v.placed)) (sym c.self.view_is) c.requires in
    ap (λ (v : ScrubsValue). option_map row_of_scrub (scrub_in c.args.slot v.placed)) (sym c.self.view_is)
    ∙ scrub_here c.self.inside.rows.items c.self.inside.turns.items c.args.slot c.self.invariant.0.tied there
    ∙ ap (λ (rs : List (Option ScrubRow)). in_slot rs c.args.slot) (sym c.as_slice.ensures.value) ∙ sym c.in-Some.ensures
