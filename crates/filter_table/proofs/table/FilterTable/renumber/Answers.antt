use Rattle.std.proofs.Common.{arith, ◌≡◌, ◌<◌, List, length, ap, sym, subst, refl, ◌∙◌}
use Rattle.std.specs.List.{AllByRecursion}
use Rattle.filter_table.specs.declared.placed.PlacedAcl.{PlacedAcl}
use Rattle.filter_table.specs.TableRows.{PlacedScrub, ScrubsValue, AclsValue, place_of_scrub, scrub_at_place, place_of_acl, acl_at_place}
use Rattle.filter_table.specs.Table.{TableValue}
use Rattle.filter_table.proofs.Places.{places_below, length-renumbered}
use Rattle.filter_table.proofs.table.FilterTable.renumber.Goals as goal

pub returns-clause-above_scrubs : goal.returns-clause-above_scrubs
returns-clause-above_scrubs c =
    let rows = ap (λ (s : ScrubsValue). s.placed) c.renumber.ensures in
    let number : c.len-scrubs.result ≡ length c.self.inside.scrubs.placed = c.len-scrubs.ensures ∙ ap length rows ∙ length-renumbered place_of_scrub scrub_at_place _ in
    subst (λ (xs : List PlacedScrub). AllByRecursion (λ x. x.place < c.max.result) xs) (sym rows)
    (places_below place_of_scrub scrub_at_place (λ n x. refl) c.self.inside.scrubs.placed c.max.result (omega (arith, number, c.max.ensures)))

pub returns-clause-above_acls : goal.returns-clause-above_acls
returns-clause-above_acls c =
    let rows = ap (λ (s : AclsValue). s.placed) c.renumber-2.ensures in
    let number : length c.placed-acls.result.now ≡ length c.self.inside.acls.placed = ap length (c.placed-acls.ensures ∙ rows) ∙ length-renumbered place_of_acl acl_at_place _ in
    subst (λ (xs : List PlacedAcl). AllByRecursion (λ x. x.place < c.max.result) xs) (sym rows)
    (places_below place_of_acl acl_at_place (λ n x. refl) c.self.inside.acls.placed c.max.result (omega (arith, number, c.max.ensures)))

pub returns-clause-most : goal.returns-clause-most
returns-clause-most c =
    let scrubs : c.len-scrubs.result ≡ length c.self.inside.scrubs.placed =
    c.len-scrubs.ensures ∙ ap (λ (s : ScrubsValue). length s.placed) c.renumber.ensures ∙ length-renumbered place_of_scrub scrub_at_place _ in
    let acls : length c.placed-acls.result.now ≡ length c.self.inside.acls.placed =
    ap length (c.placed-acls.ensures ∙ ap (λ (s : AclsValue). s.placed) c.renumber-2.ensures) ∙ length-renumbered place_of_acl acl_at_place _ in
    let first : length c.self.inside.scrubs.placed ≡ length c.args.self.now.scrubs = ap (λ (t : TableValue). length t.scrubs) c.self.view_is in
    let second : length c.self.inside.acls.placed ≡ length c.args.self.now.acls = ap (λ (t : TableValue). length t.acls) c.self.view_is in
    omega (arith, scrubs, acls, first, second, c.max.ensures)
