use Rattle.std.proofs.Common.{arith, ◌++◌, List, length, ap, ◌∙◌}
use Rattle.std.proofs.lemmas.List.{length-map}
use Rattle.filter_table.specs.TableRows.{row_set}
use Rattle.acl_lists.specs.declared.rows.ScrubRow.{ScrubRow}
use Rattle.installed_filters.specs.Filters.{with_rows}
use Rattle.installed_filters.proofs.filters.InstalledFilters.install_all.Goals as goal

pub install_rows-requires : goal.install_rows-requires
install_rows-requires c = omega (arith, ap length c.set_active.ensures, length-map c.args.own.items (row_set c.args.active), c.requires)

pub returns : goal.returns
returns c =
    c.install_rows.ensures ∙ ap (λ (rows : List ScrubRow). with_rows c.args.self.now (c.args.self.now.scrubs ++ rows) c.args.self.now.acls) c.set_active.ensures
