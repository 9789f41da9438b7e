use Rattle.std.proofs.Common.{subst}
use Rattle.filter_table.specs.TableRows.{AreInstalled}
use Rattle.filter_table.specs.Table.{TableValue}
use Rattle.filter_table.proofs.table.FilterTable.install_all.Goals as goal

pub returns-clause-rows : goal.returns-clause-rows
returns-clause-rows c =
    subst (λ (t : TableValue). AreInstalled t.scrub_room c.args.place c.args.rows.items t.scrubs c.install_all.new.self.placed) c.self.view_is c.install_all.ensures.rows
