use Rattle.std.proofs.Common.{ap, ◌∙◌}
use Rattle.std.proofs.lemmas.List.Elements.{All-same}
use Rattle.filter_table.specs.Table.{TableValue, slots_of}
use Rattle.filter_table.proofs.There.{HasRow, slots_there}
use Rattle.filter_table.proofs.table.FilterTable.slots_of.Goals as goal

pub returns-clause-there : goal.returns-clause-there
returns-clause-there c =
    All-same (HasRow c.args.self.now.scrubs) _ (slots_of c.args.family c.args.length c.args.self.now.scrubs)
    (c.slots_of.ensures ∙ ap (λ (t : TableValue). slots_of c.args.family c.args.length t.scrubs) c.self.view_is)
    (slots_there c.args.family c.args.length c.args.self.now.scrubs)
