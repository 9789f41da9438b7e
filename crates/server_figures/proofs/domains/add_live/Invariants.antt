use Rattle.std.proofs.Common.{◌≡◌, ◌++◌, List, codes}
use Rattle.dots_settings.specs.Lookups.{name_of}
use Rattle.dots_history.specs.declared.entry.Entry.{Entry}
use Rattle.dots_registry.specs.RegistryValues.{Represents, time_of}
use Rattle.server_figures.specs.Lines.{labelled_line, lines_from, spelled}
use Rattle.server_figures.specs.Figures.{live_in}
use Rattle.server_figures.proofs.domains.add_live.Given as goal

abbrev pub invariant-loop-domain : goal.invariant-loop-domain
invariant-loop-domain l = record {
  added : (history : List Entry) → Represents l.registry history → l.text.items ≡ l.fn.text.items
      ++ lines_from (λ domain. labelled_line (codes "dots_mitigations") (codes "domain") (spelled (name_of l.settings domain)) (live_in (time_of l.registry) history domain)) 0 l.domain;
}
