use Rattle.std.proofs.Common.{◌≡◌, ◌++◌, take, flat_map}
use Rattle.dots_script.specs.Summary.{prefixes_line}
use Rattle.dots_script.proofs.summary.add_prefixes.Given as goal

abbrev pub invariant-loop-domain : goal.invariant-loop-domain
invariant-loop-domain l = record { added : l.text.items ≡ l.fn.text.items ++ flat_map prefixes_line (take l.domain l.settings.domains) }
