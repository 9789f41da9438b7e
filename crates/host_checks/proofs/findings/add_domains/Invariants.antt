use Rattle.std.proofs.Common.{◌≡◌, ◌++◌, take}
use Rattle.std.specs.List.{flat_map}
use Rattle.host_checks.specs.Findings.{whole_family}
use Rattle.host_checks.proofs.findings.add_domains.Given as goal

abbrev pub invariant-loop-domain : goal.invariant-loop-domain
invariant-loop-domain l = record { added : l.text.items ≡ l.fn.text.items ++ flat_map whole_family (take l.domain l.settings.domains) }
