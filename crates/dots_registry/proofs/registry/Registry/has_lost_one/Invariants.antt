-- in no domain before this one the peer has a mitigation while its signal is lost there
use Rattle.std.proofs.Common.{List}
use Rattle.dots_history.specs.declared.entry.Entry.{Entry}
use Rattle.dots_history.specs.Histories.{mitigations, held}
use Rattle.dots_registry.specs.RegistryValues.{Represents, time_of}
use Rattle.dots_registry.proofs.Mitigating.{NoneIn}
use Rattle.dots_registry.proofs.registry.Registry.has_lost_one.Given as goal

abbrev pub invariant-loop-domain : goal.invariant-loop-domain
invariant-loop-domain l =
    (entries : List Entry) → Represents l.fn.self entries → NoneIn (held entries) l.fn.peer l.domain (mitigations (time_of l.fn.self) entries)
