use Rattle.std.proofs.Common.{◌≡◌, List, map, subst}
use Rattle.dots_history.specs.Filed.{Filed, slot_of}
use Rattle.dots_history.specs.Slots.{Rises}
use Rattle.dots_registry.specs.Filed.{RepresentsFiled}
use Rattle.dots_registry.specs.Kept.{named_slots}
use Rattle.dots_registry.specs.RegistryValues.{RegistryValue, time_of, number_remembered}
use Rattle.host_checks.proofs.MadeOf.{named_of}
use Rattle.host_checks.proofs.made_journal.read_slots.Goals as goal

pub returns-clause-named : goal.returns-clause-named
returns-clause-named g c =
    named_of
    c.args.old.now
    c.args.now
    (g.D.Disk.media c.args.disk.now)
    (g.D.Disk.media c.begin.new.disk)
    c.in_ok-ledger.ledger
    c.kept.new.into.items
    c.in_ok-ledger.ensures.recovered
    (subst
    (λ (r : RegistryValue). (all : List Filed) → RepresentsFiled r all → Rises (map slot_of all) → c.kept.new.into.items ≡ named_slots (number_remembered r) (time_of r) all)
    c.registry.ensures
    c.kept.ensures.kept)
