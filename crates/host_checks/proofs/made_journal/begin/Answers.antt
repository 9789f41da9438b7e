use Rattle.std.specs.Prelude.{Some}
use Rattle.dots_host.specs.Stored.{media_of}
use Rattle.host_checks.proofs.Ledgers.{begun_blank}
use Rattle.host_checks.proofs.made_journal.begin.Goals as goal

pub returns-in-Ok-clause-begun : goal.returns-in-Ok-clause-begun
returns-in-Ok-clause-begun c = begun_blank c.args.new.now (media_of c.args.disk.now) (Some (media_of c.begin.new.disk)) c.in-Ok.ledger c.requires c.in-Ok.ensures.recovered
