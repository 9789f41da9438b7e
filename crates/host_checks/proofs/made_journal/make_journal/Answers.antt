use Rattle.std.specs.Prelude.{Some}
use Rattle.dots_host.specs.Stored.{media_of}
use Rattle.host_checks.proofs.MadeOf.{made_from}
use Rattle.host_checks.proofs.made_journal.make_journal.Goals as goal

pub returns-in-Ok-fill-clause-from : goal.returns-in-Ok-fill-clause-from
returns-in-Ok-fill-clause-from g c = λ seen sees.
    made_from
    c.args.old.now
    c.args.new.now
    c.args.now
    seen
    c.in-Ok.list.items
    (Some (media_of c.fill.new.disk))
    c.in-Ok-fill.text.items
    (c.in-Ok.ensures.counting seen sees)
    c.in-Ok-fill.ensures.filled
