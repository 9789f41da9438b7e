use Rattle.std.proofs.Common.{◌-◌, take, drop, length, arith}
use Rattle.slot_journal.proofs.Crashing.{on_ok_as}
use Rattle.host_checks.proofs.WholeImages.{begins, leaves_whole, rests_whole}
use Rattle.host_checks.proofs.whole_image.write_whole.Goals as goal

pub returns-in-len1-up-clause-moments : goal.returns-in-len1-up-clause-moments
returns-in-len1-up-clause-moments g c =
    let some = c.in-len1-up.len_at_least in
    leaves_whole
    (g.D.Disk.media c.args.disk.now)
    (g.D.Disk.media c.open_front.new.disk)
    c.args.image.now
    (take (length c.args.image.now - 1) (drop 1 c.args.image.now))
    (begins c.args.image.now (omega (arith, some)) c.if-gate.true)
    c.open_front.ensures.moments

pub returns-in-len1-up-clause-written : goal.returns-in-len1-up-clause-written
returns-in-len1-up-clause-written g c =
    let some = c.in-len1-up.len_at_least in
    on_ok_as
    c.open_front.result
    (λ opened gate.
    rests_whole
    (g.D.Disk.media c.args.disk.now)
    (g.D.Disk.media c.open_front.new.disk)
    c.args.image.now
    (take (length c.args.image.now - 1) (drop 1 c.args.image.now))
    (begins c.args.image.now (omega (arith, some)) c.if-gate.true)
    opened)
    c.open_front.ensures.opened
