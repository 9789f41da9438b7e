use Rattle.std.proofs.Common.{sym, subst}
use Rattle.slot_store.specs.Gates.{Sees}
use Rattle.dots_run.specs.Leaving.{CrashLeaves}
use Rattle.dots_run.proofs.Leaving.{opens, goes_on, is_ready}
use Rattle.dots_run.proofs.again.run_again.Goals as goal

pub returns-clause-goes_on : goal.returns-clause-goes_on
returns-clause-goes_on g c = λ settings before now first is_before is_now seen sees rests xs ys old new m image left there then after second is_then.
    goes_on settings before now first seen sees rests xs ys old new m image
    (subst (λ media. CrashLeaves m media now.media image) (sym is_before) (subst (λ media. CrashLeaves m (g.H.Disk.media c.args.host.now) media image) (sym is_now) left))
    then after second (subst (λ media. Sees media image) (sym is_then) there)

pub returns-clause-opens : goal.returns-clause-opens
returns-clause-opens g c = λ settings fault before now first is_before is_now seen entries rests holds m image left there then after second is_then.
    opens settings fault before now first seen entries rests holds m image
    (subst (λ media. CrashLeaves m media now.media image) (sym is_before) (subst (λ media. CrashLeaves m (g.H.Disk.media c.args.host.now) media image) (sym is_now) left))
    then after second (subst (λ media. Sees media image) (sym is_then) there)

pub returns-clause-well : goal.returns-clause-well
returns-clause-well g c = λ settings before now first is_before is_now seen sees rests xs ys old new m image left there gives same large replay read came kept written.
    c.run-second.ensures.complete replay
    (is_ready settings before now first seen sees rests xs ys old new m image
    (subst (λ media. CrashLeaves m media now.media image) (sym is_before) (subst (λ media. CrashLeaves m (g.H.Disk.media c.args.host.now) media image) (sym is_now) left))
    (g.T.Source.left c.args.again.now) (g.G.Disk.media c.args.other.now) (g.G.Disk.extent c.args.other.now) gives same there large)
    read came kept written
