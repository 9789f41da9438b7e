use Rattle.std.proofs.Common.{arith}
use Rattle.installed_filters.proofs.Steps.{drop_step, drop_end}
use Rattle.installed_filters.proofs.filters.InstalledFilters.drop_all.Goals as goal

pub loop-acl-preserved : goal.loop-acl-preserved
loop-acl-preserved c =
    drop_step
    c.args.domain
    c.args.cuid.now
    c.loop-acl.acl-index
    c.args.acls.now
    _
    c.loop-acl.self
    c.drop_acl.new.self
    _
    c.loop-acl-test.true
    c.acl-item.is
    c.drop_acl.ensures
    c.loop-acl.invariant

pub returns : goal.returns
returns c =
    drop_end c.args.domain c.args.cuid.now c.loop-acl.acl-index c.args.acls.now c.loop-acl.self _ (omega (arith, c.loop-acl-test.false)) c.loop-acl.invariant
