use Rattle.std.proofs.Common.{[], ◌++◌, take, flat_map}
use Rattle.ip_scope.specs.Family.{same_family}
use Rattle.ip_scope.specs.Prefix.{PrefixValue}
use Rattle.dots_machine.specs.Report.{acl_line}
use Rattle.dots_server.specs.Gathering.{sunk, Puts}
use Rattle.dots_server.specs.Lines.{only_where}
use Rattle.dots_server.proofs.report.lists.put_for_domain.Given as goal

abbrev pub invariant-loop-prefix : goal.invariant-loop-prefix
invariant-loop-prefix g l = Puts (sunk g.K.Sink.holds g.K.Sink.faults l.fn.sink) l.fn.report (sunk g.K.Sink.holds g.K.Sink.faults l.sink) l.report
    ([] ++ flat_map (λ (prefix : PrefixValue). only_where (same_family prefix.family l.fn.row.acl.family) (acl_line l.fn.settings l.fn.row l.fn.ace prefix)) (take l.prefix-index l.prefix-items))
