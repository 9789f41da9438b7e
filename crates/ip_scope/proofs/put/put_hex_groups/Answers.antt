use Rattle.std.proofs.Common.{ap, arith}
use Rattle.ip_scope.proofs.Putting.{Puts-then, Puts-as, hex_groups_text-short, hex_groups_text-long}
use Rattle.ip_scope.proofs.put.put_hex_groups.Goals as goal

pub returns-then-len-lt2-clause-text : goal.returns-then-len-lt2-clause-text
returns-then-len-lt2-clause-text c =
    let e = c.longest_zero_run-start.ensures.value in
    Puts-as _ _ _ _ _ _ (hex_groups_text-short c.args.groups.now _ (ap (λ run. run.1) e) c.if-len-lt2.true) c.put_groups.ensures.text

pub returns-clause-text : goal.returns-clause-text
returns-clause-text c =
    let first = Puts-then _ _ _ _ _ _ _ _ c.put_groups-end.ensures.text c.put_all-end.ensures in
    let all = Puts-then _ _ _ _ _ _ _ _ first c.put_groups-2.ensures.text in
    Puts-as _ _ _ _ _ _ (hex_groups_text-long c.args.groups.now _ c.longest_zero_run-start.ensures.value (omega arith)) all
