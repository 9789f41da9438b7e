use Rattle.std.proofs.Common.{[], ◌∙◌, ap, add-one, take_all, filter, flat_map}
use Rattle.ip_scope.specs.Family.{same_family}
use Rattle.ip_scope.specs.Prefix.{PrefixValue}
use Rattle.dots_machine.specs.Report.{acl_line}
use Rattle.dots_server.specs.Lines.{only_where}
use Rattle.dots_server.proofs.Puts.{puts_same, puts_more}
use Rattle.dots_server.proofs.ReportTexts.{tested}
use Rattle.dots_server.proofs.report.lists.put_for_domain.Goals as goal

pub loop-prefix-preserved : goal.loop-prefix-preserved
loop-prefix-preserved g c =
    let i = c.loop-prefix.prefix-index in
    let text = λ (prefix : PrefixValue). only_where (same_family prefix.family c.args.row.now.acl.family) (acl_line c.args.settings.now c.args.row.now c.args.ace.now prefix) in
    rw (add-one i) (
    puts_more text _ _ _ _ _ _ [] c.prefixes_of-prefix-items.result.now i c.prefix-item.result (text c.prefix-item.result) c.loop-prefix-test.true (ap text c.prefix-item.is) c.loop-prefix.invariant c.put_of_family.ensures
    )

pub returns : goal.returns
returns g c =
    let line = acl_line c.args.settings.now c.args.row.now c.args.ace.now in
    let test = λ (prefix : PrefixValue). same_family prefix.family c.args.row.now.acl.family in
    let all = rw (take_all c.loop-prefix.prefix-index c.prefixes_of-prefix-items.result.now c.loop-prefix-test.false) at c.loop-prefix.invariant in
    puts_same _ _ _ _ _ _ (tested line test c.prefixes_of-prefix-items.result.now ∙ ap (λ prefixes. flat_map line (filter test prefixes)) c.prefixes_of-prefix-items.ensures.value) all
