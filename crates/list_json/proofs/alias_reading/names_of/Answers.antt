use Rattle.std.proofs.Common.{Ok, sym, ap, ◌∙◌}
use Rattle.serde_json.specs.View.{view, items_view}
use Rattle.list_json.specs.declared.fault.Member.TheVariants as the
use Rattle.list_json.specs.Values.{name_of}
use Rattle.list_json.specs.Found.{found}
use Rattle.list_json.specs.Steps.{items_in}
use Rattle.list_json.proofs.Arrays.{one_more, few_read, not_read, all_read, fails_read}
use Rattle.list_json.proofs.alias_reading.names_of.Goals as goal
use Rattle.acl_lists.specs.declared.limits.TheConstants.{MAX_NAMES}

pub returns-in_default : goal.returns-in_default
returns-in_default c = ap (items_in the.TargetFqdn MAX_NAMES (name_of the.TargetFqdn)) (ap found c.in_default.is) ∙ ap Ok (sym c.new.ensures)

pub returns-in_default-few_items : goal.returns-in_default-few_items
returns-in_default-few_items c = not_read the.TargetFqdn MAX_NAMES (name_of the.TargetFqdn) (view c.in-Some.value.now) (sym (ap found c.in-Some.is)) c.in_default-few_items.ensures

pub loop-item-preserved : goal.loop-item-preserved
loop-item-preserved c = rw c.in_ok-push-in-Ok.ensures.ok (one_more (name_of the.TargetFqdn) _ c.loop-item.item-index c.item-item.result c.loop-item.names _ c.loop-item-test.true c.item-item.is c.in-Ok.ensures c.loop-item.invariant)

pub returns-in-Err : goal.returns-in-Err
returns-in-Err c =
    rw (few_read the.TargetFqdn MAX_NAMES (name_of the.TargetFqdn) (view c.in-Some.value.now) (items_view c.in-Some-few_items.items.now) (sym (ap found c.in-Some.is)) c.in-Some-few_items.ensures)
    (fails_read (name_of the.TargetFqdn) c.in-Some-few_items.items.now c.loop-item.item-index c.item-item.result c.loop-item.names c.in-Err.fault c.loop-item-test.true c.item-item.is c.in-Err.ensures c.loop-item.invariant)

pub returns : goal.returns
returns c =
    few_read the.TargetFqdn MAX_NAMES (name_of the.TargetFqdn) (view c.in-Some.value.now) (items_view c.in-Some-few_items.items.now) (sym (ap found c.in-Some.is)) c.in-Some-few_items.ensures
    ∙ all_read (name_of the.TargetFqdn) c.in-Some-few_items.items.now c.loop-item.item-index c.loop-item.names c.loop-item-test.false c.loop-item.invariant
