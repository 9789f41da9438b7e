use Rattle.std.proofs.Common.{Ok, sym, ap, ◌∙◌}
use Rattle.serde_json.specs.View.{view, items_view}
use Rattle.list_json.specs.declared.fault.Member.TheVariants as the
use Rattle.list_json.specs.Lists.{entry_of}
use Rattle.list_json.specs.Steps.{items_in}
use Rattle.list_json.proofs.Arrays.{one_more, few_read, not_read, all_read, fails_read}
use Rattle.list_json.proofs.list_reading.own_entries.Goals as goal
use Rattle.acl_lists.specs.declared.limits.TheConstants.{MAX_ACES}

pub returns-in_default : goal.returns-in_default
returns-in_default c = ap (items_in the.Ace MAX_ACES (entry_of c.args.family)) (sym c.in_default.ensures) ∙ ap Ok (sym c.new.ensures)

pub returns-in_default-few_items : goal.returns-in_default-few_items
returns-in_default-few_items c = not_read the.Ace MAX_ACES (entry_of c.args.family) (view c.in-Some.value.now) c.in-Some.ensures c.in_default-few_items.ensures

pub loop-item-preserved : goal.loop-item-preserved
loop-item-preserved c = rw c.in_ok-push-in-Ok.ensures.ok (one_more (entry_of c.args.family) _ c.loop-item.item-index c.item-item.result c.loop-item.entries _ c.loop-item-test.true c.item-item.is c.in-Ok.ensures c.loop-item.invariant)

pub returns-in-Err : goal.returns-in-Err
returns-in-Err c =
    let read = entry_of c.args.family in
    rw (few_read the.Ace MAX_ACES read (view c.in-Some.value.now) (items_view c.in-Some-few_items.items.now) c.in-Some.ensures c.in-Some-few_items.ensures)
    (fails_read read c.in-Some-few_items.items.now c.loop-item.item-index c.item-item.result c.loop-item.entries c.in-Err.fault c.loop-item-test.true c.item-item.is c.in-Err.ensures c.loop-item.invariant)

pub returns : goal.returns
returns c =
    let read = entry_of c.args.family in
    few_read the.Ace MAX_ACES read (view c.in-Some.value.now) (items_view c.in-Some-few_items.items.now) c.in-Some.ensures c.in-Some-few_items.ensures
    ∙ all_read read c.in-Some-few_items.items.now c.loop-item.item-index c.loop-item.entries c.loop-item-test.false c.loop-item.invariant
