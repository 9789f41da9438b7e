use Rattle.std.proofs.Common.{sym, ap, ◌∙◌, arith, ◌<◌, ◌≤◌, nat_le, Option, Some, option_and_then}
use Rattle.std.proofs.lemmas.Bool.{cond-true, cond-false, le-leb, lt-leb}
use Rattle.serde_json.specs.Data.{Items}
use Rattle.serde_json.specs.Events.{items_len}
use Rattle.serde_json.specs.View.{items_view}
use Rattle.serde_json.proofs.Views.{items_len-items_view}
use Rattle.list_json.specs.Steps.{at_most}
use Rattle.list_json.proofs.values.few_items.Goals as goal

pub returns-then-len-most : goal.returns-then-len-most
returns-then-len-most c =
    let xs = c.in-Some.items.now.items in
    let many : c.args.most < items_len (items_view xs) = omega (arith, items_len-items_view xs, c.if-len-most.true) in
    sym (ap (λ (o : Option Items). option_and_then (at_most c.args.most) o) (sym c.in-Some.ensures) ∙ cond-false (nat_le (items_len (items_view xs)) c.args.most) _ _ (lt-leb _ _ many))

pub returns : goal.returns
returns c =
    let xs = c.in-Some.items.now.items in
    let few : items_len (items_view xs) ≤ c.args.most = omega (arith, items_len-items_view xs, c.if-len-most.false) in
    ap (λ vs. Some (items_view vs)) c.as_slice.ensures.value
    ∙ sym (ap (λ (o : Option Items). option_and_then (at_most c.args.most) o) (sym c.in-Some.ensures) ∙ cond-true (nat_le (items_len (items_view xs)) c.args.most) _ _ (le-leb _ _ few))
