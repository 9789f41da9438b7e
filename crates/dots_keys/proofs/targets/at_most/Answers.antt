use Rattle.std.proofs.Common.{sym, ap, ◌∙◌, arith, ◌<◌, ◌≤◌, nat_le, Option}
use Rattle.std.proofs.lemmas.Bool.{cond-true, cond-false, le-leb, lt-leb}
use Rattle.cbor_profile.specs.Tree.{Trees, count}
use Rattle.dots_keys.specs.FieldValues.{items_seen}
use Rattle.dots_keys.specs.Mitigations.{at_most}
use Rattle.dots_keys.proofs.Arrays.{count_seen}
use Rattle.dots_keys.proofs.targets.at_most.Goals as goal

pub returns-then-items-most : goal.returns-then-items-most
returns-then-items-most c =
    let xs = c.in-Some.items.now in
    let many : c.args.most < count (items_seen xs) = omega (arith, count_seen xs, c.if-items-most.true) in
    sym (ap (λ (o : Option Trees). at_most c.args.most o) (sym c.in-Some.ensures) ∙ cond-false (nat_le (count (items_seen xs)) c.args.most) _ _ (lt-leb _ _ many))

pub returns : goal.returns
returns c =
    let xs = c.in-Some.items.now in
    let few : count (items_seen xs) ≤ c.args.most = omega (arith, count_seen xs, c.if-items-most.false) in
    sym (ap (λ (o : Option Trees). at_most c.args.most o) (sym c.in-Some.ensures) ∙ cond-true (nat_le (count (items_seen xs)) c.args.most) _ _ (le-leb _ _ few))
