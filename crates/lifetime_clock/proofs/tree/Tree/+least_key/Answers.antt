use Rattle.std.proofs.Common.{◌≡◌, ◌≢◌, ◌∷◌, ◌<◌, ◌^◌, ℕ, length, ap, subst, arith, length-append, rules}
use Rattle.lifetime_clock.specs.declared.tree.Branch.{Branch}
use Rattle.lifetime_clock.specs.Tree.{least_time, entry_of, Has}
use Rattle.lifetime_clock.proofs.Least.{at_root, least_right, Has-right}
use Rattle.lifetime_clock.proofs.tree.Tree.+least_key.Goals as goal
use Rattle.lifetime_clock.proofs.tree.Tree.+least_key.Goals.{After-deref-else-least-deref}

-- the least time is on the right where it is neither at the root nor on the left
right_least : (t : ℕ) (c : After-deref-else-least-deref t)
    → (least_time c.deref-else-least-deref.result.now.right ≡ least_time c.args.self.now) × (0 < length c.deref-else-least-deref.result.now.right)
right_least t c =
    let root = at_root c.self.view_is c.self.invariant c.in-Some.is in
    let branch = c.in-Some.branch.value in
    let small : branch.at < 2 ^ 64 = search rules in
    let at = ap (λ (b : Branch). b.at) c.deref.ensures in
    let least = ap (λ (b : Branch). b.least) c.deref-in-Some.ensures in
    let not_root : branch.at ≢ least_time c.args.self.now = λ same. c.if-deref.false (omega (arith, same, at, least, root.1)) in
    let left = ap (λ (b : Branch). least_time b.left) c.deref-else-deref.ensures in
    let least_again = ap (λ (b : Branch). b.least) c.deref-else-deref-2.ensures in
    let not_left : least_time branch.left ≢ least_time c.args.self.now = λ same. c.if-least-deref.false (omega (arith, c.least.ensures, same, left, least_again, root.1)) in
    rw c.deref-else-least-deref.ensures (least_right c.args.self.now branch.left branch.key branch.at branch.right root.0 small not_root not_left)

pub least_key-requires-else-least-deref : goal.least_key-requires-else-least-deref
least_key-requires-else-least-deref t c =
    let root = at_root c.self.view_is c.self.invariant c.in-Some.is in
    let branch = c.in-Some.branch.value in
    (omega (arith, ap length root.0, length-append branch.left (entry_of branch ∷ branch.right), ap (λ (b : Branch). length b.right) c.deref-else-least-deref.ensures), (right_least t c).1)

pub returns-else-least-deref : goal.returns-else-least-deref
returns-else-least-deref t c =
    let root = at_root c.self.view_is c.self.invariant c.in-Some.is in
    let branch = c.in-Some.branch.value in
    let key = c.least_key-else-least-deref.result in
    let found : Has c.deref-else-least-deref.result.now.right key (least_time c.args.self.now) =
    subst (λ time. Has c.deref-else-least-deref.result.now.right key time) (right_least t (goal.at.returns-else-least-deref t c).After-deref-else-least-deref).0 c.least_key-else-least-deref.ensures in
    Has-right c.args.self.now branch.left (entry_of branch) branch.right key _ root.0
    (subst (λ (b : Branch). Has b.right key (least_time c.args.self.now)) c.deref-else-least-deref.ensures found)
