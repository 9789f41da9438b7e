use Rattle.std.proofs.Common.{◌≡◌, ◌∷◌, length, ap, subst, arith, length-append, rules}
use Rattle.lifetime_clock.specs.declared.tree.Branch.{Branch}
use Rattle.lifetime_clock.specs.Tree.{KeysRise, entry_of}
use Rattle.lifetime_clock.proofs.Rising.{KeysRise-front, KeysRise-back, SplitsAt-left, SplitsAt-right, SplitsAt-here}
use Rattle.lifetime_clock.proofs.tree.Tree.+split.Goals as goal

pub split-below-requires : goal.split-below-requires
split-below-requires t c =
    let root = entry_of c.in-Some.branch.value in (
      omega (arith, ap length c.in-Some.ensures.parts, length-append c.in-Some.left (root ∷ c.in-Some.right)),
      KeysRise-front c.in-Some.left (root ∷ c.in-Some.right) (subst KeysRise c.in-Some.ensures.parts c.requires),
    )

pub returns-then-key-deref : goal.returns-then-key-deref
returns-then-key-deref t c =
    rw c.join.ensures (SplitsAt-left c.args.self c.in-Some.left _ c.in-Some.right _ _ _ _ c.in-Some.ensures.parts c.requires (search rules) c.split-below.ensures)

pub split-below-requires-then-key-deref-2 : goal.split-below-requires-then-key-deref-2
split-below-requires-then-key-deref-2 t c =
    let root = entry_of c.in-Some.branch.value in (
      omega (arith, ap length c.in-Some.ensures.parts, length-append c.in-Some.left (root ∷ c.in-Some.right)),
      (KeysRise-back c.in-Some.left (root ∷ c.in-Some.right) (subst KeysRise c.in-Some.ensures.parts c.requires)).1,
    )

pub returns-then-key-deref-2 : goal.returns-then-key-deref-2
returns-then-key-deref-2 t c =
    rw c.join-then-key-deref-2.ensures (SplitsAt-right c.args.self c.in-Some.left _ c.in-Some.right _ _ _ _ c.in-Some.ensures.parts c.requires (search rules) c.split-below-then-key-deref-2.ensures)

pub returns : goal.returns
returns t c =
    let same : c.in-Some.branch.value.key ≡ c.args.key = omega (arith, c.if-key-deref.false, c.if-key-deref-2.false, ap (λ (b : Branch). b.key) c.deref.ensures, ap (λ (b : Branch). b.key) c.deref-2.ensures) in
    SplitsAt-here c.args.self c.in-Some.left _ c.in-Some.right _ c.in-Some.ensures.parts c.requires same
