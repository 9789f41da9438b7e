use Rattle.std.proofs.Common.{◌≡◌, ℕ, ◌+◌, ◌*◌, ◌<◌, Ordering, Less, Equal, Greater, nat_cmp, refl, sym, ◌∙◌}
use Rattle.std.specs.Ordering.{ordering_then}
use Rattle.std.specs.Cmp.Lexicographic.{slice_cmp}
use Rattle.cbor_profile.specs.declared.major.Major.{Major}
use Rattle.cbor_profile.specs.Head.{head}
use Rattle.cbor_profile.specs.Parts.{number_of, major, argument}
use Rattle.cbor_profile.specs.ItemTrees.{tree_of}
use Rattle.cbor_profile.proofs.Heads.{head_none}
use Rattle.cbor_profile.proofs.order.compare_heads.Goals as goal

ends : (o : Ordering) → o ≡ ordering_then o Equal
ends Less = refl
ends Equal = refl
ends Greater = refl

-- initial bytes that hold their arguments compare as the heads do
short_order : (a b m x k y : ℕ) → a ≡ 32 * m + x → b ≡ 32 * k + y → x < 24 → y < 24 → nat_cmp a b ≡ slice_cmp nat_cmp (head m x) (head k y)
short_order a b m x k y ea eb lx ly = rw (ea, eb, head_none m x lx, head_none k y ly) (ends (nat_cmp (32 * m + x) (32 * k + y)))

short_heads : (a b : ℕ) (kind other : Major) (n l : ℕ) (m k : Major) (x y : ℕ) → a ≡ 32 * number_of kind + n → b ≡ 32 * number_of other + l → kind ≡ m → n ≡ x → other ≡ k → l ≡ y → n < 24 → l < 24
    → nat_cmp a b ≡ slice_cmp nat_cmp (head (number_of m) x) (head (number_of k) y)
short_heads a b kind other n l m k x y ea eb em ex ek ey ln ll = rw (sym em, sym ex, sym ek, sym ey) (short_order a b (number_of kind) n (number_of other) l ea eb ln ll)

pub returns-then-right_argument-lt24 : goal.returns-then-right_argument-lt24
returns-then-right_argument-lt24 c =
    let left = c.head_of-left_major in
    let right = c.head_of-right_major in
    c.cmp.ensures
    ∙ short_heads c.short_head-left.result c.short_head.result left.result.0 right.result.0 left.result.1 right.result.1 (major (tree_of c.args.left.now)) (major (tree_of c.args.right.now)) (argument (tree_of c.args.left.now)) (argument (tree_of c.args.right.now))
    c.short_head-left.ensures c.short_head.ensures left.ensures.kind left.ensures.number right.ensures.kind right.ensures.number c.if-left_argument-lt24.true c.if-right_argument-lt24.true
