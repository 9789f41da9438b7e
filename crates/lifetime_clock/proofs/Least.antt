-- The least time of a list of entries, and an entry that has it.
use Rattle.std.proofs.Common.{◌≡◌, ◌≢◌, ℕ, ◌-◌, ◌^◌, ◌<◌, ◌≤◌, min, List, [], ◌∷◌, ◌++◌, length, Option, Some, Box, sym, subst, ap, ◌∙◌, arith, append_assoc, inl, inr}
use Rattle.std.proofs.lemmas.Bool.{cases_eq}
use Rattle.lifetime_clock.specs.Times.{look_up}
use Rattle.std.specs.Global.{Global}
use Rattle.lifetime_clock.specs.declared.tree.Branch.{Branch}
use Rattle.lifetime_clock.specs.Rooted.{entries_of, KnowsLeast}
use Rattle.lifetime_clock.specs.Tree.{entry_of, least_time, Has}
use Rattle.lifetime_clock.proofs.Entries.{at_its_key, at_another, some_injective}

pub least_time-small : (es : List (ℕ × ℕ)) → least_time es ≤ 2 ^ 64 - 1
least_time-small [] = omega arith
least_time-small (entry ∷ es) = omega (arith, least_time-small es)

-- the least time of two lists, one after the other
pub least_time-append : (l m : List (ℕ × ℕ)) → least_time (l ++ m) ≡ min (least_time l) (least_time m)
least_time-append [] m = omega (arith, least_time-small m)
least_time-append (entry ∷ l) m = omega (arith, least_time-append l m)

-- a time that a key has isn't before the least one
pub least_time-le : (es : List (ℕ × ℕ)) (key time : ℕ) → look_up es key ≡ Some time → least_time es ≤ time
least_time-le [] key time found = absurd (cc)
least_time-le (entry ∷ es) key time found =
    elim (cases_eq entry.0 key) [
      | inl is ↦ omega (arith, some_injective _ _ (sym (at_its_key entry es key is) ∙ found))
      | inr is_not ↦ omega (arith, least_time-le es key time (sym (at_another entry es key is_not) ∙ found))
    ]

-- a list whose least time isn't the greatest number has an entry
pub some_entry : (es : List (ℕ × ℕ)) → least_time es < 2 ^ 64 - 1 → 0 < length es
some_entry [] less = absurd (omega arith)
some_entry (entry ∷ es) less = omega arith

pub Has-front : (l m : List (ℕ × ℕ)) (key time : ℕ) → Has l key time → Has (l ++ m) key time
Has-front l m key time has = record {
  before = has.before;
  behind = has.behind ++ m;
  is = ap (λ (es : List (ℕ × ℕ)). es ++ m) has.is ∙ append_assoc has.before ((key, time) ∷ has.behind) m;
}

pub Has-back : (l m : List (ℕ × ℕ)) (key time : ℕ) → Has m key time → Has (l ++ m) key time
Has-back l m key time has = record {
  before = l ++ has.before;
  behind = has.behind;
  is = ap (λ (es : List (ℕ × ℕ)). l ++ es) has.is ∙ sym (append_assoc l has.before ((key, time) ∷ has.behind));
}

pub Has-later : (entry : ℕ × ℕ) (es : List (ℕ × ℕ)) (key time : ℕ) → Has es key time → Has (entry ∷ es) key time
Has-later entry es key time has = Has-back (entry ∷ []) es key time has

-- ---- at the root of a tree

pub at_root : {root : Option (Box Branch Global)} {es : List (ℕ × ℕ)} {branch : Box Branch Global} → entries_of root ≡ es → KnowsLeast root → root ≡ Some branch
    → (es ≡ branch.value.left ++ entry_of branch.value ∷ branch.value.right) × (branch.value.least ≡ least_time es)
at_root {root} {es} {branch} view knows is =
    let entries = sym view ∙ ap entries_of is in
    (entries, subst KnowsLeast is knows ∙ ap least_time (sym entries))

-- the least time is on the right where it is neither at the root nor on the left
pub least_right : (es l : List (ℕ × ℕ)) (key at : ℕ) (r : List (ℕ × ℕ)) → es ≡ l ++ (key, at) ∷ r → at < 2 ^ 64 → at ≢ least_time es → least_time l ≢ least_time es
    → (least_time r ≡ least_time es) × (0 < length r)
least_right es l key at r is small not_root not_left =
    let least = ap least_time is ∙ least_time-append l ((key, at) ∷ r) in
    let same : least_time r ≡ least_time es = omega (arith, least, not_root, not_left) in
    let less : least_time r < 2 ^ 64 - 1 = omega (arith, least, not_root, same, small) in
    (same, some_entry r less)

pub Has-right : (es l : List (ℕ × ℕ)) (entry : ℕ × ℕ) (r : List (ℕ × ℕ)) (key time : ℕ) → es ≡ l ++ entry ∷ r → Has r key time → Has es key time
Has-right es l entry r key time is has = rw is (Has-back l (entry ∷ r) key time (Has-later entry r key time has))
