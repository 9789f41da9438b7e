-- An item, by the reader of its parts.
use Rattle.std.proofs.Common.{◌≡◌, ℕ, zero, suc, ◌-◌, ◌/◌, ◌%◌, ◌<◌, List, [], ◌∷◌, length, Result, Ok, Err, refl, sym, ap, subst, ◌∙◌, arith}
use Rattle.std.proofs.lemmas.Bool.{lt-ltb}
use Rattle.cbor_profile.specs.declared.fault.CborFault.{CborFault}
use Rattle.cbor_profile.specs.declared.fault.CborFault.TheVariants.{Short, Reserved, Unsupported}
use Rattle.cbor_profile.specs.declared.major.Major.{Major}
use Rattle.cbor_profile.specs.declared.major.Major.TheVariants as major_type
use Rattle.cbor_profile.specs.declared.head.Start.{Start}
use Rattle.cbor_profile.specs.declared.item.Item.{Unsigned}
use Rattle.cbor_profile.specs.declared.head.Start.TheVariants as start
use Rattle.cbor_profile.specs.Tree.{Tree, unsigned}
use Rattle.cbor_profile.specs.ItemTrees.{tree_of}
use Rattle.cbor_profile.proofs.ItemTrees.{tree_of-Unsigned}
use Rattle.cbor_profile.specs.ItemReading.{Gives, argument_at, value_at, indefinite_at, begun_at, start_with, start_of, item_with, item_at, parts_of}

item_parts : (levels end : ℕ) (bytes : List ℕ) → item_at levels end bytes ≡ item_with (parts_of levels end) end bytes
unfolding item_at
item_parts zero end bytes = refl
item_parts (suc levels) end bytes = refl

pub item_short : (levels end : ℕ) (bytes : List ℕ) → length bytes ≡ 0 → item_at levels end bytes ≡ Err (Short end)
unfolding item_with
item_short levels end [] empty = item_parts levels end []
item_short levels end (first ∷ bytes) empty = absurd (omega arith)

-- the item that a first byte begins
item_begun : (levels end : ℕ) (bytes rest : List ℕ) (first : ℕ) (begun : Start) → bytes ≡ first ∷ rest → begun ≡ start_of first → item_at levels end bytes ≡ begun_at (parts_of levels end) end (end - length bytes) begun rest
unfolding item_with
item_begun levels end bytes rest first begun is begins =
    ap (item_at levels end) is ∙ item_parts levels end (first ∷ rest) ∙ ap (λ (s : Start). begun_at (parts_of levels end) end (end - suc (length rest)) s rest) (sym begins)
    ∙ ap (λ (n : ℕ). begun_at (parts_of levels end) end (end - n) begun rest) (sym (ap length is))

module _ (levels end : ℕ) (bytes rest : List ℕ) (first : ℕ) (is : bytes ≡ first ∷ rest) where
  pub value_begun : (major : Major) (info : ℕ) → start.Value major info ≡ start_of first → item_at levels end bytes ≡ value_at (parts_of levels end) end (end - length bytes) major info rest
  unfolding begun_at
  value_begun major info begins = item_begun levels end bytes rest first (start.Value major info) is begins

  pub indefinite_begun : (major : Major) → start.Indefinite major ≡ start_of first → item_at levels end bytes ≡ indefinite_at (parts_of levels end) end (end - length bytes) major rest
  unfolding begun_at
  indefinite_begun major begins = item_begun levels end bytes rest first (start.Indefinite major) is begins

  pub reserved_begun : start.Reserved ≡ start_of first → item_at levels end bytes ≡ Err (Reserved (end - length bytes))
  unfolding begun_at
  reserved_begun begins = item_begun levels end bytes rest first start.Reserved is begins

  pub unsupported_begun : start.Unsupported ≡ start_of first → item_at levels end bytes ≡ Err (Unsupported (end - length bytes))
  unfolding begun_at
  unsupported_begun begins = item_begun levels end bytes rest first start.Unsupported is begins

-- what a call gives is what is read
pub gives_same : {X Y : Type 0} (view : X → Y) (r : Result X CborFault) (called read : Result Y CborFault) → called ≡ read → Gives view r called → Gives view r read
gives_same view r called read same h = subst (Gives view r) same h

-- a number below 24 is its byte
pub small_begun : (levels end : ℕ) (bytes rest : List ℕ) (first : ℕ) → bytes ≡ first ∷ rest → first < 24 → item_at levels end bytes ≡ Ok (unsigned first, rest)
unfolding start_with value_at argument_at
small_begun levels end bytes rest first is small =
    let q : first / 32 ≡ 0 = omega arith in
    let r : first % 32 ≡ first = omega arith in
    let begins : start.Value major_type.Unsigned first ≡ start_of first = rw (q, r, lt-ltb first 28 (omega arith)) refl in
    value_begun levels end bytes rest first is major_type.Unsigned first begins ∙ rw (lt-ltb first 24 small) refl

pub small_read : (levels end : ℕ) (bytes rest : List ℕ) (first : ℕ) → bytes ≡ first ∷ rest → first < 24 → item_at levels end bytes ≡ Ok (tree_of (Unsigned first), rest)
small_read levels end bytes rest first is small = small_begun levels end bytes rest first is small ∙ ap (λ (t : Tree). Ok (t, rest)) (sym (tree_of-Unsigned first))
