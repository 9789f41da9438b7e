-- Arrays of more than one item.
use Rattle.std.proofs.Common.{◌≡◌, ◌≤◌, List, [], ◌∷◌, length, Some, Err, refl, arith}
use Rattle.serde_json.specs.View.{items_view}
use Rattle.serde_json.specs.declared.value.Value.{Value}
use Rattle.list_json.specs.declared.fault.Member.{Member}
use Rattle.list_json.specs.declared.fault.ListFault.TheVariants as faults
use Rattle.data_channel.specs.Bodies.{sole_of}

pub many_items : (of : Member) (xs : List Value) → 2 ≤ length xs → sole_of of (Some (items_view xs)) ≡ Err (faults.Invalid of)
many_items of [] many = absurd (omega (arith, many))
many_items of (x ∷ []) many = absurd (omega (arith, many))
many_items of (x ∷ y ∷ xs) many = refl
