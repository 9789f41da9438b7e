use Rattle.std.proofs.Common.{◌∷◌, [], length, ap, arith}
use Rattle.std.specs.Prelude.{option_to_list}
use Rattle.dots_history.specs.Slots.{placed}
use Rattle.dots_history.specs.KeptPlaces.{union}
use Rattle.dots_history.proofs.Unions.{union_longer}
use Rattle.live_mitigations.proofs.slotting.put_numbers.Goals as goal

pub put-requires : goal.put-requires
put-requires c =
    let longer = union_longer (c.args.slots.now.put ∷ []) (placed c.in-Some.slot c.args.into.now.items) in
    let same = ap (λ o. length (union (c.args.slots.now.put ∷ option_to_list o) c.args.into.now.items)) c.in-Some.is in
    omega (arith, longer, same, c.requires)
