use Rattle.std.proofs.Common.{arith, ◌∙◌, ap, ◌+◌, ◌≡◌, ◌≤◌, [], ◌∷◌, ◌++◌, length, set, ◌/◌, ◌%◌}
use Rattle.std.proofs.lemmas.Slice.{take-put_mid}
use Rattle.slot_store.proofs.Places.{front_two, same_length}
use Rattle.slot_store.proofs.sizing.put_sized.Goals as goal

pub returns-clause-bytes : goal.returns-clause-bytes
returns-clause-bytes c =
    let high = length c.args.bytes.now / 256 in
    let low = length c.args.bytes.now % 256 in
    let size : length c.copy_from_slice.new.self ≡ length c.args.bytes.now = ap length c.copy_from_slice.ensures.after in
    let whole : length c.args.bytes.now + 2 ≡ 2 + length c.copy_from_slice.new.self = omega arith in
    let sizes : length (set (set c.args.room.now 0 high) 1 low) ≡ length c.args.room.now = same_length c.args.room.now high low in
    let room : 2 ≤ length (set (set c.args.room.now 0 high) 1 low) = omega arith in
    let long : 2 ≤ length c.args.room.now = omega arith in
    take-put_mid 2 _ (set (set c.args.room.now 0 high) 1 low) c.copy_from_slice.new.self (length c.args.bytes.now + 2) whole room ∙ ap (λ front. front ++ c.copy_from_slice.new.self) (front_two c.args.room.now high low long)
    ∙ ap (λ bytes. (high ∷ low ∷ []) ++ bytes) c.copy_from_slice.ensures.after
