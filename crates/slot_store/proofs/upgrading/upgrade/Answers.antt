use Rattle.std.proofs.Common.{arith, ◌∙◌, ap, ◌≡◌, ◌+◌, ◌≤◌, length, take, ◌++◌}
use Rattle.std.proofs.lemmas.List.{length-take-le}
use Rattle.std.proofs.lemmas.Slice.{take-put_mid}
use Rattle.slot_store.specs.Formats.{sealed}
use Rattle.slot_store.proofs.Upgrades.{short_upgraded, long_upgraded}
use Rattle.slot_store.proofs.upgrading.upgrade.Goals as goal

pub returns-then-len-gt-LONGEST-clause-upgraded : goal.returns-then-len-gt-LONGEST-clause-upgraded
returns-then-len-gt-LONGEST-clause-upgraded c =
    let len : length (take c.args.len c.args.room.now) ≡ c.args.len = length-take-le c.args.len c.args.room.now (omega (arith, c.requires.len, c.requires.room)) in
    long_upgraded (take c.args.len c.args.room.now) (omega (arith, len, c.if-len-gt-LONGEST.true))

pub returns-clause-upgraded : goal.returns-clause-upgraded
returns-clause-upgraded c =
    let len : length (take c.args.len c.args.room.now) ≡ c.args.len = length-take-le c.args.len c.args.room.now (omega (arith, c.requires.len, c.requires.room)) in
    let short : length (take c.args.len c.args.room.now) ≤ 8180 = omega (arith, len, c.if-len-gt-LONGEST.false) in
    let size : c.put_trigger-body.result + 8 ≡ c.put_trigger-body.result + length c.copy_from_slice.new.self = omega (arith, c.copy_from_slice.ensures.len) in
    let room : c.put_trigger-body.result ≤ length c.put_trigger-body.new.room = omega (arith, c.put_trigger-body.ensures.fits, c.put_trigger-body.auto.room, c.requires.room, c.if-len-gt-LONGEST.false) in
    take-put_mid c.put_trigger-body.result _ c.put_trigger-body.new.room c.copy_from_slice.new.self (c.put_trigger-body.result + 8) size room
    ∙ ap (λ bytes. take c.put_trigger-body.result c.put_trigger-body.new.room ++ bytes) (c.copy_from_slice.ensures.after ∙ c.seal-seal.ensures)
    ∙ ap sealed c.put_trigger-body.ensures.triggered
    ∙ short_upgraded (take c.args.len c.args.room.now) short
