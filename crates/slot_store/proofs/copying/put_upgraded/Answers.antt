use Rattle.std.proofs.Common.{refl, ◌≡◌, length, length-drop, arith}
use Rattle.slot_store.proofs.UpgradedRecords.{upgraded_slot}
use Rattle.slot_store.proofs.copying.put_upgraded.Goals as goal

pub returns-clause-slot : goal.returns-clause-slot
returns-clause-slot c = λ filled is says.
    let whole = c.requires.room in
    let room : length c.upgrade-upgraded.new.room ≡ 8189 = let dropped = length-drop 3 c.args.room.now in omega (arith, dropped, whole) in
    upgraded_slot c.args.room.now c.upgrade-upgraded.new.room _ c.args.len c.upgrade-upgraded.result whole room refl c.upgrade-upgraded.ensures.fits c.upgrade-upgraded.ensures.upgraded filled is says
