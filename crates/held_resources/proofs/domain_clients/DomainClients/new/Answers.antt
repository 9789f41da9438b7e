use Rattle.std.proofs.Common.{◌∷◌, [], ap, sym, subst, length, arith, length-append}
use Rattle.held_resources.specs.Tables.{AreEmpty}
use Rattle.held_resources.proofs.Places.{empty_pushed, fresh_is}
use Rattle.held_resources.proofs.domain_clients.DomainClients.new.Goals as goal

pub loop-preserved : goal.loop-preserved
loop-preserved c = (
  omega (arith, ap length c.push_reserved.ensures.items, length-append c.loop.spare.items (c.in_ok-new.field-0 ∷ []), c.loop.invariant.0),
  subst
      (AreEmpty c.args.rooms)
      (sym c.push_reserved.ensures.items)
      (empty_pushed
      c.args.rooms
      c.loop.spare.items
      c.in_ok-new.field-0
      c.loop.invariant.1
      (fresh_is c.args.rooms c.in_ok-new.field-0 c.in_ok-new.ensures)),
  omega (arith, c.push_reserved.ensures.capacity, c.loop.invariant.2),
)
