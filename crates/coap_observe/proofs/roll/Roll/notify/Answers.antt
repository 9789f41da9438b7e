use Rattle.std.proofs.Common.{◌≡◌, ◌≢◌, ℕ, true, Some, ap, sym, subst, ◌∙◌, arith}
use Rattle.std.specs.Prelude.{option_map}
use Rattle.slab.specs.Slab.{get}
use Rattle.coap_observe.specs.Observed.{notified}
use Rattle.coap_observe.specs.Rolls.{RollValue, has_key, with_key}
use Rattle.coap_observe.proofs.Rolling.{has_members, members_with, put_there, is_there}
use Rattle.coap_observe.proofs.roll.Roll.notify.Goals as goal

pub remove-one-requires : goal.remove-one-requires
remove-one-requires c =
    let at = get c.self.inside.ones in
    let slots = c.self.inside.order.slots in
    let has = subst (λ (r : RollValue). has_key c.args.key r.members ≡ true) (sym c.self.view_is) c.requires in
    is_there at c.args.key slots c.self.invariant.kept.there (sym (has_members at c.args.key slots c.self.invariant.kept.there) ∙ has)

pub returns : goal.returns
returns c =
    let at = get c.self.inside.ones in
    let new = get c.insert_reserved.new.self in
    let slots = c.self.inside.order.slots in
    let same : c.insert_reserved.result ≡ c.args.key = c.insert_reserved.ensures.key ∙ c.remove-one.ensures.key_is_next in
    let is : new c.args.key ≡ option_map (notified c.args.id c.args.seen) (at c.args.key) =
    ap new (sym same) ∙ c.insert_reserved.ensures.updates.changed ∙ ap Some c.notify.ensures ∙ ap (option_map (notified c.args.id c.args.seen)) (sym c.remove-one.ensures.value) in
    let others : (other : ℕ) → other ≢ c.args.key → new other ≡ at other =
    λ other apart. c.insert_reserved.ensures.updates.others other (λ one. apart (one ∙ same)) ∙ c.remove-one.ensures.updates.others other apart in
    ap (λ members. record { room = c.self.inside.order.room; members = members }) (members_with at new c.args.key (notified c.args.id c.args.seen) slots is others)
    ∙ ap (λ (r : RollValue). record { room = r.room; members = with_key c.args.key (notified c.args.id c.args.seen) r.members }) c.self.view_is

pub invariant_of-self : goal.invariant_of-self
invariant_of-self c =
    let at = get c.self.inside.ones in
    let new = get c.insert_reserved.new.self in
    let slots = c.self.inside.order.slots in
    let has = subst (λ (r : RollValue). has_key c.args.key r.members ≡ true) (sym c.self.view_is) c.requires in
    let same : c.insert_reserved.result ≡ c.args.key = c.insert_reserved.ensures.key ∙ c.remove-one.ensures.key_is_next in
    let is = ap new (sym same) ∙ c.insert_reserved.ensures.updates.changed in
    let others : (other : ℕ) → other ≢ c.args.key → new other ≡ at other =
    λ other apart. c.insert_reserved.ensures.updates.others other (λ one. apart (one ∙ same)) ∙ c.remove-one.ensures.updates.others other apart in
    record {
      kept = put_there at new c.args.key c.notify.new.self slots c.self.invariant.kept (sym (has_members at c.args.key slots c.self.invariant.kept.there) ∙ has) is others;
      count = omega (arith, c.self.invariant.count, c.remove-one.ensures.len, c.insert_reserved.ensures.len);
      room = c.self.invariant.room ∙ sym c.remove-one.ensures.capacity ∙ sym c.insert_reserved.ensures.capacity;
    }
