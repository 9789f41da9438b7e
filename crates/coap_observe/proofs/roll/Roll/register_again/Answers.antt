use Rattle.std.proofs.Common.{◌≡◌, ◌≢◌, ℕ, true, Some, ap, sym, subst, ◌∙◌, arith}
use Rattle.std.specs.Prelude.{option_map}
use Rattle.slab.specs.Slab.{get}
use Rattle.coap_observe.specs.Observed.{ObservedValue, registered_again}
use Rattle.coap_observe.specs.Rolls.{RollValue, has_key, one_at, with_key}
use Rattle.coap_observe.proofs.Rolling.{has_members, found, members_with, put_there, is_there}
use Rattle.coap_observe.proofs.roll.Roll.register_again.Goals as goal

pub remove-one-requires : goal.remove-one-requires
remove-one-requires c =
    let at = get c.self.inside.ones in
    let slots = c.self.inside.order.slots in
    let has = subst (λ (r : RollValue). has_key c.args.key r.members ≡ true) (sym c.self.view_is) c.requires in
    is_there at c.args.key slots c.self.invariant.kept.there (sym (has_members at c.args.key slots c.self.invariant.kept.there) ∙ has)

pub returns-clause-again : goal.returns-clause-again
returns-clause-again c =
    let at = get c.self.inside.ones in
    let new = get c.insert_reserved.new.self in
    let slots = c.self.inside.order.slots in
    let same : c.insert_reserved.result ≡ c.args.key = c.insert_reserved.ensures.key ∙ c.remove-one.ensures.key_is_next in
    let is : new c.args.key ≡ option_map (registered_again c.args.observer c.args.seen) (at c.args.key) =
    ap new (sym same) ∙ c.insert_reserved.ensures.updates.changed ∙ ap Some c.register_again-number.ensures.again ∙ ap (option_map (registered_again c.args.observer c.args.seen)) (sym c.remove-one.ensures.value) in
    let others : (other : ℕ) → other ≢ c.args.key → new other ≡ at other =
    λ other apart. c.insert_reserved.ensures.updates.others other (λ one. apart (one ∙ same)) ∙ c.remove-one.ensures.updates.others other apart in
    ap (λ members. record { room = c.self.inside.order.room; members = members }) (members_with at new c.args.key (registered_again c.args.observer c.args.seen) slots is others)
    ∙ ap (λ (r : RollValue). record { room = r.room; members = with_key c.args.key (registered_again c.args.observer c.args.seen) r.members }) c.self.view_is

pub returns-clause-number : goal.returns-clause-number
returns-clause-number c =
    let at = get c.self.inside.ones in
    let slots = c.self.inside.order.slots in
    ap Some c.register_again-number.ensures.number
    ∙ ap (option_map (λ (o : ObservedValue). o.number)) (sym c.remove-one.ensures.value ∙ sym (found at c.args.key slots c.self.invariant.kept))
    ∙ ap (λ (r : RollValue). option_map (λ (o : ObservedValue). o.number) (one_at c.args.key r.members)) c.self.view_is

pub invariant_of-self : goal.invariant_of-self
invariant_of-self c =
    let at = get c.self.inside.ones in
    let new = get c.insert_reserved.new.self in
    let slots = c.self.inside.order.slots in
    let has = subst (λ (r : RollValue). has_key c.args.key r.members ≡ true) (sym c.self.view_is) c.requires in
    let same : c.insert_reserved.result ≡ c.args.key = c.insert_reserved.ensures.key ∙ c.remove-one.ensures.key_is_next in
    let is = ap new (sym same) ∙ c.insert_reserved.ensures.updates.changed in
    let others : (other : ℕ) → other ≢ c.args.key → new other ≡ at other =
    λ other apart. c.insert_reserved.ensures.updates.others other (λ one. apart (one ∙ same)) ∙ c.remove-one.ensures.updates.others other apart in
    record {
      kept = put_there at new c.args.key c.register_again-number.new.self slots c.self.invariant.kept (sym (has_members at c.args.key slots c.self.invariant.kept.there) ∙ has) is others;
      count = omega (arith, c.self.invariant.count, c.remove-one.ensures.len, c.insert_reserved.ensures.len);
      room = c.self.invariant.room ∙ sym c.remove-one.ensures.capacity ∙ sym c.insert_reserved.ensures.capacity;
    }
