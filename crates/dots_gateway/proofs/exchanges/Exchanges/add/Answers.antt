use Rattle.std.proofs.Common.{◌≡◌, ℕ, ◌+◌, ◌++◌, ◌∷◌, [], List, Option, cond, false, length, sym, ap, subst, ◌∙◌, arith}
use Rattle.std.specs.Prelude.{◌==◌, ◌&&◌, Some, None, nat_le}
use Rattle.std.specs.List.{find}
use Rattle.std.specs.Map.{lookup}
use Rattle.std.proofs.lemmas.Bool.{leb-false, or_parts}
use Rattle.dots_gateway.specs.declared.exchange.Exchange.{Exchange}
use Rattle.dots_gateway.specs.declared.exchange.Waiting.{Waiting}
use Rattle.dots_gateway.specs.Exchanges.{ExchangesValue, is_full, is_from}
use Rattle.dots_gateway.specs.Finding.{AreLinked, AreSound, number_for, same_key}
use Rattle.dots_gateway.proofs.Orders.{entered, sound_entered, linked_then, linked_length, nowhere_by_key, one_of}
use Rattle.dots_gateway.proofs.exchanges.Exchanges.add.Goals as goal

pub push_back_reserved-requires : goal.push_back_reserved-requires
push_back_reserved-requires c =
    let room = subst (λ (x : ExchangesValue). is_full x ≡ false) (sym c.self.view_is) c.requires.room in
    let few = leb-false c.self.inside.room (length c.self.inside.waiting.items) (or_parts (nat_le c.self.inside.room (length c.self.inside.waiting.items)) _ room).0 in
    let len = linked_length c.self.inside.links.items c.self.inside.waiting.items c.self.invariant.linked in
    omega (arith, few, len, c.self.invariant.reserved.1, c.self.inside.links.ok)

pub invariant_of-self-2 : goal.invariant_of-self-2
invariant_of-self-2 c =
    let m = c.args.message.now in
    let ks = c.self.inside.waiting.items in
    let e : ExchangesValue = record { room = c.self.inside.room; next = c.self.inside.next; time = c.self.inside.time; waiting = ks } in
    let none = subst (λ (x : ExchangesValue). find (is_from c.args.peer m.identifier) x.waiting ≡ None) (sym c.self.view_is) c.requires.new in
    let room = subst (λ (x : ExchangesValue). is_full x ≡ false) (sym c.self.view_is) c.requires.room in
    let items = c.put_last.ensures.items ∙ ap (λ (x : Exchange). ks ++ record { exchange = x; asked = Some c.in_ok-asked.asked } ∷ []) c.exchange_for-exchange.ensures in
    let one = one_of c.self.inside.next c.args.peer m.identifier c.self.inside.time m.kind m.token (Some c.in_ok-asked.asked) in
    record {
      sound = subst (λ (xs : List Waiting). AreSound (record { room = e.room; next = e.next + 1; time = e.time; waiting = xs })) (sym items)
          (sound_entered e c.args.peer m.identifier m.kind m.token _ c.self.invariant.sound room);
      numbered = λ key.
          entered ks c.self.inside.next c.args.peer m.identifier c.self.inside.time m.kind m.token _ key _ _ none (c.self.invariant.numbered key)
          (c.in_ok-insert.ensures.updates.0 key ∙ ap (λ (n : ℕ). cond ((c.args.peer == key.peer) && (n == key.id)) (Some c.self.inside.next) (lookup (same_key key) c.self.inside.numbers.entries)) c.id-id.ensures)
          ∙ sym (ap (λ (xs : List Waiting). number_for key xs) items);
      linked = subst (λ (ls : List (Option ℕ)). AreLinked ls c.put_last.new.waiting.items) (sym c.push_back_reserved.ensures.items)
          (subst (λ (xs : List Waiting). AreLinked (c.self.inside.links.items ++ None ∷ []) xs) (sym items)
          (linked_then c.self.inside.links.items ks one c.self.invariant.linked (nowhere_by_key m.kind c.args.peer m.identifier ks none)));
      reserved = (omega (arith, c.put_last.ensures.capacity, c.self.invariant.reserved.0), omega (arith, c.push_back_reserved.ensures.capacity, c.self.invariant.reserved.1));
      unused = λ is. absurd (omega (arith, is, c.self.invariant.sound.some));
    }
