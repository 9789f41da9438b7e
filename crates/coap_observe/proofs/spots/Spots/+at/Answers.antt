use Rattle.std.proofs.Common.{◌≡◌, ◌∷◌, [], ◌-◌, None, Some, length, get_or, ap, sym, ◌∙◌, arith, length-append}
use Rattle.coap_observe.specs.declared.spots.Fork.{Fork}
use Rattle.coap_observe.specs.Spots.{filled}
use Rattle.coap_observe.proofs.Filling.{at_root, filled_around, at_left, at_none, at_own, at_right}
use Rattle.coap_observe.proofs.spots.Spots.+at.Goals as goal

pub returns-then-place-before : goal.returns-then-place-before
returns-then-place-before t c =
    let fork = c.in-Some.fork.value in
    let before : c.count-before.result ≡ length (filled fork.left) = c.count-before.ensures ∙ ap (λ (f : Fork). length (filled f.left)) c.deref.ensures in
    c.at.ensures
    ∙ ap (λ (f : Fork). get_or (filled f.left) c.args.place 0) c.deref-then-place-before.ensures
    ∙ sym (at_left fork.left fork.right fork.slot c.args.place (omega (arith, before, c.if-place-before.true)))
    ∙ ap (λ spots. get_or (filled spots) c.args.place 0) (sym (at_root c.self.view_is c.in-Some.is))

pub at-requires-in-None : goal.at-requires-in-None
at-requires-in-None t c =
    let fork = c.in-Some.fork.value in
    let is = at_root c.self.view_is c.in-Some.is in
    let none : fork.slot ≡ None = ap (λ (f : Fork). f.slot) (sym c.deref-2.ensures) ∙ c.in-None.is in
    let before = c.count-before.ensures ∙ ap (λ (f : Fork). length (filled f.left)) c.deref.ensures in
    let around = ap (λ spots. length (filled spots)) is ∙ filled_around fork.left fork.right fork.slot in
    let own = ap (λ spot. length (filled (spot ∷ []))) none in
    let right = ap (λ (f : Fork). length (filled f.right)) c.deref-in-None.ensures in
    let wide = ap (λ (f : Fork). length f.right) c.deref-in-None.ensures in (
      omega (arith, ap length is, length-append fork.left (fork.slot ∷ fork.right), wide),
      omega (arith, c.requires, around, own, before, right, c.if-place-before.false),
    )

pub at-requires-in-Some-2 : goal.at-requires-in-Some-2
at-requires-in-Some-2 t c =
    let fork = c.in-Some.fork.value in
    let is = at_root c.self.view_is c.in-Some.is in
    let some = ap (λ (f : Fork). f.slot) (sym c.deref-2.ensures) ∙ c.in-Some-slot.is in
    let before = c.count-before.ensures ∙ ap (λ (f : Fork). length (filled f.left)) c.deref.ensures in
    let around = ap (λ spots. length (filled spots)) is ∙ filled_around fork.left fork.right fork.slot in
    let own = ap (λ spot. length (filled (spot ∷ []))) some in
    let right = ap (λ (f : Fork). length (filled f.right)) c.deref-in-Some-2.ensures in
    let wide = ap (λ (f : Fork). length f.right) c.deref-in-Some-2.ensures in (
      omega (arith, ap length is, length-append fork.left (fork.slot ∷ fork.right), wide),
      omega (arith, c.requires, around, own, before, right, c.if-place-before.false, c.if-place-eq0.false),
    )

pub returns-in-None : goal.returns-in-None
returns-in-None t c =
    let fork = c.in-Some.fork.value in
    let none : fork.slot ≡ None = ap (λ (f : Fork). f.slot) (sym c.deref-2.ensures) ∙ c.in-None.is in
    let before = c.count-before.ensures ∙ ap (λ (f : Fork). length (filled f.left)) c.deref.ensures in
    c.at-in-None.ensures
    ∙ ap (λ (f : Fork). get_or (filled f.right) (c.args.place - c.count-before.result) 0) c.deref-in-None.ensures
    ∙ ap (λ n. get_or (filled fork.right) (c.args.place - n) 0) before
    ∙ sym (at_none fork.left fork.right fork.slot c.args.place none (omega (arith, before, c.if-place-before.false)))
    ∙ ap (λ spots. get_or (filled spots) c.args.place 0) (sym (at_root c.self.view_is c.in-Some.is))

pub returns-in-Some-slot : goal.returns-in-Some-slot
returns-in-Some-slot t c =
    let fork = c.in-Some.fork.value in
    let some : fork.slot ≡ Some c.in-Some-slot.slot = ap (λ (f : Fork). f.slot) (sym c.deref-2.ensures) ∙ c.in-Some-slot.is in
    let before = c.count-before.ensures ∙ ap (λ (f : Fork). length (filled f.left)) c.deref.ensures in
    sym (at_own fork.left fork.right fork.slot c.in-Some-slot.slot c.args.place some (omega (arith, before, c.if-place-before.false, c.if-place-eq0.true)))
    ∙ ap (λ spots. get_or (filled spots) c.args.place 0) (sym (at_root c.self.view_is c.in-Some.is))

pub returns-in-Some-2 : goal.returns-in-Some-2
returns-in-Some-2 t c =
    let fork = c.in-Some.fork.value in
    let some : fork.slot ≡ Some c.in-Some-slot.slot = ap (λ (f : Fork). f.slot) (sym c.deref-2.ensures) ∙ c.in-Some-slot.is in
    let before = c.count-before.ensures ∙ ap (λ (f : Fork). length (filled f.left)) c.deref.ensures in
    c.at-in-Some-2.ensures
    ∙ ap (λ (f : Fork). get_or (filled f.right) (c.args.place - c.count-before.result - 1) 0) c.deref-in-Some-2.ensures
    ∙ ap (λ n. get_or (filled fork.right) (c.args.place - n - 1) 0) before
    ∙ sym (at_right fork.left fork.right fork.slot c.in-Some-slot.slot c.args.place some (omega (arith, before, c.if-place-before.false, c.if-place-eq0.false)))
    ∙ ap (λ spots. get_or (filled spots) c.args.place 0) (sym (at_root c.self.view_is c.in-Some.is))
