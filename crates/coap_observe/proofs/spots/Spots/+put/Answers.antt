use Rattle.std.proofs.Common.{◌≡◌, ◌∷◌, ◌++◌, ◌<◌, ◌-◌, length, set, ap, sym, ◌∙◌, arith}
use Rattle.std.proofs.Math.Seq.{set-append_seam}
use Rattle.std.proofs.lemmas.List.{set-append_left}
use Rattle.coap_observe.proofs.Filling.{set_right}
use Rattle.coap_observe.proofs.spots.Spots.+put.Goals as goal

pub returns-then-position-before : goal.returns-then-position-before
returns-then-position-before t c =
    let less : c.args.position < length c.in-Some.left = omega (arith, c.if-position-before.true, c.width-before.ensures) in
    c.close.ensures
    ∙ ap (λ spots. spots ++ c.in-Some.fork.value.slot ∷ c.in-Some.right) c.put.ensures
    ∙ sym (set-append_left c.in-Some.left (c.in-Some.fork.value.slot ∷ c.in-Some.right) c.args.position c.args.slot less)
    ∙ ap (λ spots. set spots c.args.position c.args.slot) (sym c.in-Some.ensures.parts)

pub returns-then-position-before-2 : goal.returns-then-position-before-2
returns-then-position-before-2 t c =
    let over : length c.in-Some.left < c.args.position = omega (arith, c.if-position-before-2.true, c.width-before.ensures) in
    c.close-then-position-before-2.ensures
    ∙ ap (λ spots. c.in-Some.left ++ c.in-Some.fork.value.slot ∷ spots) c.put-then-position-before-2.ensures
    ∙ ap (λ n. c.in-Some.left ++ c.in-Some.fork.value.slot ∷ set c.in-Some.right (c.args.position - n - 1) c.args.slot) c.width-before.ensures
    ∙ sym (set_right c.in-Some.left c.in-Some.right c.in-Some.fork.value.slot c.args.slot c.args.position over)
    ∙ ap (λ spots. set spots c.args.position c.args.slot) (sym c.in-Some.ensures.parts)

pub returns : goal.returns
returns t c =
    let same : length c.in-Some.left ≡ c.args.position = omega (arith, c.if-position-before.false, c.if-position-before-2.false, c.width-before.ensures) in
    c.close-2.ensures
    ∙ sym (set-append_seam c.in-Some.left c.in-Some.fork.value.slot c.in-Some.right c.args.slot)
    ∙ ap (λ n. set (c.in-Some.left ++ c.in-Some.fork.value.slot ∷ c.in-Some.right) n c.args.slot) same
    ∙ ap (λ spots. set spots c.args.position c.args.slot) (sym c.in-Some.ensures.parts)
