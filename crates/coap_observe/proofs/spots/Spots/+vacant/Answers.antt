use Rattle.std.proofs.Common.{◌≡◌, ℕ, ◌∷◌, ◌-◌, ◌/◌, ◌++◌, None, length, replicate, sym, ap, ◌∙◌, arith}
use Rattle.std.proofs.lemmas.List.{length-replicate}
use Rattle.coap_observe.specs.declared.spots.Fork.{Fork}
use Rattle.coap_observe.specs.Spots.{filled}
use Rattle.coap_observe.proofs.Filling.{filled_vacant, vacant_both}
use Rattle.coap_observe.proofs.spots.Spots.+vacant.Goals as goal

-- the spots of the new fork
all_vacant : (t : ℕ) (c : goal.In_ok-fork t) → c.in_ok-fork.fork.value.left ++ c.in_ok-fork.fork.value.slot ∷ c.in_ok-fork.fork.value.right ≡ replicate c.args.width None
all_vacant t c =
    let half = (c.args.width - 1) / 2 in
    ap (λ (f : Fork). f.left ++ f.slot ∷ f.right) c.in_ok-fork.ensures.ok
    ∙ vacant_both c.in_ok-left.left c.in_ok-right.right half (c.args.width - 1 - half) c.args.width c.in_ok-left.ensures c.in_ok-right.ensures (omega (arith, c.if-width-eq0.false))

pub invariant_of-result : goal.invariant_of-result
invariant_of-result t c =
    let spots = all_vacant t c in (
      ap (λ (f : Fork). f.width) c.in_ok-fork.ensures.ok
          ∙ sym (ap length spots ∙ length-replicate c.args.width None),
      ap (λ (f : Fork). f.count) c.in_ok-fork.ensures.ok
          ∙ sym (ap (λ all. length (filled all)) spots ∙ ap length (filled_vacant c.args.width)),
    )

pub returns : goal.returns
returns t c = all_vacant t c
