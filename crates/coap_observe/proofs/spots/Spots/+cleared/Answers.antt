use Rattle.std.proofs.Common.{◌∷◌, ◌++◌, None, length, replicate, ap, sym, ◌∙◌}
use Rattle.coap_observe.proofs.Filling.{vacant_around}
use Rattle.coap_observe.proofs.spots.Spots.+cleared.Goals as goal

pub returns : goal.returns
returns t c =
    c.close.ensures
    ∙ ap (λ spots. spots ++ None ∷ c.cleared-2.result) c.cleared.ensures
    ∙ ap (λ spots. replicate (length c.in-Some.left) None ++ None ∷ spots) c.cleared-2.ensures
    ∙ vacant_around c.in-Some.left c.in-Some.right c.in-Some.fork.value.slot
    ∙ ap (λ spots. replicate (length spots) None) (sym c.in-Some.ensures.parts)
