use Rattle.std.proofs.Common.{◌∙◌, [], ◌∷◌, ap, sym, refl}
use Rattle.std.specs.Prelude.{position}
use Rattle.std.proofs.lemmas.List.Quantifiers.{position-Some}
use Rattle.dots_client.specs.Client.{is_new, handed}
use Rattle.coap_exchange.proofs.Firsts.{there_is, set_at, first_replaced, none_passes, replaced_none}
use Rattle.dots_client.proofs.waiting.hand_out.Goals as goal

pub returns-in-Some-clause-handed : goal.returns-in-Some-clause-handed
returns-in-Some-clause-handed c =
    let found = ap (position is_new) (sym c.as_slice.ensures.value) ∙ sym c.place_new.ensures ∙ c.in-Some.is in
    let at = position-Some is_new c.args.requests.now.items c.in-Some.place c.index_mut.result.now found in
    set_at (λ r. handed r ∷ []) c.args.requests.now.items c.in-Some.place c.index_mut.result.now (handed c.index_mut.result.now)
    (there_is c.args.requests.now.items c.in-Some.place c.index_mut.result.now at.0 c.index_mut.ensures.value) refl
    ∙ first_replaced is_new (λ r. handed r ∷ []) c.args.requests.now.items c.in-Some.place c.index_mut.result.now at.0 at.1 at.2

pub returns-in-None-clause-handed : goal.returns-in-None-clause-handed
returns-in-None-clause-handed c =
    let none = ap (position is_new) (sym c.as_slice.ensures.value) ∙ sym c.place_new.ensures ∙ c.in-None.is in
    sym (replaced_none is_new (λ r. handed r ∷ []) c.args.requests.now.items (none_passes is_new c.args.requests.now.items none))
