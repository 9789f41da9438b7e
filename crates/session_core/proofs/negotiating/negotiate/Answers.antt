use Rattle.std.proofs.Common.{Ok, Err, ap, sym, ◌∙◌}
use Rattle.session_core.specs.declared.negotiating.ConfigFault.TheVariants.{Range}
use Rattle.session_core.specs.Negotiating.{values_by, judged_by}
use Rattle.session_core.proofs.Refusing.{answer}
use Rattle.session_core.proofs.negotiating.negotiate.Goals as goal

pub returns-in-Some-refused : goal.returns-in-Some-refused
returns-in-Some-refused c =
    ap (λ key. Err (Range key)) c.key.ensures
    ∙ sym (ap (λ o. judged_by o c.args.body.now) c.in-Some-refused.is)
    ∙ sym (answer c.args.body.now _ _ _ _ (sym c.higher_sid.ensures ∙ c.in_default.is) c.first_refused.ensures c.first_refused-2.ensures c.or-refused.ensures)

pub returns : goal.returns
returns c =
    ap (λ v. Ok (record { mitigating = v; idle = c.values_by-2.result })) c.values_by.ensures
    ∙ ap (λ v. Ok (record { mitigating = values_by c.args.body.now.mitigating; idle = v })) c.values_by-2.ensures
    ∙ sym (ap (λ o. judged_by o c.args.body.now) c.in_default-refused.is)
    ∙ sym (answer c.args.body.now _ _ _ _ (sym c.higher_sid.ensures ∙ c.in_default.is) c.first_refused.ensures c.first_refused-2.ensures c.or-refused.ensures)
