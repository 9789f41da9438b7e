use Rattle.std.proofs.Common.{◌∙◌, sym, ap, arith, Ok, inl}
use Rattle.coap_message.proofs.Whole.{whole_found, whole_missing, whole_splits, one_message}
use Rattle.coap_message.proofs.Faults.{breaks_no_split, breaks_behind, head_shorter}
use Rattle.std.proofs.lemmas.Result.{err_from_is_err_and}
use Rattle.coap_message.proofs.decoding.decode.Goals as goal

pub returns-in_err-head-clause-only : goal.returns-in_err-head-clause-only
returns-in_err-head-clause-only c m is e = absurd (whole_missing _ m c.in_err-head.ensures.read is e)

pub returns-in_err-options-clause-only : goal.returns-in_err-options-clause-only
returns-in_err-options-clause-only c m is e = absurd (breaks_no_split _ _ _ _ _ c.in_err-options.ensures.breaks (whole_splits _ _ _ m c.in_ok-head.ensures.read is e).1)

pub returns-in_err-head-clause-breaks : goal.returns-in_err-head-clause-breaks
returns-in_err-head-clause-breaks c =
    let p = err_from_is_err_and c.from_residual.result c.from_residual.ensures.1 in
    rw (p.1, p.2) (inl c.in_err-head.ensures.fault)

pub returns-in_err-options-clause-breaks : goal.returns-in_err-options-clause-breaks
returns-in_err-options-clause-breaks c =
    let p = err_from_is_err_and c.from_residual-in_err-options.result c.from_residual-in_err-options.ensures.1 in
    rw (p.1, p.2) (breaks_behind _ _ _ _ c.in_ok-head.ensures.read c.in_err-options.ensures.breaks)

pub split_options-requires : goal.split_options-requires
split_options-requires c = head_shorter _ _ _ c.in_ok-head.ensures.read

pub returns-clause-found : goal.returns-clause-found
returns-clause-found c = rw c.new.ensures (whole_found _ _ _ _ _ (λ i. omega (arith, c.type_inv.bytes i)) c.in_ok-head.ensures.read c.in_ok-options.ensures.found)

pub returns-clause-only : goal.returns-clause-only
returns-clause-only c m is e =
    let found = whole_found _ _ _ _ _ (λ i. omega (arith, c.type_inv.bytes i)) c.in_ok-head.ensures.read c.in_ok-options.ensures.found in
    ap Ok (c.new.ensures ∙ one_message _ m found.0 is (sym found.1 ∙ e))

pub new-requires : goal.new-requires
new-requires c = (whole_found _ _ _ _ _ (λ i. omega (arith, c.type_inv.bytes i)) c.in_ok-head.ensures.read c.in_ok-options.ensures.found).0
