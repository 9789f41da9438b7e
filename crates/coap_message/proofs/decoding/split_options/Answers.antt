use Rattle.std.proofs.Common.{rules, ◌≡◌, ◌≢◌, ◌∙◌, arith, length}
use Rattle.std.proofs.lemmas.Result.{err_from_is_err_and}
use Rattle.coap_message.specs.CodeValues.{option_value}
use Rattle.coap_message.proofs.Ending.{so_far_more, so_far_split, so_far_end, so_far_breaks, so_far_shorter, marker_alone, marker_before, no_marker}
use Rattle.coap_message.proofs.OptionList.{option_shorter}
use Rattle.coap_message.proofs.decoding.split_options.Goals as goal

pub returns-then-is_empty-clause-breaks : goal.returns-then-is_empty-clause-breaks
returns-then-is_empty-clause-breaks c =
    let none : length c.in-Some.behind.now ≡ 0 = search rules in
    so_far_breaks _ _ _ _ _ c.loop-first.invariant (marker_alone _ _ _ _ _ c.in-Some.ensures.cases.0 c.if-first.true none)

pub returns-then-first-clause-found : goal.returns-then-first-clause-found
returns-then-first-clause-found c =
    let more : length c.in-Some.behind.now ≢ 0 = search rules in
    so_far_split _ _ _ _ c.loop-first.invariant (c.in-Some.ensures.cases.0 ∙ marker_before _ _ c.if-first.true more)

pub read_option-requires : goal.read_option-requires
read_option-requires c = let shorter = so_far_shorter _ _ _ c.loop-first.invariant in omega (arith, shorter)

pub returns-in_err-row-clause-breaks : goal.returns-in_err-row-clause-breaks
returns-in_err-row-clause-breaks c =
    let p = err_from_is_err_and c.from_residual.result c.from_residual.ensures.1 in
    rw (p.1, p.2) (so_far_breaks _ _ _ _ _ c.loop-first.invariant (no_marker _ _ _ _ _ _ c.in-Some.ensures.cases.0 c.if-first.false c.in_err-row.ensures.fault))

pub loop-first-smaller : goal.loop-first-smaller
loop-first-smaller c = option_shorter _ _ (option_value c.in_ok-row.row, c.in_ok-row.behind.now) c.in_ok-row.ensures.read

pub loop-first-preserved : goal.loop-first-preserved
loop-first-preserved c = so_far_more _ _ _ (option_value c.in_ok-row.row) _ c.loop-first.invariant (λ i. omega (arith, c.type_inv.bytes i)) c.in_ok-row.ensures.read

pub returns-clause-found : goal.returns-clause-found
returns-clause-found c = so_far_end _ _ _ c.loop-first.invariant c.in_default.ensures.cases
