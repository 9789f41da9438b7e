use Rattle.std.proofs.Common.{arith, sym, subst, List, ℕ}
use Rattle.dots_script.specs.Script.{SaysEvent}
use Rattle.dots_script.proofs.EventLines.{time_is}
use Rattle.dots_script.proofs.event_line.parse_event.Goals as goal

pub returns-then-at-clause-none : goal.returns-then-at-clause-none
returns-then-at-clause-none c = λ event at h.
    let is = (time_is _ _ _ _ event at h c.in-Some.ensures c.in-Some-number_before_space.ensures.some).0 in
    absurd (omega (arith, is, h.time, c.if-at.true))

pub returns-in_default-parse_words-clause-none : goal.returns-in_default-parse_words-clause-none
returns-in_default-parse_words-clause-none c = λ event at h.
    let is = (time_is _ _ _ _ event at h c.in-Some.ensures c.in-Some-number_before_space.ensures.some).1 in
    c.in_default-parse_words.ensures.none event (subst (λ (words : List ℕ). SaysEvent words event) (sym is) h.says)
