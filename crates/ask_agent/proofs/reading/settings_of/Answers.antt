use Rattle.std.proofs.Common.{sym, ap, ◌∙◌}
use Rattle.ask_agent.specs.File.{or_missing}
use Rattle.ask_agent.proofs.Steps.{taken_line, past_end, refused_line, at_end}
use Rattle.ask_agent.proofs.Within.{mid_fits}
use Rattle.ask_agent.proofs.reading.settings_of.Goals as goal

pub returns-then-is_past-clause-refused : goal.returns-then-is_past-clause-refused
returns-then-is_past-clause-refused c =
    past_end c.args.content.now c.loop-line.rest.now c.in-Some.line.now c.in-Some.behind.now c.loop-line.number c.loop-line.draft c.loop-line.invariant c.requires c.in-Some.ensures.lines
    (sym c.is_past.ensures ∙ c.if-is_past.true)

pub returns-in-Err-clause-refused : goal.returns-in-Err-clause-refused
returns-in-Err-clause-refused c =
    refused_line c.args.content.now c.loop-line.rest.now c.in-Some.line.now c.in-Some.behind.now c.loop-line.number c.loop-line.draft c.in-Err.fault c.loop-line.invariant c.requires c.in-Some.ensures.lines
    (sym c.is_past.ensures ∙ c.if-is_past.false) c.in-Err.ensures.refused

pub loop-line-preserved : goal.loop-line-preserved
loop-line-preserved c =
    taken_line c.args.content.now c.loop-line.rest.now c.in-Some.line.now c.in-Some.behind.now c.loop-line.number c.loop-line.draft c.take_line.new.draft c.loop-line.invariant c.in-Some.ensures.lines
    c.in-Some.ensures.shorter (sym c.is_past.ensures ∙ c.if-is_past.false) c.in_default-take_line.ensures.ok

pub returns-in-Some-finish-clause-ok : goal.returns-in-Some-finish-clause-ok
returns-in-Some-finish-clause-ok c =
    at_end c.args.content.now c.loop-line.rest.now c.loop-line.number c.loop-line.draft c.loop-line.invariant c.requires c.in_default.ensures.lines
    ∙ ap (or_missing c.loop-line.number) (sym c.in-Some-finish.ensures)

pub returns-in-None-clause-refused : goal.returns-in-None-clause-refused
returns-in-None-clause-refused c =
    at_end c.args.content.now c.loop-line.rest.now c.loop-line.number c.loop-line.draft c.loop-line.invariant c.requires c.in_default.ensures.lines
    ∙ ap (or_missing c.loop-line.number) (sym c.in-None.ensures)

pub returns-in-Some-finish-clause-mid : goal.returns-in-Some-finish-clause-mid
returns-in-Some-finish-clause-mid c = mid_fits c.args.content.now c.in-Some-finish.settings (returns-in-Some-finish-clause-ok c)
