use Rattle.std.proofs.Common.{[], refl, arith, ◌∙◌, sym}
use Rattle.dots_settings.proofs.ReadTo.{at_start, read_line, past_end, refused_line, sound, few_read, read_whole}
use Rattle.dots_settings.proofs.Rows.{stand_none}
use Rattle.dots_settings.proofs.reading.settings_of.Goals as goal

pub loop-line-init : goal.loop-line-init
loop-line-init c = record {
  lines = [];
  rows = [];
  split = refl;
  number = refl;
  has = record { stand = stand_none; said = c.new.ensures; hashed = c.new-2.ensures };
  fits = omega arith;
  before = at_start c.args.content.now;
}

pub overflow_add-taken : goal.overflow_add-taken
overflow_add-taken c = omega (arith, c.loop-line.invariant.fits, c.in-Some.ensures.shorter, c.requires)

pub returns-then-is_past-clause-refused : goal.returns-then-is_past-clause-refused
returns-then-is_past-clause-refused c =
    past_end c.args.content.now c.loop-line.rest.now c.in-Some.line.now c.in-Some.behind.now c.loop-line.taken c.loop-line.invariant c.requires c.in-Some.ensures.lines
    (sym c.is_past.ensures ∙ c.if-is_past.true)

pub returns-in-Err-clause-refused : goal.returns-in-Err-clause-refused
returns-in-Err-clause-refused c =
    refused_line c.args.content.now c.loop-line.rest.now c.in-Some.line.now c.in-Some.behind.now c.loop-line.taken c.in-Err.fault c.loop-line.invariant c.requires c.in-Some.ensures.lines
    (sym c.is_past.ensures ∙ c.if-is_past.false) c.in-Err.ensures.refused

pub loop-line-preserved : goal.loop-line-preserved
loop-line-preserved c =
    read_line c.args.content.now c.loop-line.rest.now c.in-Some.line.now c.in-Some.behind.now c.loop-line.taken c.take.new.self c.loop-line.invariant c.in-Some.ensures.lines c.in-Some.ensures.shorter
    (sym c.is_past.ensures ∙ c.if-is_past.false) c.in_default-take.ensures.ok

pub finish-requires : goal.finish-requires
finish-requires c = record {
  sound = sound c.args.content.now c.loop-line.rest.now c.loop-line.taken c.loop-line.invariant;
  few = few_read c.args.content.now c.loop-line.rest.now c.loop-line.taken c.loop-line.invariant c.in_default.ensures.lines;
}

pub returns-clause-ok : goal.returns-clause-ok
returns-clause-ok c = read_whole c.args.content.now c.loop-line.rest.now c.finalize.result c.loop-line.taken _ c.loop-line.invariant c.requires c.in_default.ensures.lines
    (c.finalize.ensures _ c.loop-line.invariant.has.hashed) c.in_ok-settings.ensures
