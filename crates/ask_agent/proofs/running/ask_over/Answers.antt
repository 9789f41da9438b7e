use Rattle.std.proofs.Common.{Ok, Err, refl, subst}
use Rattle.dots_host.specs.declared.turns.Halt.{Halt}
use Rattle.dots_host.specs.Stopping.{StopsBy}
use Rattle.ask_agent.specs.declared.ending.AskEnding.TheVariants as ending
use Rattle.ask_agent.proofs.Ran.{ended, has_asked}
use Rattle.ask_agent.proofs.running.ask_over.Goals as goal

pub returns-in-Ok-write_report-clause-ran : goal.returns-in-Ok-write_report-clause-ran
returns-in-Ok-write_report-clause-ran g c = record {
  run = has_asked c.args.asker.now c.take_turns.new.agent ending.Reported (Ok c.in-Ok.field-0) _ _ (λ acts. ended c.in-Ok.field-0 acts c.in-Ok.ensures.over) c.in-Ok.ensures.came;
  reports = c.in-Ok-write_report.ensures.ok;
}

pub returns-in-Err-clause-ran : goal.returns-in-Err-clause-ran
returns-in-Err-clause-ran g c = record {
  run = has_asked c.args.asker.now c.take_turns.new.agent ending.ReportFailed (Ok c.in-Ok.field-0) _ _ (λ acts. ended c.in-Ok.field-0 acts c.in-Ok.ensures.over) c.in-Ok.ensures.came;
  reports = (c.in-Err.ensures.err, c.in-Err.ensures.cause.rose);
}

pub returns-in-Err-NextFailed-clause-ran : goal.returns-in-Err-NextFailed-clause-ran
returns-in-Err-NextFailed-clause-ran g c = record {
  run = has_asked c.args.asker.now c.take_turns.new.agent ending.NextFailed (Err c.in-Err-NextFailed.field-0) _ _
      (λ acts stops. subst (λ (why : Halt). StopsBy (Err why) acts) c.in-Err-NextFailed.field-0-is stops) c.in-Err-NextFailed.ensures.came;
  reports = (refl, c.in-Err-NextFailed.ensures.failed c.in-Err-NextFailed.field-0-is);
}

pub returns-in-Err-TooMany-clause-ran : goal.returns-in-Err-TooMany-clause-ran
returns-in-Err-TooMany-clause-ran g c = record {
  run = has_asked c.args.asker.now c.take_turns.new.agent ending.TooMany (Err c.in-Err-TooMany.field-0) _ _
      (λ acts stops. subst (λ (why : Halt). StopsBy (Err why) acts) c.in-Err-TooMany.field-0-is stops) c.in-Err-TooMany.ensures.came;
  reports = refl;
}
