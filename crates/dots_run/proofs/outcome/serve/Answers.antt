use Rattle.std.proofs.Common.{[], refl, subst}
use Rattle.dots_machine.specs.declared.ending.Stop.TheVariants as stop
use Rattle.dots_machine.specs.Machine.{State}
use Rattle.dots_server.specs.ServerValues.{Represents}
use Rattle.dots_run.proofs.Writing.{wrote_all, wrote_some, wrote_stop}
use Rattle.dots_run.proofs.outcome.serve.Goals as goal

-- nothing was accepted, and no time has gone by
abbrev nothing : State
nothing = record { history = []; time = 0; lines = []; observers = []; contacts = [] }

-- ---- End came

pub returns-in-Ok-write_report-clause-came : goal.returns-in-Ok-write_report-clause-came
returns-in-Ok-write_report-clause-came g c = λ settings start stored kept follows.
    let got = rw c.in-Ok.is at (c.take_events.ensures.came settings start stored kept follows) in (
      stop.Ended,
      got.0,
      got.1,
      λ before now counted counts. wrote_all settings got.0.last _ _ _ _ _ _ _ _ before now counted counts (c.in-Ok-write_report.ensures.ok settings got.0.last got.2),
    )

pub returns-in-Ok-write_report-clause-seen : goal.returns-in-Ok-write_report-clause-seen
returns-in-Ok-write_report-clause-seen g c = λ settings start stored kept follows.
    let (trace, end, seen, has, told) = rw c.in-Ok.is at (c.take_events.ensures.seen settings start stored kept follows) in (trace, end, seen, has, told)

pub returns-in-Ok-write_report-clause-any : goal.returns-in-Ok-write_report-clause-any
returns-in-Ok-write_report-clause-any g c =
    let settings = c.args.server.settings in
    let any = c.in-Ok-write_report.ensures.any in
    let stands = subst (λ s. Represents c.in-Ok.server s any.0) c.in-Ok.ensures.settings any.1 in (
      stop.Ended,
      any.0,
      stands.own,
      λ before now counted counts. wrote_all settings any.0 _ _ _ _ _ _ _ _ before now counted counts (c.in-Ok-write_report.ensures.ok settings any.0 stands),
    )

pub returns-in-Ok-write_report-clause-counts : goal.returns-in-Ok-write_report-clause-counts
returns-in-Ok-write_report-clause-counts g c = rw c.in-Ok.is at c.take_events.ensures.counts

-- ---- and the report couldn't be written

pub returns-in-Err-write_report-clause-came : goal.returns-in-Err-write_report-clause-came
returns-in-Err-write_report-clause-came g c = λ settings start stored kept follows.
    let got = rw c.in-Ok.is at (c.take_events.ensures.came settings start stored kept follows) in (
      stop.Ended,
      got.0,
      got.1,
      λ before now counted counts.
          wrote_some settings got.0.last _ _ _ _ _ _ _ _ before now counted counts (c.in-Err-write_report.ensures.err settings got.0.last got.2) c.in-Err-write_report.ensures.cause.rose,
    )

pub returns-in-Err-write_report-clause-seen : goal.returns-in-Err-write_report-clause-seen
returns-in-Err-write_report-clause-seen g c = λ settings start stored kept follows.
    let (trace, end, seen, has, told) = rw c.in-Ok.is at (c.take_events.ensures.seen settings start stored kept follows) in (trace, end, seen, has, told)

pub returns-in-Err-write_report-clause-any : goal.returns-in-Err-write_report-clause-any
returns-in-Err-write_report-clause-any g c =
    let settings = c.args.server.settings in
    let any = c.in-Err-write_report.ensures.any in
    let stands = subst (λ s. Represents c.in-Ok.server s any.0) c.in-Ok.ensures.settings any.1 in (
      stop.Ended,
      any.0,
      stands.own,
      λ before now counted counts.
          wrote_some settings any.0 _ _ _ _ _ _ _ _ before now counted counts (c.in-Err-write_report.ensures.err settings any.0 stands) c.in-Err-write_report.ensures.cause.rose,
    )

pub returns-in-Err-write_report-clause-counts : goal.returns-in-Err-write_report-clause-counts
returns-in-Err-write_report-clause-counts g c = rw c.in-Ok.is at c.take_events.ensures.counts

-- ---- the events stopped otherwise

pub returns-in-Err-clause-came : goal.returns-in-Err-clause-came
returns-in-Err-clause-came g c = λ settings start stored kept follows.
    let got = rw c.in-Err.is at (c.take_events.ensures.came settings start stored kept follows) in (
      c.in-Err.how,
      got.0,
      got.1,
      λ before now counted counts. wrote_stop settings got.0.last _ _ _ _ _ _ _ _ before now counted counts c.in-Err.how c.in-Err.ensures.stopped c.write_stop.ensures,
    )

pub returns-in-Err-clause-seen : goal.returns-in-Err-clause-seen
returns-in-Err-clause-seen g c = λ settings start stored kept follows.
    let (trace, end, seen, has, told) = rw c.in-Err.is at (c.take_events.ensures.seen settings start stored kept follows) in (trace, end, seen, has, told)

pub returns-in-Err-clause-any : goal.returns-in-Err-clause-any
returns-in-Err-clause-any g c = (
  c.in-Err.how,
  nothing,
  refl,
  λ before now counted counts. wrote_stop c.args.server.settings nothing _ _ _ _ _ _ _ _ before now counted counts c.in-Err.how c.in-Err.ensures.stopped c.write_stop.ensures,
)

pub returns-in-Err-clause-counts : goal.returns-in-Err-clause-counts
returns-in-Err-clause-counts g c = rw c.in-Err.is at c.take_events.ensures.counts
