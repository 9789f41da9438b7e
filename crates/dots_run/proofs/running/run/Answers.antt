use Rattle.dots_run.proofs.running.run.Goals as goal

pub returns-clause-machine : goal.returns-clause-machine
returns-clause-machine g c = λ none. let (how, status_is, behaves, idle, saw) = c.run_shown.ensures.machine none in (how, status_is, behaves, idle)
