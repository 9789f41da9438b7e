-- Runs that stop where the state is over.
use Rattle.std.proofs.Common.{ℕ, Bool, List, [], ◌∷◌}
use Rattle.dots_host.specs.declared.event.Event.{Event}
use Rattle.dots_host.specs.declared.out.OwnedOut.{OwnedOut}
use Rattle.dots_host.specs.Acts.{WireAct, took, gave, Timed}
use Rattle.dots_host.specs.Runs.{Owing, ToldStep, Trace}
use Rattle.dots_host.specs.Stopping.{until}

module _ {S : Type 0} (over : S → Bool) (step : S → Event → ℕ → List (S × OwnedOut) → S → Type 0) where
  plain_step : (old new : Owing S) (act : WireAct) (told : S) → ToldStep (until over step) old act told new → ToldStep step old act told new
  plain_step old new (took event at) told made = (made.0, made.1.1)
  plain_step old new (gave out done) told made = made

  -- they are runs of the same machine
  pub plain_run : (old new : Owing S) (acts : List Timed) (trace : List S) → Trace (until over step) old acts trace new → Trace step old acts trace new
  plain_run old new [] [] run = run
  plain_run old new [] (told ∷ trace) run = absurd run
  plain_run old new (timed ∷ acts) [] run = absurd run
  plain_run old new (timed ∷ acts) (told ∷ trace) (between, made, rest) = (between, plain_step old between timed.act told made, plain_run between new acts trace rest)
