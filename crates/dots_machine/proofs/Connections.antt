-- What stays as a connection opens.
use Rattle.std.proofs.Common.{◌≡◌, ℕ, List, sym, ap, ◌∙◌}
use Rattle.dots_host.specs.declared.out.OwnedOut.{OwnedOut}
use Rattle.dots_machine.specs.Machine.{State, Opens}

module _ (state : State) (peer conn : ℕ) (sends : List OwnedOut) (new : State) (opens : Opens state peer conn sends new) where
  pub opens_history : new.history ≡ state.history
  opens_history = ap (λ (s : State). s.history) opens.1

  pub opens_time : new.time ≡ state.time
  opens_time = ap (λ (s : State). s.time) opens.1

  pub opens_observers : new.observers ≡ state.observers
  opens_observers = ap (λ (s : State). s.observers) opens.1

  -- there is one answer
  pub opens_once : (others : List OwnedOut) (last : State) → Opens state peer conn others last → (sends ≡ others) × (new ≡ last)
  opens_once others last too = (opens.0 ∙ sym too.0, opens.1 ∙ sym too.1)
