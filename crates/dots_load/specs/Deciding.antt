-- A machine whose steps are decided by what comes, but for want of memory.
use Rattle.std.specs.Prelude.{◌≡◌, ℕ, List, count_by}
use Rattle.dots_host.specs.declared.event.Event.{Event}
use Rattle.dots_host.specs.declared.out.OwnedOut.{OwnedOut}
use Rattle.dots_host.specs.Runs.{outs_of}
use Rattle.dots_load.specs.Datagrams.{AreBytes}
use Rattle.dots_load.specs.Report.{unavailable}

-- of one state and one event any two steps give the same sends and the same state, where neither of them sends a 5.00
abbrev pub IsDecided : {S : Type 0} → (S → Event → ℕ → List (S × OwnedOut) → S → Type 0) → Type 0
IsDecided {S} step =
    (old : S) (event : Event) (at : ℕ) (owed others : List (S × OwnedOut)) (new last : S)
    → AreBytes event → step old event at owed new → step old event at others last
    → count_by unavailable (outs_of owed) ≡ 0 → count_by unavailable (outs_of others) ≡ 0 → (owed ≡ others) × (new ≡ last)
