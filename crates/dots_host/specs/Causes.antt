-- Why a call failed: a count of faults that belongs to the object of the call. It never falls, and stands still at the greatest u64.
use Rattle.std.specs.Prelude.{◌≡◌, ℕ, ◌+◌, ◌-◌, ◌^◌, ◌≤◌, min, Result, OnOk, OnErr}

-- the count went up by at least one, or stands at the greatest u64
abbrev pub Rose : ℕ → ℕ → Type 0
Rose before now = min (before + 1) (2 ^ 64 - 1) ≤ now

-- the count didn't fall, rose where the call failed, and stayed where it went well
pub record HasCause {A E : Type 0} (before now : ℕ) (result : Result A E) : Type 0 where
  pub later : before ≤ now
  pub same : OnOk result (now ≡ before)
  pub rose : OnErr result (Rose before now)
