-- What is received.
use Rattle.std.proofs.Common.{◌≢◌, refl}
use Rattle.dots_keys.specs.declared.reject.Reject.{Reject}
use Rattle.dots_keys.specs.declared.reject.Reject.TheVariants as reject
use Rattle.dots_keys.specs.Results.{Fulfils}

-- a fact of a refusal that isn't want of memory
pub fulfilled : (e : Reject) (fact : Type 0) → e ≢ reject.NoMemory → Fulfils e fact → fact
fulfilled (reject.Critical number) fact other known = known
fulfilled reject.Path fact other known = known
fulfilled reject.Method fact other known = known
fulfilled reject.HopLimit fact other known = known
fulfilled reject.Parameter fact other known = known
fulfilled reject.Accept fact other known = known
fulfilled reject.Format fact other known = known
fulfilled reject.Query fact other known = known
fulfilled (reject.Body cause) fact other known = known
fulfilled reject.NoMemory fact other known = absurd (other refl)
