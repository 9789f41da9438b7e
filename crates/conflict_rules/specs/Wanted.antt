-- What a request asks for, as a mitigation.
use Rattle.std.specs.Prelude.{ℕ, zero, negsuc, Bool, List}
use Rattle.acl_lists.specs.declared.asked.Asked.{Asked}
use Rattle.dots_history.specs.declared.put.Put.{Put}
use Rattle.dots_history.specs.declared.put.Target.{Target}

-- with the mid, for what was asked and what that came to, which filters at once or waits for a lost signal; its lifetime
-- and start play no part in a judgement
abbrev pub wanted : ℕ → Asked → List Target → Bool → Put
wanted mid asked targets trigger =
    record { mid = mid; asked = asked; targets = targets; granted = negsuc zero; start = 0; trigger = trigger }
