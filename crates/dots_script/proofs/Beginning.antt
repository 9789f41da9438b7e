-- A host of a script before any call.
use Rattle.std.proofs.Common.{◌≡◌, ℕ, ◌^◌, List, [], ap, ◌∙◌}
use Rattle.dots_host.specs.Logged.{Logged, zeros}
use Rattle.dots_script.specs.Scripting.{Scripting}

abbrev host : {S K : Type 0} → S → K → List ℕ → Logged → Scripting S K
host source sink ahead disk = record { source = source; ahead = ahead; sink = sink; disk = disk; faults = 0 }

pub begins : {S K : Type 0} (source : S) (sink : K) (ahead : List ℕ) (disk : Logged) → ahead ≡ [] → disk ≡ zeros (2 ^ 30)
    → host source sink ahead disk ≡ host source sink [] (zeros (2 ^ 30))
begins source sink ahead disk none is = ap (λ ahead. host source sink ahead disk) none ∙ ap (host source sink []) is
