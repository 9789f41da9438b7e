-- A run over a host from which long replies leave in blocks.
use Rattle.std.specs.Prelude.{◌≡◌, ℕ, false, List, Option}
use Rattle.dots_host.specs.Acts.{Timed}
use Rattle.coap_block.specs.Around.{IsSeenFrom}
use Rattle.dots_machine.specs.declared.ending.Ending.{Ending}
use Rattle.dots_machine.specs.Endings.{status_of, has_hosted, Behaves}
use Rattle.dots_machine.specs.Outside.{Outside}

-- the same, where these are the acts
abbrev pub seeing : Outside → Option (List Timed) → Outside
seeing now acts = record now { acts = acts }

-- A run of words that ask for no topic, with this status. The server took requests without Block2 and sent whole replies and notifications: what it has done is said of
-- these acts, by the ending that the status is of, and the acts of the host are the same ones as they were handed on. Where the run didn't
-- come to its host, that was not called.
pub record RunsInBlocks (words : List (List ℕ)) (status : ℕ) (before now : Outside) (uncalled : Type 0) : Type 0 where
  pub ending : Ending
  pub status_is : status ≡ status_of ending
  pub seen : Option (List Timed)
  pub handed_on : IsSeenFrom before.acts now.acts seen
  pub behaves : Behaves ending words before (seeing now seen)
  pub idle : has_hosted ending ≡ false → uncalled
