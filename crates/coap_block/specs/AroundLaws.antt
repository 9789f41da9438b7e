-- What a host around a host tells goes on as the host inside goes on.
use Rattle.std.proofs.Common.{◌≡◌, List, Option, Some, None, refl, sym, subst, ◌∙◌}
use Rattle.dots_host.specs.Acts.{Timed}
use Rattle.dots_host.specs.declared.act.Act.{Act}
use Rattle.dots_host.specs.Beside.{KeepsActs}
use Rattle.coap_block.specs.Blocks.{Blocks}
use Rattle.coap_block.specs.Around.{seen_above, GoesOnSeen}

pub same_then : {A : Type 0} (old between new : A) → between ≡ old → new ≡ between → new ≡ old
same_then old between new a b = b ∙ a

-- where the acts inside are stored, and none came above, those above are stored
pub stored_above : (old new : Option (List Timed)) (log log_now : List Act) → log_now ≡ log → KeepsActs old new → KeepsActs (seen_above old log) (seen_above new log_now)
stored_above old None log log_now same keeps = tt
stored_above None (Some new) log log_now same keeps = absurd keeps
stored_above (Some old) (Some new) log log_now same keeps =
    subst (λ acts. KeepsActs (seen_above (Some old) log) (seen_above (Some acts) log_now)) (sym keeps)
    (subst (λ calls. KeepsActs (seen_above (Some old) log) (seen_above (Some old) calls)) (sym same) (itself (seen_above (Some old) log)))
  where
    itself : (acts : Option (List Timed)) → KeepsActs acts acts
    itself None = tt
    itself (Some acts) = refl

-- and it goes on as before
pub seen_still : (old new : Option (List Timed)) (log log_now : List Act) (blocks blocks_now : Blocks) → log_now ≡ log → blocks_now ≡ blocks → KeepsActs old new
    → GoesOnSeen old log blocks new log_now blocks_now
seen_still old None log log_now blocks blocks_now same_log same keeps = λ start since. tt
seen_still None (Some new) log log_now blocks blocks_now same_log same keeps = absurd keeps
seen_still (Some old) (Some new) log log_now blocks blocks_now same_log same keeps =
    subst (λ acts. GoesOnSeen (Some old) log blocks (Some acts) log_now blocks_now) (sym keeps)
    (subst (λ calls. GoesOnSeen (Some old) log blocks (Some old) calls blocks_now) (sym same_log)
    (subst (λ known. GoesOnSeen (Some old) log blocks (Some old) log known) (sym same) (λ start since. since)))
