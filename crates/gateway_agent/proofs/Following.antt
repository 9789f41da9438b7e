-- Acts among which a restart is, and acts among which none is.
use Rattle.std.proofs.Common.{◌≡◌, ℕ, ◌⊎◌, inl, inr, List, [], ◌∷◌, ◌++◌, Option, Some, None, sym, ◌∙◌, subst}
use Rattle.dots_host.specs.Acts.{WireAct, Timed, Adds}
use Rattle.dots_host.specs.Runs.{Added}
use Rattle.dots_host.proofs.RunLemmas.{added_then, added_weaker, added_by}
use Rattle.gateway_agent.specs.Running.{IsRestart, AnyRestart, NeverRestarts, IsFollowed}

any_front : (front back : List Timed) → AnyRestart front → AnyRestart (front ++ back)
any_front [] back any = absurd any
any_front (timed ∷ front) back (inl here) = inl here
any_front (timed ∷ front) back (inr later) = inr (any_front front back later)

any_back : (front back : List Timed) → AnyRestart back → AnyRestart (front ++ back)
any_back [] back any = any
any_back (timed ∷ front) back any = inr (any_back front back any)

-- something was added, whatever it is
pub added_any : (old new : Option (List Timed)) (P : List Timed → Type 0) → Added old new P → Added old new (λ _. Unit {0})
added_any old new P added = added_weaker old new P (λ _. Unit {0}) added (λ more p. tt)

-- a restart that was taken before is among the acts still
pub restarted_on : (xs ys zs : Option (List Timed)) → Added xs ys AnyRestart → Added ys zs (λ _. Unit {0}) → Added xs zs AnyRestart
restarted_on xs ys zs any more = added_then xs ys zs AnyRestart (λ _. Unit {0}) AnyRestart any more (λ front back f b. any_front front back f)

-- and so is one that is taken now
pub restarted_now : (xs ys zs : Option (List Timed)) (moment now : ℕ) (act : WireAct) → IsRestart act → Added xs ys (λ _. Unit {0}) → Adds ys moment zs now act → Added xs zs AnyRestart
restarted_now xs ys zs moment now act is before adds =
    added_then xs ys zs (λ _. Unit {0}) AnyRestart AnyRestart before (added_by ys zs moment now act AnyRestart adds (inl is)) (λ front back f b. any_back front back b)

same_rest : (front one other : List Timed) → front ++ one ≡ front ++ other → one ≡ other
same_rest [] one other same = same
same_rest (timed ∷ front) one other same = same_rest front one other (cc same)

never_any : (xs zs : Option (List Timed)) → Added xs zs AnyRestart → NeverRestarts xs zs → ⊥
never_any None None any never = never
never_any None (Some zs) any never = never
never_any (Some xs) None any never = never
never_any (Some xs) (Some zs) any never = never.2 (subst AnyRestart (same_rest xs any.0 never.0 (sym any.1 ∙ never.1)) any.2)

-- Of a run that is followed, what is known where the disk rested, or where no restart was taken, is known.
pub followed : (Rests L : Type 0) (xs zs : Option (List Timed)) → IsFollowed Rests xs zs → (Rests → L) → Added xs zs AnyRestart ⊎ L → L
followed Rests L xs zs (inl rests) with_disk without = with_disk rests
followed Rests L xs zs (inr never) with_disk (inl any) = absurd (never_any xs zs any never)
followed Rests L xs zs (inr never) with_disk (inr lives) = lives

-- acts that were added, and one that is taken
pub taken_on : (xs ys zs : Option (List Timed)) (moment now : ℕ) (act : WireAct) → Added xs ys (λ _. Unit {0}) → Adds ys moment zs now act → Added xs zs (λ _. Unit {0})
taken_on xs ys zs moment now act before adds =
    added_then xs ys zs (λ _. Unit {0}) (λ _. Unit {0}) (λ _. Unit {0}) before (added_by ys zs moment now act (λ _. Unit {0}) adds tt) (λ front back f b. tt)

pub added_on : (xs ys zs : Option (List Timed)) → Added xs ys (λ _. Unit {0}) → Added ys zs (λ _. Unit {0}) → Added xs zs (λ _. Unit {0})
added_on xs ys zs before more = added_then xs ys zs (λ _. Unit {0}) (λ _. Unit {0}) (λ _. Unit {0}) before more (λ front back f b. tt)

-- what was known of a run that goes on, or a restart was taken
pub either_on : (L M : Type 0) (xs ys zs : Option (List Timed)) → Added ys zs (λ _. Unit {0}) → (L → M) → Added xs ys AnyRestart ⊎ L → Added xs zs AnyRestart ⊎ M
either_on L M xs ys zs more goes (inl any) = inl (restarted_on xs ys zs any more)
either_on L M xs ys zs more goes (inr lives) = inr (goes lives)
