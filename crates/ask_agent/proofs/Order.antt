-- Asks whose times don't fall.
use Rattle.std.proofs.Common.{◌≡◌, ℕ, zero, suc, ◌<◌, ◌≤◌, Bool, true, false, List, [], ◌∷◌, ◌++◌, Option, Some, None, refl, ap, subst, arith}
use Rattle.std.specs.Prelude.{◌&&◌, nat_le, slice_get, is_some}
use Rattle.std.specs.Cmp.Derive.{both_true}
use Rattle.std.specs.List.{list_all}
use Rattle.std.proofs.lemmas.Bool.{false≢true, leb-true}
use Rattle.ask_agent.specs.declared.planned.Planned.{Planned}

abbrev pub from_on : ℕ → Planned → Bool
from_on at planned = nat_le at planned.at

abbrev pub until : ℕ → Planned → Bool
until at planned = nat_le planned.at at

abbrev pub Rising : List Planned → Type 0
Rising [] = Unit {0}
Rising (planned ∷ later) = (list_all (from_on planned.at) later ≡ true) × Rising later

pub both : (a b : Bool) → (a && b) ≡ true → (a ≡ true) × (b ≡ true)
both true b is = (refl, is)
both false b is = absurd (false≢true is)

all_push : (test : Planned → Bool) (xs : List Planned) (planned : Planned) → list_all test xs ≡ true → test planned ≡ true → list_all test (xs ++ planned ∷ []) ≡ true
all_push test [] planned all one = ap (λ b. b && true) one
all_push test (x ∷ xs) planned all one =
    let parts = both (test x) (list_all test xs) all in
    both_true parts.0 (all_push test xs planned parts.1 one)

-- one more at a time that isn't before any of them
pub rising_push : (xs : List Planned) (planned : Planned) → Rising xs → list_all (until planned.at) xs ≡ true → Rising (xs ++ planned ∷ [])
rising_push [] planned rising all = (refl, tt)
rising_push (x ∷ xs) planned rising all =
    let parts = both (nat_le x.at planned.at) (list_all (until planned.at) xs) all in
    (all_push (from_on x.at) xs planned rising.0 parts.0, rising_push xs planned rising.1 parts.1)

no_item : {A : Type 0} (x : A) → None ≡ Some x → ⊥
no_item x is = false≢true (ap is_some is)

abbrev passes : (Planned → Bool) → Option Planned → Bool
passes test None = true
passes test (Some planned) = test planned

all_at : (test : Planned → Bool) (xs : List Planned) (place : ℕ) (planned : Planned) → list_all test xs ≡ true → slice_get xs place ≡ Some planned → test planned ≡ true
all_at test [] place planned all is = absurd (no_item planned is)
all_at test (x ∷ xs) zero planned all is = subst (λ o. passes test o ≡ true) is (both (test x) (list_all test xs) all).0
all_at test (x ∷ xs) (suc place) planned all is = all_at test xs place planned (both (test x) (list_all test xs) all).1 is

abbrev time_or : ℕ → Option Planned → ℕ
time_or at None = at
time_or at (Some planned) = planned.at

pub rising_at : (xs : List Planned) (place later : ℕ) (first second : Planned) → Rising xs → place < later → slice_get xs place ≡ Some first → slice_get xs later ≡ Some second → first.at ≤ second.at
rising_at [] place later first second rising less a b = absurd (no_item first a)
rising_at (x ∷ xs) zero zero first second rising less a b = absurd (omega arith)
rising_at (x ∷ xs) zero (suc later) first second rising less a b =
    let below : x.at ≤ second.at = leb-true x.at second.at (all_at (from_on x.at) xs later second rising.0 b) in
    let same : x.at ≡ first.at = ap (time_or 0) a in
    omega (arith, below, same)
rising_at (x ∷ xs) (suc place) zero first second rising less a b = absurd (omega arith)
rising_at (x ∷ xs) (suc place) (suc later) first second rising less a b = rising_at xs place later first second rising.1 (omega arith) a b
