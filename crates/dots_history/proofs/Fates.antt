-- What the later entries are, by the status that they leave a mitigation.
use Rattle.std.proofs.Common.{◌≡◌, ℕ, ◌<◌, Bool, true, false, cond, List, [], ◌∷◌, Some, zero, suc, refl, sym, ap, ◌∙◌, subst, arith}
use Rattle.std.specs.Prelude.{slice_get}
use Rattle.std.proofs.lemmas.Bool.{cond_both}
use Rattle.std.proofs.lemmas.Option.{none-some, same_Some}
use Rattle.dots_history.specs.declared.entry.Entry.{Entry}
use Rattle.dots_history.specs.declared.status.Status.{Status}
use Rattle.dots_history.specs.declared.status.Status.TheVariants.{Ended, Open, Withdrawn}
use Rattle.dots_history.specs.Entries.{ends, withdraws}
use Rattle.dots_history.specs.Histories.{status}

-- no entry of the list passes the test
abbrev pub NoneIs : (Entry → Bool) → List Entry → Type 0
NoneIs test later = (k : ℕ) (e : Entry) → slice_get later k ≡ Some e → test e ≡ false

-- one does
pub record HasOne (test : Entry → Bool) (later : List Entry) : Type 0 where
  pub place : ℕ
  pub entry : Entry
  pub found : slice_get later place ≡ Some entry
  pub passes : test entry ≡ true

-- the first that does is of this time
pub record HasFirst (test : Entry → Bool) (later : List Entry) (at : ℕ) : Type 0 where
  pub place : ℕ
  pub entry : Entry
  pub found : slice_get later place ≡ Some entry
  pub passes : test entry ≡ true
  pub time : entry.time ≡ at
  pub first : (j : ℕ) (x : Entry) → j < place → slice_get later j ≡ Some x → test x ≡ false

abbrev pub Fate : Entry → List Entry → Status → Type 0
Fate put later Ended = HasOne (ends put) later
Fate put later Open = NoneIs (ends put) later × NoneIs (withdraws put) later
Fate put later (Withdrawn at) = NoneIs (ends put) later × HasFirst (withdraws put) later at

pub none_of_none : (test : Entry → Bool) → NoneIs test []
none_of_none test k e found = absurd (none-some e found)

pub none_more : (test : Entry → Bool) (e : Entry) (later : List Entry) → test e ≡ false → NoneIs test later → NoneIs test (e ∷ later)
none_more test e later out none zero x found = ap test (sym (same_Some e x found)) ∙ out
none_more test e later out none (suc k) x found = none k x found

one_more : (test : Entry → Bool) (e : Entry) (later : List Entry) → HasOne test later → HasOne test (e ∷ later)
one_more test e later one = record { place = suc one.place; entry = one.entry; found = one.found; passes = one.passes }

one_here : (test : Entry → Bool) (e : Entry) (later : List Entry) → test e ≡ true → HasOne test (e ∷ later)
one_here test e later is = record { place = 0; entry = e; found = refl; passes = is }

first_shift : (test : Entry → Bool) (e : Entry) (later : List Entry) (n : ℕ) → test e ≡ false
    → ((j : ℕ) (x : Entry) → j < n → slice_get later j ≡ Some x → test x ≡ false)
    → (j : ℕ) (x : Entry) → j < suc n → slice_get (e ∷ later) j ≡ Some x → test x ≡ false
first_shift test e later n out first zero x less found = ap test (sym (same_Some e x found)) ∙ out
first_shift test e later n out first (suc j) x less found = first j x (omega (arith, less)) found

first_more : (test : Entry → Bool) (e : Entry) (later : List Entry) (at : ℕ) → test e ≡ false → HasFirst test later at → HasFirst test (e ∷ later) at
first_more test e later at out one = record {
  place = suc one.place;
  entry = one.entry;
  found = one.found;
  passes = one.passes;
  time = one.time;
  first = first_shift test e later one.place out one.first;
}

first_here : (test : Entry → Bool) (e : Entry) (later : List Entry) (at : ℕ) → test e ≡ true → e.time ≡ at → HasFirst test (e ∷ later) at
first_here test e later at is time = record {
  place = 0;
  entry = e;
  found = refl;
  passes = is;
  time = time;
  first = λ j x less found. absurd (omega (arith, less));
}

-- what is ended stays ended
pub ended_stays : (put : Entry) (later : List Entry) → status put Ended later ≡ Ended
ended_stays put [] = refl
ended_stays put (e ∷ later) = ended_stays put later

-- what follows a withdrawal
abbrev After : Entry → ℕ → List Entry → Status → Type 0
After put at later Ended = HasOne (ends put) later
After put at later Open = ⊥
After put at later (Withdrawn w) = NoneIs (ends put) later × (w ≡ at)

after_more : (put : Entry) (at : ℕ) (e : Entry) (later : List Entry) (s : Status) → ends put e ≡ false → After put at later s → After put at (e ∷ later) s
after_more put at e later Ended out h = one_more (ends put) e later h
after_more put at e later Open out h = h
after_more put at e later (Withdrawn w) out h = (none_more (ends put) e later out h.0, h.1)

after_withdrawal : (put : Entry) (at : ℕ) (later : List Entry) → After put at later (status put (Withdrawn at) later)
after_withdrawal put at [] = (none_of_none (ends put), refl)
after_withdrawal put at (e ∷ later) =
    cond_both
    (ends put e)
    Ended
    (Withdrawn at)
    (λ s. After put at (e ∷ later) (status put s later))
    (λ is. subst (After put at (e ∷ later)) (sym (ended_stays put later)) (one_here (ends put) e later is))
    (λ out. after_more put at e later (status put (Withdrawn at) later) out (after_withdrawal put at later))

from_after : (put e : Entry) (later : List Entry) (s : Status) → ends put e ≡ false → withdraws put e ≡ true → After put e.time later s → Fate put (e ∷ later) s
from_after put e later Ended out taken h = one_more (ends put) e later h
from_after put e later Open out taken h = absurd h
from_after put e later (Withdrawn w) out taken h =
    (none_more (ends put) e later out h.0, first_here (withdraws put) e later w taken (sym h.1))

fate_more : (put e : Entry) (later : List Entry) (s : Status) → ends put e ≡ false → withdraws put e ≡ false → Fate put later s → Fate put (e ∷ later) s
fate_more put e later Ended out untaken h = one_more (ends put) e later h
fate_more put e later Open out untaken h =
    (none_more (ends put) e later out h.0, none_more (withdraws put) e later untaken h.1)
fate_more put e later (Withdrawn at) out untaken h =
    (none_more (ends put) e later out h.0, first_more (withdraws put) e later at untaken h.1)

pub fate_of : (put : Entry) (later : List Entry) → Fate put later (status put Open later)
fate_of put [] = (none_of_none (ends put), none_of_none (withdraws put))
fate_of put (e ∷ later) =
    cond_both
    (ends put e)
    Ended
    (cond (withdraws put e) (Withdrawn e.time) Open)
    (λ s. Fate put (e ∷ later) (status put s later))
    (λ is. subst (Fate put (e ∷ later)) (sym (ended_stays put later)) (one_here (ends put) e later is))
    (λ out.
    cond_both
    (withdraws put e)
    (Withdrawn e.time)
    Open
    (λ s. Fate put (e ∷ later) (status put s later))
    (λ taken. from_after put e later (status put (Withdrawn e.time) later) out taken (after_withdrawal put e.time later))
    (λ untaken. fate_more put e later (status put Open later) out untaken (fate_of put later)))
