-- When a mitigation is over.
use Rattle.std.proofs.Common.{◌≡◌, ℕ, ◌+◌, ℤ, pos, negsuc, zero, suc, Bool, true, false, cond, not, ◌&&◌, ◌||◌, List, [], ◌∷◌, filter, Option, Some, None, refl, sym, ap, ◌∙◌}
use Rattle.std.specs.Prelude.{nat_lt}
use Rattle.std.specs.List.{list_any}
use Rattle.std.proofs.lemmas.Bool.{false≢true, cond-true, and_parts, or_parts}
use Rattle.dots_history.specs.declared.entry.Entry.{Entry}
use Rattle.dots_history.specs.declared.put.Put.{Put}
use Rattle.dots_history.specs.declared.status.Status.{Status}
use Rattle.dots_history.specs.declared.status.Status.TheVariants.{Ended, Open, Withdrawn}
use Rattle.dots_history.specs.Entries.{put_of, granted_at, option_any, is_unexpired, runs}
use Rattle.dots_history.specs.Histories.{Mitigation, live, seconds_left, seconds_of, seconds_of_grant}
use Rattle.dots_history.specs.Views.{mitigations_at}
use Rattle.dots_history.specs.Tables.{Over, Until, end_of_grant, end_of_put, end_of, is_before, seconds_until, is_due}

granted_end : (t at : ℕ) (granted : ℤ) → granted_at t at granted ≡ is_before t (end_of_grant at granted)
unfolding granted_at
granted_end t at (pos n) = refl
granted_end t at (negsuc zero) = refl
granted_end t at (negsuc (suc n)) = refl

put_end : (t at : ℕ) (o : Option Put) → option_any (λ (p : Put). granted_at t at p.granted) o ≡ is_before t (end_of_put at o)
put_end t at None = refl
put_end t at (Some put) = granted_end t at put.granted

runs_end : (t : ℕ) (put : Entry) → runs t put ≡ is_before t (end_of_put put.time (put_of put.change))
unfolding runs is_unexpired
runs_end t put = put_end t put.time (put_of put.change)

or_false : (b : Bool) → (b || false) ≡ b
or_false true = refl
or_false false = refl

pub live_end : (t : ℕ) (put : Entry) (s : Status) → live t put s ≡ is_before t (end_of put s)
live_end t put Ended = refl
live_end t put Open = or_false (runs t put) ∙ runs_end t put
live_end t put (Withdrawn at) = by_run (runs at put)
  where
    by_run : (b : Bool) → (b && nat_lt t (at + 120)) ≡ is_before t (cond b (Until (pos (at + 120))) Over)
    by_run true = refl
    by_run false = refl

seconds_granted : (t at : ℕ) (granted : ℤ) → seconds_of t at granted ≡ seconds_until t (end_of_grant at granted)
seconds_granted t at (pos n) = refl
seconds_granted t at (negsuc zero) = refl
seconds_granted t at (negsuc (suc n)) = refl

seconds_put : (t at : ℕ) (o : Option Put) → seconds_of_grant t at o ≡ seconds_until t (end_of_put at o)
seconds_put t at None = refl
seconds_put t at (Some put) = seconds_granted t at put.granted

pub seconds_end : (t : ℕ) (put : Entry) (s : Status) → live t put s ≡ true → seconds_left t put s ≡ seconds_until t (end_of put s)
seconds_end t put Ended is = absurd (false≢true is)
seconds_end t put Open is = seconds_put t put.time (put_of put.change)
seconds_end t put (Withdrawn at) is =
    sym (ap (λ b. seconds_until t (cond b (Until (pos (at + 120))) Over)) (and_parts (runs at put) (nat_lt t (at + 120)) is).0)

-- what is due goes, and nothing else
pub due_goes : (u : ℕ) (ms : List Mitigation) → mitigations_at u ms ≡ filter (λ (m : Mitigation). not (is_due u m)) ms
due_goes u [] = refl
due_goes u (m ∷ ms) =
    ap (λ rest. cond (live u m.put m.status) (m ∷ rest) rest) (due_goes u ms)
    ∙ ap
    (λ b. cond b (m ∷ filter (λ (x : Mitigation). not (is_due u x)) ms) (filter (λ (x : Mitigation). not (is_due u x)) ms))
    (live_end u m.put m.status ∙ twice (is_before u (end_of m.put m.status)))
  where
    twice : (b : Bool) → b ≡ not (not b)
    twice true = refl
    twice false = refl

pub none_due : (u : ℕ) (ms : List Mitigation) → list_any (is_due u) ms ≡ false → mitigations_at u ms ≡ ms
none_due u [] none = refl
none_due u (m ∷ ms) none =
    let parts = or_parts (is_due u m) (list_any (is_due u) ms) none in
    cond-true (live u m.put m.status) (m ∷ mitigations_at u ms) (mitigations_at u ms) (live_end u m.put m.status ∙ not_not (is_before u (end_of m.put m.status)) parts.0)
    ∙ ap (λ rest. m ∷ rest) (none_due u ms parts.1)
  where
    not_not : (b : Bool) → not b ≡ false → b ≡ true
    not_not true is = refl
    not_not false is = sym is
