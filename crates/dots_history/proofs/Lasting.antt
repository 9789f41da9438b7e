-- What isn't live is never live again.
use Rattle.std.proofs.Common.{◌≡◌, ℕ, ◌+◌, ◌≤◌, ℤ, pos, negsuc, ◌+ℤ◌, zero, suc, false, cond, List, [], ◌∷◌, ◌++◌, Option, Some, None, inl, inr, refl, ap, ◌∙◌, arith}
use Rattle.std.specs.Prelude.{int_lt, nat_lt}
use Rattle.std.proofs.lemmas.Bool.{true≢false, cond_both, or_parts, or_from, and_cases, and_left, and_right, ltb-false, le-ltb}
use Rattle.dots_history.specs.declared.entry.Entry.{Entry}
use Rattle.dots_history.specs.declared.put.Put.{Put}
use Rattle.dots_history.specs.declared.status.Status.{Status}
use Rattle.dots_history.specs.declared.status.Status.TheVariants.{Ended, Open, Withdrawn}
use Rattle.dots_history.specs.Entries.{ends, withdraws, runs, is_unexpired, granted_at, option_any, put_of}
use Rattle.dots_history.specs.Histories.{Within, step, status, live}
use Rattle.dots_history.proofs.Fates.{ended_stays}

pub status-append : (put : Entry) (s : Status) (later more : List Entry) → status put s (later ++ more) ≡ status put (status put s later) more
status-append put s [] more = refl
status-append put s (e ∷ later) more = status-append put (step put s e) later more

pub ended_for_good : (put : Entry) (s : Status) (later more : List Entry) → status put s later ≡ Ended → status put s (later ++ more) ≡ Ended
ended_for_good put s later more ended =
    status-append put s later more ∙ ap (λ now. status put now more) ended ∙ ended_stays put more

past : (t u : ℕ) (end : ℤ) → t ≤ u → int_lt (pos t) end ≡ false → int_lt (pos u) end ≡ false
past t u (pos b) less out = let over : b ≤ t = ltb-false t b out in le-ltb u b (omega (arith, less, over))
past t u (negsuc b) less out = refl

granted_no_more : (t u at : ℕ) (granted : ℤ) → t ≤ u → granted_at t at granted ≡ false → granted_at u at granted ≡ false
unfolding granted_at
granted_no_more t u at (pos n) less out = past t u (pos at +ℤ pos n) less out
granted_no_more t u at (negsuc zero) less out = absurd (true≢false out)
granted_no_more t u at (negsuc (suc n)) less out = past t u (pos at +ℤ negsuc (suc n)) less out

option_no_more : (t u at : ℕ) (put : Option Put) → t ≤ u → option_any (λ (p : Put). granted_at t at p.granted) put ≡ false → option_any (λ (p : Put). granted_at u at p.granted) put ≡ false
option_no_more t u at None less out = refl
option_no_more t u at (Some p) less out = granted_no_more t u at p.granted less out

pub runs_no_more : (t u : ℕ) (put : Entry) → t ≤ u → runs t put ≡ false → runs u put ≡ false
unfolding runs is_unexpired
runs_no_more t u put less out = option_no_more t u put.time (put_of put.change) less out

-- over time
pub live_no_more : (t u : ℕ) (put : Entry) (s : Status) → t ≤ u → live t put s ≡ false → live u put s ≡ false
live_no_more t u put Ended less out = refl
live_no_more t u put Open less out =
    or_from (runs u put) false (runs_no_more t u put less (or_parts (runs t put) false out).0) refl
live_no_more t u put (Withdrawn at) less out =
    elim (and_cases (runs at put) (nat_lt t (at + 120)) out) [
      | inl never ↦ and_left (runs at put) (nat_lt u (at + 120)) never
      | inr late ↦
          let over : at + 120 ≤ t = ltb-false t (at + 120) late in
          and_right (runs at put) (nat_lt u (at + 120)) (le-ltb u (at + 120) (omega (arith, less, over)))
    ]

-- over an entry
pub dead_step : (put : Entry) (s : Status) (e : Entry) → live e.time put s ≡ false → live e.time put (step put s e) ≡ false
dead_step put Ended e out = refl
dead_step put Open e out =
    cond_both
    (ends put e)
    Ended
    (cond (withdraws put e) (Withdrawn e.time) Open)
    (λ s. live e.time put s ≡ false)
    (λ is. refl)
    (λ is_not.
    cond_both
    (withdraws put e)
    (Withdrawn e.time)
    Open
    (λ s. live e.time put s ≡ false)
    (λ taken. and_left (runs e.time put) (nat_lt e.time (e.time + 120)) (or_parts (runs e.time put) false out).0)
    (λ untaken. out))
dead_step put (Withdrawn at) e out =
    cond_both (ends put e) Ended (Withdrawn at) (λ s. live e.time put s ≡ false) (λ is. refl) (λ is_not. out)

-- over entries
pub dead_for_good : (put : Entry) (s : Status) (low high : ℕ) (later : List Entry)
    → live low put s ≡ false → Within low later high → live high put (status put s later) ≡ false
dead_for_good put s low high [] out within = live_no_more low high put s within out
dead_for_good put s low high (e ∷ later) out within =
    dead_for_good put (step put s e) e.time high later (dead_step put s e (live_no_more low e.time put s within.0 out)) within.1
