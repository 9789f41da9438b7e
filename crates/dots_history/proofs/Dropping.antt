-- The entries that the view of a calm history names have its view.
use Rattle.std.proofs.Common.{◌≡◌, ℕ, ◌+◌, ◌<◌, Bool, true, false, cond, ◌||◌, List, [], ◌∷◌, map, Some, None, inl, inr, refl, sym, ap, ◌∙◌, subst, le_refl, arith}
use Rattle.std.specs.Prelude.{nat_lt}
use Rattle.std.specs.List.{list_any}
use Rattle.std.proofs.lemmas.Bool.{false≢true, both_ways, cond_both, cases_Bool, and_from, or_parts, or_cases, ltb-true, lt-ltb}
use Rattle.dots_history.specs.declared.entry.Entry.{Entry}
use Rattle.dots_history.specs.declared.status.Status.{Status}
use Rattle.dots_history.specs.declared.status.Status.TheVariants.{Ended, Open, Withdrawn}
use Rattle.dots_history.specs.Entries.{ends, withdraws, is_signal, signals}
use Rattle.dots_history.specs.Histories.{Mitigation, Within, OnePeer, live, if_live, status, step, tally, is_recent, is_nil, stays}
use Rattle.dots_history.proofs.Fates.{ended_stays}
use Rattle.dots_history.specs.Keeping.{is_first, names, moved, pass, kept_by}
use Rattle.dots_history.proofs.Lasting.{dead_for_good}
use Rattle.dots_history.proofs.Recents.{signal_parts}
use Rattle.dots_history.proofs.Touching.{touches, touch_signals, untouched}
use Rattle.dots_history.proofs.Members.{In, in_map, in_front, any_of}
use Rattle.dots_history.proofs.Keeping.{by_first, kept_within}

-- why the view doesn't name an entry
pub record Unnamed (n t : ℕ) (passed : List Mitigation) (e : Entry) (later : List Entry) : Type 0 where
  pub dead : live t e (status e Open later) ≡ false
  pub no_first : list_any (is_first t e later) passed ≡ false
  pub old : is_recent n e later ≡ false
  pub more : is_nil later ≡ false
  pub undone : stays e later ≡ false

pub unnamed : (n t : ℕ) (passed : List Mitigation) (e : Entry) (later : List Entry) → names n t passed e later ≡ false → Unnamed n t passed e later
unnamed n t passed e later out =
    let halves = or_parts
    (live t e (status e Open later) || list_any (is_first t e later) passed)
    ((is_recent n e later || is_nil later) || stays e later)
    out in
    let mitigation = or_parts (live t e (status e Open later)) (list_any (is_first t e later) passed) halves.0 in
    let others = or_parts (is_recent n e later || is_nil later) (stays e later) halves.1 in
    let ends = or_parts (is_recent n e later) (is_nil later) others.0 in
    record { dead = mitigation.0; no_first = mitigation.1; old = ends.0; more = ends.1; undone = others.1 }

-- why it names one
pub data Named (n t : ℕ) (passed : List Mitigation) (e : Entry) (later : List Entry) : Type 0 where
  lives : live t e (status e Open later) ≡ true → Named n t passed e later
  withdrawal : list_any (is_first t e later) passed ≡ true → Named n t passed e later
  among_last : is_recent n e later ≡ true → Named n t passed e later
  at_end : is_nil later ≡ true → Named n t passed e later
  holds : stays e later ≡ true → Named n t passed e later

pub named : (n t : ℕ) (passed : List Mitigation) (e : Entry) (later : List Entry) → names n t passed e later ≡ true → Named n t passed e later
named n t passed e later is =
    elim (or_cases
    (live t e (status e Open later) || list_any (is_first t e later) passed)
    ((is_recent n e later || is_nil later) || stays e later)
    is) [
      | inl mitigation ↦
          elim (or_cases (live t e (status e Open later)) (list_any (is_first t e later) passed) mitigation) [
            | inl now ↦ lives now
            | inr first ↦ withdrawal first
          ]
      | inr other ↦
          elim (or_cases (is_recent n e later || is_nil later) (stays e later) other) [
            | inl end ↦
                elim (or_cases (is_recent n e later) (is_nil later) end) [
                  | inl recent ↦ among_last recent
                  | inr nothing ↦ at_end nothing
                ]
            | inr held_still ↦ holds held_still
          ]
    ]

-- what isn't live isn't among the held
pub not_live : (t : ℕ) (put : Entry) (s : Status) → live t put s ≡ false → if_live t put s ≡ None
not_live t put s dead = ap (λ b. cond b (Some (record { put = put; status = s })) None) dead

-- what has ended isn't live in the end
pub ended_dead : (t : ℕ) (put : Entry) (s : Status) (later : List Entry) → s ≡ Ended → live t put (status put s later) ≡ true → ⊥
ended_dead t put s later ended is =
    false≢true (sym (ap (live t put) (ap (λ x. status put x later) ended ∙ ended_stays put later)) ∙ is)

-- an entry that isn't named changes nothing of what is live in the end
pub no_change : (n t : ℕ) (put : Entry) (s : Status) (passed : List Mitigation) (e : Entry) (later : List Entry) → In (record { put = put; status = s }) passed
    → list_any (is_first t e later) passed ≡ false → live t put (status put (step put s e) later) ≡ true → step put s e ≡ s
no_change n t put Ended passed e later there out is = refl
no_change n t put Open passed e later there out is =
    elim (cases_Bool (ends put e)) [
      | inl ended ↦
          absurd (ended_dead t put (step put Open e) later (ap (λ b. cond b Ended (cond (withdraws put e) (Withdrawn e.time) Open)) ended) is)
      | inr not_ended ↦
          elim (cases_Bool (withdraws put e)) [
            | inl taken ↦
                absurd (both_ways
                (list_any (is_first t e later) passed)
                out
                (any_of (is_first t e later) (record { put = put; status = Open }) passed there (and_from (withdraws put e) (live t put (status put (step put Open e) later)) taken is)))
            | inr untaken ↦ untouched put Open e not_ended untaken
          ]
    ]
no_change n t put (Withdrawn at) passed e later there out is =
    elim (cases_Bool (ends put e)) [
      | inl ended ↦ absurd (ended_dead t put (step put (Withdrawn at) e) later (ap (λ b. cond b Ended (Withdrawn at)) ended) is)
      | inr not_ended ↦ ap (λ b. cond b Ended (Withdrawn at)) not_ended
    ]

pub still_there : (put : Entry) (s : Status) (passed : List Mitigation) (e : Entry) → In (record { put = put; status = s }) passed
    → In (record { put = put; status = step put s e }) (pass passed e)
still_there put s passed e there =
    in_front (record { put = put; status = step put s e }) (map (moved e) passed) (record { put = e; status = Open } ∷ []) (in_map (moved e) (record { put = put; status = s }) passed there)

-- a mitigation that is live in the end has the same status in the end
pub live_kept : (n t : ℕ) (put : Entry) (s : Status) (passed : List Mitigation) (later : List Entry) → In (record { put = put; status = s }) passed
    → live t put (status put s later) ≡ true → status put s (kept_by (names n t) passed later) ≡ status put s later
live_kept n t put s passed [] there is = refl
live_kept n t put s passed (e ∷ later) there is =
    let go = live_kept n t put (step put s e) (pass passed e) later (still_there put s passed e there) is in
    by_first
    (names n t)
    passed
    e
    later
    (λ es. status put s es ≡ status put (step put s e) later)
    (λ kept. go)
    (λ out.
    ap
    (λ x. status put x (kept_by (names n t) (pass passed e) later))
    (sym (no_change n t put s passed e later there (unnamed n t passed e later out).no_first is))
    ∙ go)

-- fewer signal entries come after an entry than before it
pub fewer : (n : ℕ) (test : Entry → Bool) (e : Entry) (later : List Entry) → nat_lt (tally test (e ∷ later)) n ≡ true → nat_lt (tally test later) n ≡ true
fewer n test e later few =
    let less : tally test (e ∷ later) < n = ltb-true (tally test (e ∷ later)) n few in
    cond_both
    (test e)
    1
    0
    (λ k. k + tally test later < n → nat_lt (tally test later) n ≡ true)
    (λ is under. lt-ltb (tally test later) n (omega (arith, under)))
    (λ out under. lt-ltb (tally test later) n (omega (arith, under)))
    less

-- a signal entry of a peer and domain is among the last where fewer than n come after what is before it
pub still_recent : (n peer domain : ℕ) (e : Entry) (later : List Entry) → signals peer domain e ≡ true
    → nat_lt (tally (signals peer domain) (e ∷ later)) n ≡ true → is_recent n e later ≡ true
still_recent n peer domain e later is few =
    let parts = signal_parts peer domain e is in
    let after = fewer n (signals peer domain) e later few in
    and_from
    (is_signal e.change)
    (nat_lt (tally (signals e.peer e.domain) later) n)
    parts.0
    (subst
    (λ d. nat_lt (tally (signals e.peer d) later) n ≡ true)
    (sym parts.2)
    (subst (λ p. nat_lt (tally (signals p domain) later) n ≡ true) (sym parts.1) after))

-- an entry that isn't named changes nothing of what is among the last and live
pub unchanged : (n t : ℕ) (put : Entry) (s : Status) (passed : List Mitigation) (e : Entry) (later : List Entry)
    → nat_lt (tally (signals put.peer put.domain) (e ∷ later)) n ≡ true → (touches put e ≡ true → e.peer ≡ put.peer)
    → is_recent n e later ≡ false → step put s e ≡ s
unchanged n t put s passed e later few peers old =
    elim (cases_Bool (touches put e)) [
      | inl touched ↦
          absurd (both_ways
          (is_recent n e later)
          old
          (still_recent n put.peer put.domain e later (touch_signals put e touched (peers touched)) few))
      | inr not_touched ↦
          let parts = or_parts (ends put e) (withdraws put e) not_touched in untouched put s e parts.0 parts.1
    ]

-- a mitigation among the last is live in the end as it was
pub recent_fate : (n t u low : ℕ) (put : Entry) (s : Status) (passed : List Mitigation) (later : List Entry)
    → nat_lt (tally (signals put.peer put.domain) later) n ≡ true → OnePeer put s later → Within low later u
    → if_live u put (status put s (kept_by (names n t) passed later)) ≡ if_live u put (status put s later)
recent_fate n t u low put s passed [] few one within = refl
recent_fate n t u low put s passed (e ∷ later) few one within =
    let go =
    recent_fate n t u e.time put (step put s e) (pass passed e) later (fewer n (signals put.peer put.domain) e later few) one.1 within.1 in
    elim (cases_Bool (live e.time put s)) [
      | inl now ↦
          by_first
          (names n t)
          passed
          e
          later
          (λ es. if_live u put (status put s es) ≡ if_live u put (status put (step put s e) later))
          (λ kept. go)
          (λ out.
          ap
          (λ x. if_live u put (status put x (kept_by (names n t) (pass passed e) later)))
          (sym (unchanged n t put s passed e later few (one.0 now) (unnamed n t passed e later out).old))
          ∙ go)
      | inr dead ↦
          let whole : Within e.time (e ∷ later) u = (le_refl e.time, within.1) in
          not_live
          u
          put
          (status put s (kept_by (names n t) passed (e ∷ later)))
          (dead_for_good put s e.time u (kept_by (names n t) passed (e ∷ later)) dead (kept_within (names n t) passed e.time u (e ∷ later) whole))
          ∙ sym (not_live u put (status put s (e ∷ later)) (dead_for_good put s e.time u (e ∷ later) dead whole))
    ]
