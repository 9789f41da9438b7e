-- How many entries a view names at most.
use Rattle.std.proofs.Common.{◌≡◌, ℕ, ◌+◌, ◌*◌, ◌≤◌, Bool, true, false, cond, ◌&&◌, not, List, [], ◌∷◌, ◌++◌, map, length, Some, None, inl, inr, refl, ap, ◌∙◌, arith}
use Rattle.std.specs.Prelude.{option_to_list}
use Rattle.std.specs.List.{list_any}
use Rattle.std.proofs.lemmas.Bool.{false≢true, true≢false, cond_both, cases_Bool, and_parts, and_from, and_left, or_cases, not_from_false}
use Rattle.dots_history.specs.declared.entry.Entry.{Entry}
use Rattle.dots_history.specs.declared.status.Status.{Status}
use Rattle.dots_history.specs.declared.status.Status.TheVariants.{Ended, Open, Withdrawn}
use Rattle.dots_history.specs.Entries.{ends, withdraws}
use Rattle.dots_history.specs.Histories.{Mitigation, live, status, step, tally, is_recent, recent, is_nil, stays, held, last, mitigations}
use Rattle.dots_history.proofs.Fates.{ended_stays}
use Rattle.dots_history.specs.Keeping.{is_open, is_first, names, moved, pass, kept_by, kept}
use Rattle.dots_history.proofs.Keeping.{by_first}
use Rattle.dots_history.proofs.Dropping.{Named, lives, withdrawal, among_last, at_end, holds, named, ended_dead}

abbrev one : Bool → ℕ
one b = cond b 1 0

-- it is open, will be live, and withdrawn
abbrev waiting : ℕ → List Entry → Mitigation → Bool
waiting t later m =
    (is_open m.status && live t m.put (status m.put m.status later)) && not (is_open (status m.put m.status later))

open_before : (put : Entry) (s : Status) (e : Entry) → is_open (step put s e) ≡ true → is_open s ≡ true
open_before put Ended e is = is
open_before put Open e is = refl
open_before put (Withdrawn at) e is =
    absurd (cond_both (ends put e) Ended (Withdrawn at) (λ s. is_open s ≡ true → ⊥) (λ ended now. false≢true now) (λ not_ended now. false≢true now) is)

waited : (t : ℕ) (e : Entry) (later : List Entry) (m : Mitigation) → waiting t later (moved e m) ≡ true → waiting t (e ∷ later) m ≡ true
waited t e later m is =
    let s = step m.put m.status e in
    let parts = and_parts (is_open s && live t m.put (status m.put s later)) (not (is_open (status m.put s later))) is in
    let front = and_parts (is_open s) (live t m.put (status m.put s later)) parts.0 in
    and_from
    (is_open m.status && live t m.put (status m.put s later))
    (not (is_open (status m.put s later)))
    (and_from (is_open m.status) (live t m.put (status m.put s later)) (open_before m.put m.status e front.0) front.1)
    parts.1

not_more : (x y : Bool) (a b : ℕ) → (x ≡ true → y ≡ true) → a ≤ b → one x + a ≤ one y + b
not_more true true a b both less = omega (arith, less)
not_more true false a b both less = absurd (false≢true (both refl))
not_more false true a b both less = omega (arith, less)
not_more false false a b both less = omega (arith, less)

waits : (t : ℕ) (e : Entry) (later : List Entry) (passed : List Mitigation) → tally (waiting t later) (map (moved e) passed) ≤ tally (waiting t (e ∷ later)) passed
waits t e later [] = omega arith
waits t e later (m ∷ passed) =
    not_more
    (waiting t later (moved e m))
    (waiting t (e ∷ later) m)
    (tally (waiting t later) (map (moved e) passed))
    (tally (waiting t (e ∷ later)) passed)
    (waited t e later m)
    (waits t e later passed)

-- what was withdrawn isn't open again
not_open : (put : Entry) (at : ℕ) (later : List Entry) → is_open (status put (Withdrawn at) later) ≡ false
not_open put at [] = refl
not_open put at (e ∷ later) =
    cond_both
    (ends put e)
    Ended
    (Withdrawn at)
    (λ s. is_open (status put s later) ≡ false)
    (λ ended. ap is_open (ended_stays put later))
    (λ not_ended. not_open put at later)

-- a first withdrawal ends a wait
first_ends : (t : ℕ) (e : Entry) (later : List Entry) (put : Entry) (s : Status) → is_first t e later (record { put = put; status = s }) ≡ true
    → (waiting t (e ∷ later) (record { put = put; status = s }) ≡ true) × (is_open (step put s e) ≡ false)
first_ends t e later put Ended is = absurd (false≢true is)
first_ends t e later put (Withdrawn at) is = absurd (false≢true is)
first_ends t e later put Open is =
    let parts = and_parts (withdraws put e) (live t put (status put (step put Open e) later)) is in
    elim (cases_Bool (ends put e)) [
      | inl ended ↦
          absurd (ended_dead t put (step put Open e) later (ap (λ b. cond b Ended (cond (withdraws put e) (Withdrawn e.time) Open)) ended) parts.1)
      | inr not_ended ↦
          let now : step put Open e ≡ Withdrawn e.time =
          ap (λ b. cond b Ended (cond (withdraws put e) (Withdrawn e.time) Open)) not_ended ∙ ap (λ b. cond b (Withdrawn e.time) Open) parts.0 in (
            and_from
                (live t put (status put (step put Open e) later))
                (not (is_open (status put (step put Open e) later)))
                parts.1
                (not_from_false (is_open (status put (step put Open e) later)) (ap (λ s. is_open (status put s later)) now ∙ not_open put e.time later)),
            ap is_open now,
          )
    ]

less_by_one : (x y : Bool) (a b : ℕ) → x ≡ false → y ≡ true → a ≤ b → 1 + (one x + a) ≤ one y + b
less_by_one true y a b out is less = absurd (true≢false out)
less_by_one false true a b out is less = omega (arith, less)
less_by_one false false a b out is less = absurd (false≢true is)

one_later : (x y : Bool) (a b : ℕ) → (x ≡ true → y ≡ true) → 1 + a ≤ b → 1 + (one x + a) ≤ one y + b
one_later true true a b both less = omega (arith, less)
one_later true false a b both less = absurd (false≢true (both refl))
one_later false true a b both less = omega (arith, less)
one_later false false a b both less = omega (arith, less)

first_waits : (t : ℕ) (e : Entry) (later : List Entry) (passed : List Mitigation) → list_any (is_first t e later) passed ≡ true
    → 1 + tally (waiting t later) (map (moved e) passed) ≤ tally (waiting t (e ∷ later)) passed
first_waits t e later [] is = absurd (false≢true is)
first_waits t e later (m ∷ passed) is =
    let s = step m.put m.status e in
    elim (or_cases (is_first t e later m) (list_any (is_first t e later) passed) is) [
      | inl first ↦
          let ends = first_ends t e later m.put m.status first in
          less_by_one
          (waiting t later (moved e m))
          (waiting t (e ∷ later) m)
          (tally (waiting t later) (map (moved e) passed))
          (tally (waiting t (e ∷ later)) passed)
          (and_left
          (is_open s && live t m.put (status m.put s later))
          (not (is_open (status m.put s later)))
          (and_left (is_open s) (live t m.put (status m.put s later)) ends.1))
          ends.0
          (waits t e later passed)
      | inr more ↦
          one_later
          (waiting t later (moved e m))
          (waiting t (e ∷ later) m)
          (tally (waiting t later) (map (moved e) passed))
          (tally (waiting t (e ∷ later)) passed)
          (waited t e later m)
          (first_waits t e later passed more)
    ]

tally_back : (test : Mitigation → Bool) (xs : List Mitigation) (x : Mitigation) → tally test (xs ++ x ∷ []) ≡ tally test xs + one (test x)
tally_back test [] x = omega arith
tally_back test (y ∷ xs) x = let rest = tally_back test xs x in omega (arith, rest)

length_option : {A : Type 0} → (b : Bool) (x : A) (xs : List A) → length (option_to_list (cond b (Some x) None) ++ xs) ≡ one b + length xs
length_option true x xs = omega arith
length_option false x xs = omega arith

sum_up : (k m r h l w b br bh bl before after own : ℕ) → k ≤ 2 * m + r + h + l + (after + w) → w ≤ b → own + after ≤ b + br + bh + bl + before
    → own + k ≤ 2 * (b + m) + (br + r) + (bh + h) + (bl + l) + before
sum_up k m r h l w b br bh bl before after own rest less step = omega (arith, rest, less, step)

live_waits : (t : ℕ) (e : Entry) (later : List Entry) → one (waiting t later (record { put = e; status = Open })) ≤ one (live t e (status e Open later))
live_waits t e later = by_live (live t e (status e Open later)) (not (is_open (status e Open later)))
  where
    by_live : (b c : Bool) → one (b && c) ≤ one b
    by_live true true = omega arith
    by_live true false = omega arith
    by_live false c = omega arith

one_of : (b : Bool) → b ≡ true → one b ≡ 1
one_of b is = ap one is

-- what one more entry adds, by why it is named
adds : (n t : ℕ) (passed : List Mitigation) (e : Entry) (later : List Entry) → Named n t passed e later
    → 1 + tally (waiting t later) (map (moved e) passed)
    ≤ one (live t e (status e Open later)) + one (is_recent n e later) + one (stays e later) + one (is_nil later) + tally (waiting t (e ∷ later)) passed
adds n t passed e later (lives now) =
    let is = one_of (live t e (status e Open later)) now in let rest = waits t e later passed in omega (arith, is, rest)
adds n t passed e later (withdrawal first) = let rest = first_waits t e later passed first in omega (arith, rest)
adds n t passed e later (among_last among) =
    let is = one_of (is_recent n e later) among in let rest = waits t e later passed in omega (arith, is, rest)
adds n t passed e later (at_end nothing) =
    let is = one_of (is_nil later) nothing in let rest = waits t e later passed in omega (arith, is, rest)
adds n t passed e later (holds still) =
    let is = one_of (stays e later) still in let rest = waits t e later passed in omega (arith, is, rest)

at_most : (n t : ℕ) (passed : List Mitigation) (entries : List Entry)
    → length (kept_by (names n t) passed entries)
    ≤ 2 * length (mitigations t entries) + length (recent n entries) + length (held entries) + length (last entries) + tally (waiting t entries) passed
at_most n t passed [] = omega arith
at_most n t passed (e ∷ later) =
    let go = at_most n t (pass passed e) later in
    let back = tally_back (waiting t later) (map (moved e) passed) (record { put = e; status = Open }) in
    let ms = length_option (live t e (status e Open later)) (record { put = e; status = status e Open later }) (mitigations t later) in
    let rs = length_option (is_recent n e later) e (recent n later) in
    let hs = length_option (stays e later) e (held later) in
    let ls = length_option (is_nil later) e (last later) in
    let ready = live_waits t e later in
    by_first
    (names n t)
    passed
    e
    later
    (λ es.
    length es
    ≤ 2 * length (mitigations t (e ∷ later)) + length (recent n (e ∷ later)) + length (held (e ∷ later)) + length (last (e ∷ later)) + tally (waiting t (e ∷ later)) passed)
    (λ is. let step = adds n t passed e later (named n t passed e later is) in omega (arith, go, back, ms, rs, hs, ls, ready, step))
    (λ out. let step = waits t e later passed in omega (arith, go, back, ms, rs, hs, ls, ready, step))

pub few : (n t : ℕ) (entries : List Entry)
    → length (kept n t entries) ≤ 2 * length (mitigations t entries) + length (recent n entries) + length (held entries) + length (last entries)
few n t entries = let all = at_most n t [] entries in omega (arith, all)
