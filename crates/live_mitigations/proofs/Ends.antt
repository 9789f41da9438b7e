-- When mitigations are over, as seconds.
use Rattle.std.proofs.Common.{◌≡◌, ℕ, ◌<◌, ◌≤◌, suc, pos, negsuc, true, cond, not, ◌||◌, List, [], ◌∷◌, length, inl, inr, refl, sym, ap, ◌∙◌, arith}
use Rattle.std.specs.Prelude.{nat_lt, nat_le, min}
use Rattle.std.specs.List.{list_any}
use Rattle.std.proofs.lemmas.Bool.{false≢true, cond_both, cases_lt, lt-ltb, le-ltb, le-leb, lt-leb}
use Rattle.dots_history.specs.declared.entry.Entry.{Entry}
use Rattle.dots_history.specs.declared.status.Status.{Status}
use Rattle.dots_history.specs.Histories.{Mitigation, live}
use Rattle.dots_history.specs.Tables.{End, Over, Until, Never, end_of, is_before, is_due}
use Rattle.dots_history.specs.Views.{mitigations_at}
use Rattle.dots_history.proofs.Endings.{live_end, none_due}
use Rattle.live_mitigations.specs.Ends.{never, second_of, end_second, first_end}

before_second : (t : ℕ) (end : End) → t < never → is_before t end ≡ nat_lt t (second_of end)
before_second t Over less = sym (le-ltb t 0 (omega arith))
before_second t (Until (pos n)) less =
    elim (cases_lt t n) [
      | inl under ↦ lt-ltb t n under ∙ sym (lt-ltb t (min n never) (omega (arith, under, less)))
      | inr over ↦ le-ltb t n over ∙ sym (le-ltb t (min n never) (omega (arith, over)))
    ]
before_second t (Until (negsuc n)) less = sym (le-ltb t (min 0 never) (omega arith))
before_second t Never less = sym (lt-ltb t never less)

-- a mitigation is live exactly before its end
pub live_second : (t : ℕ) (put : Entry) (s : Status) → t < never → live t put s ≡ nat_lt t (second_of (end_of put s))
live_second t put s less = live_end t put s ∙ before_second t (end_of put s) less

not_before : (t k : ℕ) → not (nat_lt t k) ≡ nat_le k t
not_before t k =
    elim (cases_lt t k) [
      | inl under ↦ ap not (lt-ltb t k under) ∙ sym (lt-leb k t under)
      | inr over ↦ ap not (le-ltb t k over) ∙ sym (le-leb k t over)
    ]

due_second : (u : ℕ) (m : Mitigation) → u < never → is_due u m ≡ nat_le (end_second m) u
due_second u m less = ap not (before_second u (end_of m.put m.status) less) ∙ not_before u (end_second m)

either_le : (a b u : ℕ) → (nat_le a u || nat_le b u) ≡ nat_le (min a b) u
either_le a b u =
    elim (cases_lt u a) [
      | inl above ↦
          ap (λ x. x || nat_le b u) (lt-leb a u above)
          ∙ (elim (cases_lt u b) [
            | inl too ↦ lt-leb b u too ∙ sym (lt-leb (min a b) u (omega (arith, above, too)))
            | inr under ↦ le-leb b u under ∙ sym (le-leb (min a b) u (omega (arith, above, under)))
          ])
      | inr under ↦ ap (λ x. x || nat_le b u) (le-leb a u under) ∙ sym (le-leb (min a b) u (omega (arith, under)))
    ]

-- one of them is over exactly from the first end on
pub any_due : (u : ℕ) (ms : List Mitigation) → u < never → list_any (is_due u) ms ≡ nat_le (first_end ms) u
any_due u [] less = sym (lt-leb never u less)
any_due u (m ∷ ms) less =
    ap (λ x. x || list_any (is_due u) ms) (due_second u m less)
    ∙ ap (λ x. nat_le (end_second m) u || x) (any_due u ms less)
    ∙ either_le (end_second m) (first_end ms) u

-- before it all are live
pub all_live : (u : ℕ) (ms : List Mitigation) → u < never → u < first_end ms → mitigations_at u ms ≡ ms
all_live u ms less before = none_due u ms (any_due u ms less ∙ lt-leb (first_end ms) u before)

at_most : (u : ℕ) (ms : List Mitigation) → length (mitigations_at u ms) ≤ length ms
at_most u [] = omega arith
at_most u (m ∷ ms) =
    let go = at_most u ms in
    cond_both
    (live u m.put m.status)
    (m ∷ mitigations_at u ms)
    (mitigations_at u ms)
    (λ xs. length xs ≤ suc (length ms))
    (λ is. omega (arith, go))
    (λ out. omega (arith, go))

-- where one is over, fewer are left
pub fewer_left : (u : ℕ) (ms : List Mitigation) → list_any (is_due u) ms ≡ true → length (mitigations_at u ms) < length ms
fewer_left u [] is = absurd (false≢true is)
fewer_left u (m ∷ ms) is =
    cond_both
    (live u m.put m.status)
    (m ∷ mitigations_at u ms)
    (mitigations_at u ms)
    (λ xs. length xs < suc (length ms))
    (λ still.
    let go = fewer_left u ms (ap (λ b. not b || list_any (is_due u) ms) (sym (sym (live_end u m.put m.status) ∙ still)) ∙ is) in
    omega (arith, go))
    (λ out. let most = at_most u ms in omega (arith, most))

-- what is left is left once more
pub left_twice : (u : ℕ) (ms : List Mitigation) → mitigations_at u (mitigations_at u ms) ≡ mitigations_at u ms
left_twice u [] = refl
left_twice u (m ∷ ms) =
    let go = left_twice u ms in
    cond_both
    (live u m.put m.status)
    (m ∷ mitigations_at u ms)
    (mitigations_at u ms)
    (λ xs. mitigations_at u xs ≡ xs)
    (λ is. ap (λ b. cond b (m ∷ mitigations_at u (mitigations_at u ms)) (mitigations_at u (mitigations_at u ms))) is ∙ ap (λ xs. m ∷ xs) go)
    (λ out. go)

pub first_most : (ms : List Mitigation) → first_end ms ≤ never
first_most [] = omega arith
first_most (m ∷ ms) = let go = first_most ms in omega (arith, go)
