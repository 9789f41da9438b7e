-- What one more entry does to the live mitigations of a domain.
use Rattle.std.proofs.Common.{◌≡◌, ℕ, Bool, true, false, cond, List, [], ◌∷◌, filter, Option, Some, None, inl, inr, refl, sym, ap, ◌∙◌}
use Rattle.std.specs.Prelude.{◌==◌}
use Rattle.std.proofs.lemmas.Bool.{both_ways, cond_both, cond-true, cond-false, cases_Bool, or_parts, false_from_ne_true, eqb-true, eq-eqb}
use Rattle.dots_history.specs.declared.entry.Entry.{Entry}
use Rattle.dots_history.specs.declared.put.Put.{Put}
use Rattle.dots_history.specs.declared.status.Status.TheVariants.{Open}
use Rattle.dots_history.specs.Entries.{put_of, ends, withdraws, is_signal}
use Rattle.dots_history.specs.Histories.{Mitigation, live}
use Rattle.dots_history.specs.Keeping.{moved, pass}
use Rattle.dots_history.specs.Views.{mitigations_at, mitigations_with, mitigations_of}
use Rattle.dots_history.proofs.Touching.{touches, touch_parts, never_live, untouched, one_domain, put_signals}

abbrev passes : Entry → Mitigation → Bool
passes e m = live e.time m.put m.status

abbrev in_domain : ℕ → Mitigation → Bool
in_domain domain m = m.put.domain == domain

-- one that an entry doesn't touch is as before
still : (e : Entry) (m : Mitigation) → touches m.put e ≡ false → moved e m ≡ m
still e m out =
    let parts = or_parts (ends m.put e) (withdraws m.put e) out in
    ap (λ s. record { put = m.put; status = s }) (untouched m.put m.status e parts.0 parts.1)

far : (domain : ℕ) (e : Entry) (m : Mitigation) → (e.domain == domain) ≡ false → (m.put.domain == domain) ≡ true → touches m.put e ≡ false
far domain e m other own =
    false_from_ne_true
    (touches m.put e)
    (λ is.
    both_ways
    (e.domain == domain)
    other
    (eq-eqb e.domain domain (one_domain m.put e (touch_parts m.put e is).0 ∙ eqb-true m.put.domain domain own)))

-- two tests in either order
swap : {A : Type 0} (p q : A → Bool) (x : A) (rest both : List A) → filter q (filter p rest) ≡ both
    → filter q (cond (p x) (x ∷ filter p rest) (filter p rest)) ≡ cond (p x) (cond (q x) (x ∷ both) both) both
swap p q x rest both same =
    cond_both
    (p x)
    (x ∷ filter p rest)
    (filter p rest)
    (λ ys. filter q ys ≡ cond (p x) (cond (q x) (x ∷ both) both) both)
    (λ is. ap (λ ys. cond (q x) (x ∷ ys) ys) same ∙ sym (cond-true (p x) (cond (q x) (x ∷ both) both) both is))
    (λ out. same ∙ sym (cond-false (p x) (cond (q x) (x ∷ both) both) both out))

pub own_with : (domain : ℕ) (e : Entry) (ms : List Mitigation) → (e.domain == domain) ≡ true
    → mitigations_of domain (mitigations_with e ms) ≡ mitigations_with e (mitigations_of domain ms)
own_with domain e [] own =
    cond_both
    (live e.time e Open)
    (record { put = e; status = Open } ∷ [])
    []
    (λ ys. filter (in_domain domain) ys ≡ ys)
    (λ is. cond-true (e.domain == domain) (record { put = e; status = Open } ∷ []) [] own)
    (λ out. refl)
own_with domain e (m ∷ ms) own =
    let go = own_with domain e ms own in
    swap (passes e) (in_domain domain) (moved e m) (pass ms e) (mitigations_with e (mitigations_of domain ms)) go
    ∙ cond_both
    (m.put.domain == domain)
    (m ∷ mitigations_of domain ms)
    (mitigations_of domain ms)
    (λ ys.
    cond
    (passes e (moved e m))
    (cond (m.put.domain == domain) (moved e m ∷ mitigations_with e (mitigations_of domain ms)) (mitigations_with e (mitigations_of domain ms)))
    (mitigations_with e (mitigations_of domain ms))
    ≡ mitigations_with e ys)
    (λ is.
    ap
    (λ ys. cond (passes e (moved e m)) ys (mitigations_with e (mitigations_of domain ms)))
    (cond-true (m.put.domain == domain) (moved e m ∷ mitigations_with e (mitigations_of domain ms)) (mitigations_with e (mitigations_of domain ms)) is))
    (λ out.
    ap
    (λ ys. cond (passes e (moved e m)) ys (mitigations_with e (mitigations_of domain ms)))
    (cond-false (m.put.domain == domain) (moved e m ∷ mitigations_with e (mitigations_of domain ms)) (mitigations_with e (mitigations_of domain ms)) out)
    ∙ both_same (passes e (moved e m)) (mitigations_with e (mitigations_of domain ms)))
  where
    both_same : {A : Type 0} (b : Bool) (x : A) → cond b x x ≡ x
    both_same true x = refl
    both_same false x = refl

pub other_with : (domain : ℕ) (e : Entry) (ms : List Mitigation) → (e.domain == domain) ≡ false
    → mitigations_of domain (mitigations_with e ms) ≡ mitigations_at e.time (mitigations_of domain ms)
other_with domain e [] other =
    cond_both
    (live e.time e Open)
    (record { put = e; status = Open } ∷ [])
    []
    (λ ys. filter (in_domain domain) ys ≡ [])
    (λ is. cond-false (e.domain == domain) (record { put = e; status = Open } ∷ []) [] other)
    (λ out. refl)
other_with domain e (m ∷ ms) other =
    let go = other_with domain e ms other in
    let rest = mitigations_at e.time (mitigations_of domain ms) in
    swap (passes e) (in_domain domain) (moved e m) (pass ms e) rest go
    ∙ elim (cases_Bool (m.put.domain == domain)) [
      | inl own ↦
          ap (λ b. cond (passes e (moved e m)) (cond b (moved e m ∷ rest) rest) rest) own
          ∙ ap (λ x. cond (passes e x) (x ∷ rest) rest) (still e m (far domain e m other own))
          ∙ sym (ap (mitigations_at e.time) (cond-true (m.put.domain == domain) (m ∷ mitigations_of domain ms) (mitigations_of domain ms) own))
      | inr out ↦
          ap (λ b. cond (passes e (moved e m)) (cond b (moved e m ∷ rest) rest) rest) out
          ∙ both_same (passes e (moved e m)) rest
          ∙ sym (ap (mitigations_at e.time) (cond-false (m.put.domain == domain) (m ∷ mitigations_of domain ms) (mitigations_of domain ms) out))
    ]
  where
    both_same : {A : Type 0} (b : Bool) (x : A) → cond b x x ≡ x
    both_same true x = refl
    both_same false x = refl

-- an entry that is no signal entry does nothing
no_put : (e : Entry) → is_signal e.change ≡ false → put_of e.change ≡ None
no_put e out = by_put (put_of e.change) refl
  where
    by_put : (o : Option Put) → put_of e.change ≡ o → put_of e.change ≡ None
    by_put None none = none
    by_put (Some put) there = absurd (both_ways (is_signal e.change) out (put_signals e.change put there))

pub quiet_with : (e : Entry) (ms : List Mitigation) → is_signal e.change ≡ false → mitigations_with e ms ≡ mitigations_at e.time ms
quiet_with e [] out = cond-false (live e.time e Open) (record { put = e; status = Open } ∷ []) [] (never_live e.time e Open (no_put e out))
quiet_with e (m ∷ ms) out =
    let go = quiet_with e ms out in
    let quiet = false_from_ne_true (touches m.put e) (λ is. both_ways (is_signal e.change) out (touch_parts m.put e is).1) in
    ap (λ rest. cond (passes e (moved e m)) (moved e m ∷ rest) rest) go
    ∙ ap (λ x. cond (passes e x) (x ∷ mitigations_at e.time ms) (mitigations_at e.time ms)) (still e m quiet)
