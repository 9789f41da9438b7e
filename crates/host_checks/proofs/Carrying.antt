-- Entries of one domain, whose number is another one now, come to what they came to.
use Rattle.std.proofs.Common.{◌≡◌, ℕ, Bool, true, false, cond, not, ◌&&◌, ◌||◌, List, [], ◌∷◌, ◌++◌, filter, map, Option, Some, None, inl, inr, refl, sym, ap, ◌∙◌, subst}
use Rattle.std.specs.Prelude.{option_to_list, ◌==◌, bytes_eq}
use Rattle.std.specs.List.{list_any, AllByRecursion}
use Rattle.std.proofs.lemmas.Bool.{cond_both, eq-eqb, eqb-true}
use Rattle.dots_history.specs.declared.entry.Entry.{Entry}
use Rattle.dots_history.specs.declared.status.Status.{Status}
use Rattle.dots_history.specs.declared.status.Status.TheVariants.{Ended, Open, Withdrawn}
use Rattle.dots_history.specs.Entries.{same_client, ends, replaces, withdraws, takes_back, runs, undoes, undoes_of_client, reconfigures, resumes, undoes_loss, is_held}
use Rattle.dots_history.specs.Histories.{Mitigation, live, if_live, status, step, mitigations, stays, held, alone}
use Rattle.dots_history.specs.Views.{held_with}
use Rattle.host_checks.specs.Migrating.{with_domain}

abbrev pub to_domain : ℕ → Entry → Entry
to_domain number e = with_domain e number

abbrev pub put_to : ℕ → Mitigation → Mitigation
put_to number m = record { put = to_domain number m.put; status = m.status }

abbrev pub IsIn : ℕ → Entry → Type 0
IsIn domain e = e.domain ≡ domain

same_domain : (number domain a b : ℕ) → a ≡ domain → b ≡ domain → (number == number) ≡ (a == b)
same_domain number domain a b one other = eq-eqb number number refl ∙ sym (eq-eqb a b (one ∙ sym other))

pub client_to : (number domain : ℕ) (a b : Entry) → IsIn domain a → IsIn domain b → same_client (to_domain number a) (to_domain number b) ≡ same_client a b
unfolding same_client
client_to number domain a b one other = ap (λ t. t && bytes_eq a.cuid b.cuid) (same_domain number domain a.domain b.domain one other)

ends_to : (number domain : ℕ) (a b : Entry) → IsIn domain a → IsIn domain b → ends (to_domain number a) (to_domain number b) ≡ ends a b
unfolding ends
ends_to number domain a b one other = ap (λ t. t && replaces a.change b.change) (client_to number domain a b one other)

withdraws_to : (number domain : ℕ) (a b : Entry) → IsIn domain a → IsIn domain b → withdraws (to_domain number a) (to_domain number b) ≡ withdraws a b
unfolding withdraws
withdraws_to number domain a b one other = ap (λ t. t && takes_back a.change b.change) (client_to number domain a b one other)

pub undoes_to : (number domain : ℕ) (a b : Entry) → IsIn domain a → IsIn domain b → undoes (to_domain number a) (to_domain number b) ≡ undoes a b
unfolding undoes reconfigures resumes
undoes_to number domain a b one other =
    ap (λ t. (t && undoes_of_client a.change b.change) || (reconfigures a b || resumes (to_domain number a) (to_domain number b))) (client_to number domain a b one other)
    ∙ ap (λ t. (same_client a b && undoes_of_client a.change b.change) || (reconfigures a b || ((a.peer == b.peer) && (t && undoes_loss a.change b.change)))) (same_domain number domain a.domain b.domain one other)

step_to : (number domain : ℕ) (put : Entry) (s : Status) (e : Entry) → IsIn domain put → IsIn domain e → step (to_domain number put) s (to_domain number e) ≡ step put s e
step_to number domain put Ended e one other = refl
step_to number domain put Open e one other =
    ap (λ t. cond t Ended (cond (withdraws (to_domain number put) (to_domain number e)) (Withdrawn e.time) Open)) (ends_to number domain put e one other)
    ∙ ap (λ t. cond (ends put e) Ended (cond t (Withdrawn e.time) Open)) (withdraws_to number domain put e one other)
step_to number domain put (Withdrawn at) e one other = ap (λ t. cond t Ended (Withdrawn at)) (ends_to number domain put e one other)

status_to : (number domain : ℕ) (put : Entry) (s : Status) (later : List Entry) → IsIn domain put → AllByRecursion (IsIn domain) later
    → status (to_domain number put) s (map (to_domain number) later) ≡ status put s later
status_to number domain put s [] one all = refl
status_to number domain put s (e ∷ later) one all =
    ap (λ now. status (to_domain number put) now (map (to_domain number) later)) (step_to number domain put s e one all.0)
    ∙ status_to number domain put (step put s e) later one all.1

live_to : (number t : ℕ) (put : Entry) (s : Status) → live t (to_domain number put) s ≡ live t put s
unfolding runs
live_to number t put Open = refl
live_to number t put Ended = refl
live_to number t put (Withdrawn at) = refl

option_to : (number : ℕ) (b : Bool) (put : Entry) (s : Status) (rest : List Mitigation)
    → option_to_list (cond b (Some (put_to number (record { put = put; status = s }))) None) ++ map (put_to number) rest
    ≡ map (put_to number) (option_to_list (cond b (Some (record { put = put; status = s })) None) ++ rest)
option_to number true put s rest = refl
option_to number false put s rest = refl

pub mitigations_to : (number domain t : ℕ) (entries : List Entry) → AllByRecursion (IsIn domain) entries
    → mitigations t (map (to_domain number) entries) ≡ map (put_to number) (mitigations t entries)
mitigations_to number domain t [] all = refl
mitigations_to number domain t (e ∷ later) all =
    let s = status e Open later in
    ap (λ now. option_to_list (if_live t (to_domain number e) now) ++ mitigations t (map (to_domain number) later)) (status_to number domain e Open later all.0 all.1)
    ∙ ap (λ b. option_to_list (cond b (Some (put_to number (record { put = e; status = s }))) None) ++ mitigations t (map (to_domain number) later)) (live_to number t e s)
    ∙ ap (λ ms. option_to_list (cond (live t e s) (Some (put_to number (record { put = e; status = s }))) None) ++ ms) (mitigations_to number domain t later all.1)
    ∙ option_to number (live t e s) e s (mitigations t later)

-- ---- what is held
any_undone : (number domain : ℕ) (e : Entry) (later : List Entry) → IsIn domain e → AllByRecursion (IsIn domain) later
    → list_any (undoes (to_domain number e)) (map (to_domain number) later) ≡ list_any (undoes e) later
any_undone number domain e [] one all = refl
any_undone number domain e (x ∷ later) one all =
    ap (λ b. b || list_any (undoes (to_domain number e)) (map (to_domain number) later)) (undoes_to number domain e x one all.0)
    ∙ ap (λ b. undoes e x || b) (any_undone number domain e later one all.1)

entry_to : (number : ℕ) (b : Bool) (e : Entry) (rest : List Entry)
    → option_to_list (cond b (Some (to_domain number e)) None) ++ map (to_domain number) rest ≡ map (to_domain number) (option_to_list (cond b (Some e) None) ++ rest)
entry_to number true e rest = refl
entry_to number false e rest = refl

pub held_to : (number domain : ℕ) (entries : List Entry) → AllByRecursion (IsIn domain) entries
    → held (map (to_domain number) entries) ≡ map (to_domain number) (held entries)
held_to number domain [] all = refl
held_to number domain (e ∷ later) all =
    ap (λ b. option_to_list (cond (is_held e.change && not b) (Some (to_domain number e)) None) ++ held (map (to_domain number) later)) (any_undone number domain e later all.0 all.1)
    ∙ ap (λ es. option_to_list (cond (stays e later) (Some (to_domain number e)) None) ++ es) (held_to number domain later all.1)
    ∙ entry_to number (stays e later) e (held later)

-- ---- those of a domain are in it
pub alone_in : (domain : ℕ) (entries : List Entry) → AllByRecursion (IsIn domain) (alone domain entries)
alone_in domain [] = record {}
alone_in domain (e ∷ later) =
    cond_both (e.domain == domain) (e ∷ alone domain later) (alone domain later) (AllByRecursion (IsIn domain)) (λ own. (eqb-true e.domain domain own, alone_in domain later)) (λ other. alone_in domain later)

-- ---- with one more entry
map_both : (number : ℕ) (xs ys : List Entry) → map (to_domain number) (xs ++ ys) ≡ map (to_domain number) xs ++ map (to_domain number) ys
map_both number [] ys = refl
map_both number (x ∷ xs) ys = ap (λ zs. to_domain number x ∷ zs) (map_both number xs ys)

one_held : (number : ℕ) (b : Bool) (e : Entry) → cond b (to_domain number e ∷ []) [] ≡ map (to_domain number) (cond b (e ∷ []) [])
one_held number true e = refl
one_held number false e = refl

left_to : (number domain : ℕ) (e : Entry) (xs : List Entry) → IsIn domain e → AllByRecursion (IsIn domain) xs
    → filter (λ x. not (undoes x (to_domain number e))) (map (to_domain number) xs) ≡ map (to_domain number) (filter (λ x. not (undoes x e)) xs)
left_to number domain e [] one all = refl
left_to number domain e (x ∷ xs) one all =
    let go = left_to number domain e xs one all.1 in
    ap
    (λ b. cond (not b) (to_domain number x ∷ filter (λ y. not (undoes y (to_domain number e))) (map (to_domain number) xs)) (filter (λ y. not (undoes y (to_domain number e))) (map (to_domain number) xs)))
    (undoes_to number domain x e all.0 one)
    ∙ ap (λ ys. cond (not (undoes x e)) (to_domain number x ∷ ys) ys) go
    ∙ by_test (not (undoes x e)) (filter (λ y. not (undoes y e)) xs)
  where
    by_test : (b : Bool) (ys : List Entry) → cond b (to_domain number x ∷ map (to_domain number) ys) (map (to_domain number) ys) ≡ map (to_domain number) (cond b (x ∷ ys) ys)
    by_test true ys = refl
    by_test false ys = refl

pub held_with_to : (number domain : ℕ) (e : Entry) (xs : List Entry) → IsIn domain e → AllByRecursion (IsIn domain) xs
    → held_with (to_domain number e) (map (to_domain number) xs) ≡ map (to_domain number) (held_with e xs)
held_with_to number domain e xs one all =
    ap (λ ys. ys ++ cond (is_held e.change) (to_domain number e ∷ []) []) (left_to number domain e xs one all)
    ∙ ap (λ ys. map (to_domain number) (filter (λ x. not (undoes x e)) xs) ++ ys) (one_held number (is_held e.change) e)
    ∙ sym (map_both number (filter (λ x. not (undoes x e)) xs) (cond (is_held e.change) (e ∷ []) []))
