-- How many rows of what is held there are.
use Rattle.std.proofs.Common.{◌≡◌, ℕ, ◌≤◌, Bool, true, false, cond, ◌||◌, List, [], ◌∷◌, ◌++◌, length, map, Some, None, inl, inr, refl, sym, ap, subst, le_trans, arith}
use Rattle.std.specs.Prelude.{option_to_list}
use Rattle.std.specs.List.{list_all}
use Rattle.std.proofs.lemmas.Bool.{cond_both, cases_Bool}
use Rattle.dots_history.specs.declared.entry.Entry.{Entry}
use Rattle.dots_history.specs.Histories.{Mitigation, stays, held}
use Rattle.dots_history.specs.Keeping.{names, pass, kept_by}
use Rattle.dots_history.specs.Capacities.{Capacities, KeepsCapacities, belongs, most_named}
use Rattle.dots_history.proofs.Bounding.{named_few}
use Rattle.dots_history.specs.Filed.{Filed, entry_of}
use Rattle.held_resources.specs.Rows.{rows_of}
use Rattle.held_resources.proofs.Going.{rows_many}

last_of_four : (a b s : Bool) → s ≡ true → (a || (b || s)) ≡ true
last_of_four true b s is = refl
last_of_four false true s is = refl
last_of_four false false s is = is

held_few : (n t : ℕ) (passed : List Mitigation) (entries : List Entry) → length (held entries) ≤ length (kept_by (names n t) passed entries)
held_few n t passed [] = omega arith
held_few n t passed (e ∷ later) =
    let rest = held_few n t (pass passed e) later in
    elim (cases_Bool (stays e later)) [
      | inl is ↦
          let own : length (held (e ∷ later)) ≡ length (e ∷ held later) = ap (λ b. length (option_to_list (cond b (Some e) None) ++ held later)) is in
          let named : names n t passed e later ≡ true = last_of_four _ _ (stays e later) is in
          let whole : length (kept_by (names n t) passed (e ∷ later)) ≡ length (e ∷ kept_by (names n t) (pass passed e) later)
          = ap (λ b. length (cond b (e ∷ kept_by (names n t) (pass passed e) later) (kept_by (names n t) (pass passed e) later))) named in
          omega (arith, own, whole, rest)
      | inr out ↦
          let own : length (held (e ∷ later)) ≡ length (held later) = ap (λ b. length (option_to_list (cond b (Some e) None) ++ held later)) out in
          cond_both
          (names n t passed e later)
          (e ∷ kept_by (names n t) (pass passed e) later)
          (kept_by (names n t) (pass passed e) later)
          (λ es. length (held (e ∷ later)) ≤ length es)
          (λ is. omega (arith, own, rest))
          (λ not_named. omega (arith, own, rest))
    ]

pub rows_few : (room : Capacities) (t : ℕ) (filed : List Filed) → list_all (belongs room) (map entry_of filed) ≡ true → KeepsCapacities room t (map entry_of filed)
    → length (rows_of filed) ≤ most_named room 0
rows_few room t filed belong keeps =
    subst (λ k. k ≤ most_named room 0) (sym (rows_many filed))
    (le_trans (held_few 0 t [] (map entry_of filed)) (named_few room 0 t (map entry_of filed) belong keeps))
