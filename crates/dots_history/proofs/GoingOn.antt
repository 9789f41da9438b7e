-- Views after more entries, by the views before.
use Rattle.std.proofs.Common.{◌≡◌, ℕ, ◌≤◌, Bool, true, false, cond, not, ◌&&◌, ◌||◌, List, [], ◌∷◌, ◌++◌, filter, Some, None, refl, sym, ap, ◌∙◌, append_assoc, append-nil}
use Rattle.std.specs.Prelude.{option_to_list}
use Rattle.std.specs.List.{list_any}
use Rattle.dots_history.specs.declared.entry.Entry.{Entry}
use Rattle.dots_history.specs.Entries.{is_held, undoes}
use Rattle.dots_history.specs.Histories.{Mitigation, View, view, Within, stays, held, last}
use Rattle.dots_history.specs.Views.{view_at, held_with, view_with}
use Rattle.dots_history.proofs.Ageing.{ageing}
use Rattle.dots_history.proofs.Adding.{adding}
use Rattle.dots_history.proofs.Sieves.{kept_push}
use Rattle.dots_history.proofs.Recents.{recent_push}

-- what is held
any_more : (x : Bool) (rest one : Bool) → (x || (rest || one)) ≡ ((x || rest) || one)
any_more true rest one = refl
any_more false rest one = refl

any_push : (test : Entry → Bool) (later : List Entry) (e : Entry) → list_any test (later ++ e ∷ []) ≡ (list_any test later || test e)
any_push test [] e = or_false (test e)
  where
    or_false : (b : Bool) → (b || false) ≡ b
    or_false true = refl
    or_false false = refl
any_push test (x ∷ later) e =
    ap (λ rest. test x || rest) (any_push test later e) ∙ any_more (test x) (list_any test later) (test e)

not_either : (standing one other : Bool) → (standing && not (one || other)) ≡ ((standing && not one) && not other)
not_either true true other = refl
not_either true false other = refl
not_either false one other = refl

stays_push : (e x : Entry) (later : List Entry) → stays x (later ++ e ∷ []) ≡ (stays x later && not (undoes x e))
stays_push e x later =
    ap (λ any. is_held x.change && not any) (any_push (undoes x) later e) ∙ not_either (is_held x.change) (list_any (undoes x) later) (undoes x e)

one_at_most : (b : Bool) (e : Entry) → option_to_list (cond (b && true) (Some e) None) ++ [] ≡ cond b (e ∷ []) []
one_at_most true e = refl
one_at_most false e = refl

pub held_push : (e : Entry) (entries : List Entry) → held (entries ++ e ∷ []) ≡ held_with e (held entries)
held_push e entries =
    kept_push stays (λ x. not (undoes x e)) e (stays_push e) entries
    ∙ ap (λ end. filter (λ x. not (undoes x e)) (held entries) ++ end) (one_at_most (is_held e.change) e)

-- the last entry
pub last_push : (e : Entry) (entries : List Entry) → last (entries ++ e ∷ []) ≡ e ∷ []
last_push e [] = refl
last_push e (x ∷ []) = refl
last_push e (x ∷ y ∷ later) = last_push e (y ∷ later)

-- views of the same parts
abbrev view_of : List Mitigation → List Entry → List Entry → List Entry → View
view_of m r t l = record { mitigations = m; recent = r; held = t; last = l }

pub same_view : (v w : View) → v.mitigations ≡ w.mitigations → v.recent ≡ w.recent → v.held ≡ w.held → v.last ≡ w.last → v ≡ w
same_view v w m r t l =
    ap (λ x. view_of x v.recent v.held v.last) m
    ∙ ap (λ x. view_of w.mitigations x v.held v.last) r
    ∙ ap (λ x. view_of w.mitigations w.recent x v.last) t
    ∙ ap (λ x. view_of w.mitigations w.recent w.held x) l

-- one more entry
pub views_add : (n t : ℕ) (e : Entry) (entries : List Entry) → t ≤ e.time → view n e.time (entries ++ e ∷ []) ≡ view_with n e (view n t entries)
views_add n t e entries less =
    same_view
    (view n e.time (entries ++ e ∷ []))
    (view_with n e (view n t entries))
    (adding t e entries less)
    (recent_push n entries (e ∷ []))
    (held_push e entries)
    (last_push e entries)

-- more entries
pub go_on : (n t u : ℕ) (xs ys more : List Entry) → view n t xs ≡ view n t ys → Within t more u → view n u (xs ++ more) ≡ view n u (ys ++ more)
go_on n t u xs ys [] same within =
    ap (view n u) (append-nil xs)
    ∙ ageing n t u xs within
    ∙ ap (view_at u) same
    ∙ sym (ageing n t u ys within)
    ∙ sym (ap (view n u) (append-nil ys))
go_on n t u xs ys (e ∷ more) same within =
    sym (ap (view n u) (append_assoc xs (e ∷ []) more))
    ∙ go_on
    n
    e.time
    u
    (xs ++ e ∷ [])
    (ys ++ e ∷ [])
    more
    (views_add n t e xs within.0 ∙ ap (view_with n e) same ∙ sym (views_add n t e ys within.0))
    within.1
    ∙ ap (view n u) (append_assoc ys (e ∷ []) more)
