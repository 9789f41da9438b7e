-- What is kept of a list with one more entry, where the test of each entry sees those after it.
use Rattle.std.proofs.Common.{◌≡◌, Bool, true, false, cond, ◌&&◌, List, [], ◌∷◌, ◌++◌, filter, Some, None, refl, sym, ap, ◌∙◌}
use Rattle.std.specs.Prelude.{option_to_list}
use Rattle.dots_history.specs.declared.entry.Entry.{Entry}
use Rattle.dots_history.specs.Histories.{kept_where}

-- one entry before it, kept then or not, and passing the test of the new one or not
pushed : (kept passes : Bool) (p : Entry → Bool) (x : Entry) (rest tail pushed_rest : List Entry) → p x ≡ passes
    → pushed_rest ≡ filter p rest ++ tail
    → option_to_list (cond (kept && passes) (Some x) None) ++ pushed_rest ≡ filter p (option_to_list (cond kept (Some x) None) ++ rest) ++ tail
pushed true true p x rest tail pushed_rest is same =
    ap (λ xs. x ∷ xs) same ∙ ap (λ b. cond b (x ∷ filter p rest) (filter p rest) ++ tail) (sym is)
pushed true false p x rest tail pushed_rest is same =
    same ∙ ap (λ b. cond b (x ∷ filter p rest) (filter p rest) ++ tail) (sym is)
pushed false passes p x rest tail pushed_rest is same = same

-- where one more entry adds a test of its own, those are kept that pass it too, and the entry itself where it is kept
-- alone
pub kept_push : (test : Entry → List Entry → Bool) (p : Entry → Bool) (e : Entry)
    → ((x : Entry) (later : List Entry) → test x (later ++ e ∷ []) ≡ (test x later && p x))
    → (entries : List Entry) → kept_where test (entries ++ e ∷ []) ≡ filter p (kept_where test entries) ++ kept_where test (e ∷ [])
kept_push test p e adds [] = refl
kept_push test p e adds (x ∷ later) =
    ap (λ b. option_to_list (cond b (Some x) None) ++ kept_where test (later ++ e ∷ [])) (adds x later)
    ∙ pushed
    (test x later)
    (p x)
    p
    x
    (kept_where test later)
    (kept_where test (e ∷ []))
    (kept_where test (later ++ e ∷ []))
    refl
    (kept_push test p e adds later)
