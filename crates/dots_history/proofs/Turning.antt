-- Turns make of the view of a history the view of the longer one.
use Rattle.std.proofs.Common.{◌≡◌, ℕ, List, [], ◌∷◌, ◌++◌, sym, ap, ◌∙◌, append_assoc, append-nil}
use Rattle.dots_history.specs.declared.entry.Entry.{Entry}
use Rattle.dots_history.specs.Histories.{view}
use Rattle.dots_history.specs.Turns.{Turn, Tick, Apply, TurnsRise, time_after, applied, view_after}
use Rattle.dots_history.proofs.Ageing.{ageing}
use Rattle.dots_history.proofs.GoingOn.{views_add}

pub fold_turns : (n low : ℕ) (before : List Entry) (turns : List Turn) → TurnsRise low turns
    → view_after n (view n low before) turns ≡ view n (time_after low turns) (before ++ applied turns)
fold_turns n low before [] rise = sym (ap (view n low) (append-nil before))
fold_turns n low before (Tick u ∷ turns) rise =
    ap (λ v. view_after n v turns) (sym (ageing n low u before rise.0)) ∙ fold_turns n u before turns rise.1
fold_turns n low before (Apply e ∷ turns) rise =
    ap (λ v. view_after n v turns) (sym (views_add n low e before rise.0))
    ∙ fold_turns n e.time (before ++ e ∷ []) turns rise.1
    ∙ ap (view n (time_after e.time turns)) (append_assoc before (e ∷ []) (applied turns))
