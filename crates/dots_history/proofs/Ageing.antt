-- The view at a later time, by the view now.
use Rattle.std.proofs.Common.{◌≡◌, ℕ, ◌≤◌, Bool, true, false, cond, List, [], ◌∷◌, ◌++◌, filter, Some, None, refl, sym, ap, ◌∙◌}
use Rattle.std.specs.Prelude.{option_to_list}
use Rattle.std.proofs.lemmas.Bool.{true≢false, cond-true, cond-false}
use Rattle.dots_history.specs.declared.entry.Entry.{Entry}
use Rattle.dots_history.specs.declared.status.Status.TheVariants.{Open}
use Rattle.dots_history.specs.Histories.{Mitigation, View, view, live, status, mitigations}
use Rattle.dots_history.specs.Views.{mitigations_at, view_at}
use Rattle.dots_history.proofs.Lasting.{live_no_more}

-- one more entry, live now or not and live later or not
aged : (now later : Bool) (p : Mitigation → Bool) (m : Mitigation) (rest aged_rest : List Mitigation) → p m ≡ later → (now ≡ false → later ≡ false)
    → aged_rest ≡ filter p rest
    → option_to_list (cond later (Some m) None) ++ aged_rest ≡ filter p (option_to_list (cond now (Some m) None) ++ rest)
aged true true p m rest aged_rest is over same =
    ap (λ ms. m ∷ ms) same ∙ sym (cond-true (p m) (m ∷ filter p rest) (filter p rest) is)
aged true false p m rest aged_rest is over same =
    same ∙ sym (cond-false (p m) (m ∷ filter p rest) (filter p rest) is)
aged false true p m rest aged_rest is over same = absurd (true≢false (over refl))
aged false false p m rest aged_rest is over same = same

pub mitigations_age : (t u : ℕ) (entries : List Entry) → t ≤ u → mitigations u entries ≡ mitigations_at u (mitigations t entries)
mitigations_age t u [] less = refl
mitigations_age t u (e ∷ later) less =
    let s = status e Open later in
    aged
    (live t e s)
    (live u e s)
    (λ (m : Mitigation). live u m.put m.status)
    (record { put = e; status = s })
    (mitigations t later)
    (mitigations u later)
    refl
    (live_no_more t u e s less)
    (mitigations_age t u later less)

-- the view with these mitigations
abbrev at_mitigations : View → List Mitigation → View
at_mitigations v ms = record { mitigations = ms; recent = v.recent; held = v.held; last = v.last }

pub ageing : (n t u : ℕ) (entries : List Entry) → t ≤ u → view n u entries ≡ view_at u (view n t entries)
ageing n t u entries less = ap (at_mitigations (view n t entries)) (mitigations_age t u entries less)
