-- What time and one more entry make of a view, and the part of a domain in it.
use Rattle.std.specs.Prelude.{ℕ, ◌==◌, not, if◌then◌else◌, List, [], ◌∷◌, ◌++◌, filter}
use Rattle.dots_history.specs.declared.entry.Entry.{Entry}
use Rattle.dots_history.specs.Entries.{is_held, undoes}
use Rattle.dots_history.specs.Histories.{Mitigation, View, live, recent}
use Rattle.dots_history.specs.Keeping.{pass}

-- those of the mitigations that are live at the time
abbrev pub mitigations_at : ℕ → List Mitigation → List Mitigation
mitigations_at u ms = filter (λ (m : Mitigation). live u m.put m.status) ms

abbrev pub view_at : ℕ → View → View
view_at u v =
    record {
      mitigations = mitigations_at u v.mitigations;
      recent = v.recent;
      held = v.held;
      last = v.last;
    }

-- what one more entry makes of the live mitigations, at its time
abbrev pub mitigations_with : Entry → List Mitigation → List Mitigation
mitigations_with e ms = mitigations_at e.time (pass ms e)

-- what it makes of what is held
abbrev pub held_with : Entry → List Entry → List Entry
held_with e es = filter (λ x. not (undoes x e)) es ++ (if is_held e.change then e ∷ [] else [])

-- what it makes of a view
abbrev pub view_with : ℕ → Entry → View → View
view_with n e v =
    record {
      mitigations = mitigations_with e v.mitigations;
      recent = recent n (v.recent ++ e ∷ []);
      held = held_with e v.held;
      last = e ∷ [];
    }

-- those of a domain
abbrev pub mitigations_of : ℕ → List Mitigation → List Mitigation
mitigations_of domain ms = filter (λ (m : Mitigation). m.put.domain == domain) ms
