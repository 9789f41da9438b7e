-- How many mitigations of a domain are live, whether their messages are kept or not.
use Rattle.std.proofs.Common.{◌≡◌, ℕ, List, map, length, refl, sym, ap, ◌∙◌}
use Rattle.std.proofs.lemmas.List.{length-map}
use Rattle.dots_history.specs.declared.entry.Entry.{Entry}
use Rattle.dots_history.specs.Histories.{Mitigation, mitigations}
use Rattle.dots_history.specs.Tables.{bare, bare_mitigation}
use Rattle.dots_history.specs.Views.{mitigations_of}
use Rattle.dots_history.proofs.Bare.{bare_mitigations}
use Rattle.live_mitigations.proofs.Room.{read_bare}

abbrev nothing : Mitigation → ℕ
nothing m = 0

pub number_bare : (domain t : ℕ) (entries : List Entry) → length (mitigations_of domain (mitigations t (map bare entries))) ≡ length (mitigations_of domain (mitigations t entries))
number_bare domain t entries =
    let ms = mitigations t entries in
    ap (λ ms. length (mitigations_of domain ms)) (bare_mitigations t entries)
    ∙ sym (length-map (mitigations_of domain (map bare_mitigation ms)) nothing)
    ∙ ap length (read_bare nothing domain ms (λ m. refl))
    ∙ length-map (mitigations_of domain ms) nothing
