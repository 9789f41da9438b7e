use Rattle.std.proofs.Common.{ℕ, List, sym, ap, ◌∙◌}
use Rattle.std.specs.Prelude.{Some}
use Rattle.http_cut.specs.Fields.{first_media}
use Rattle.http_cut.proofs.fields.first_media.Goals as goal

pub returns-in-Some : goal.returns-in-Some
unfolding first_media
returns-in-Some c = ap (λ (y : List ℕ). Some y) c.media_type.ensures ∙ sym (ap (λ (y : List (List ℕ)). first_media y) c.in-Some.ensures.found)

pub returns-in-None : goal.returns-in-None
unfolding first_media
returns-in-None c = sym (ap (λ (y : List (List ℕ)). first_media y) c.in-None.ensures.found)
