-- A step over the members of an alias.
use Rattle.std.proofs.Common.{◌≡◌, ◌&&◌, ℕ, List, Bool, true, false, refl, ap, sym, ◌∙◌}
use Rattle.serde_json.specs.Data.{Data, Members, member}
use Rattle.list_json.specs.Found.{IsAsBefore, nothing}
use Rattle.list_json.specs.Shapes.{may_have, only}
use Rattle.list_json.specs.declared.alias_members.AliasMembers.{AliasMembers}
use Rattle.list_json.specs.declared.shape.Shape.TheVariants as shape

regroup : (a b c : Bool) → (a && (b && c)) ≡ ((a && b) && c)
regroup true b c = refl
regroup false b c = refl

abbrev pub Reached : Members → AliasMembers → Members → Type 0
Reached all found rest = (only (may_have shape.Alias) all ≡ (found.is_whole && only (may_have shape.Alias) rest)) × IsAsBefore nothing all found rest

pub onwards : (all rest : Members) (name : List ℕ) (d : Data) (old new : AliasMembers) → Reached all old (member name d rest)
    → new.is_whole ≡ (old.is_whole && may_have shape.Alias name) → IsAsBefore old (member name d rest) new rest → Reached all new rest
onwards all rest name d old new p known q = (
  p.0 ∙ regroup old.is_whole (may_have shape.Alias name) (only (may_have shape.Alias) rest) ∙ ap (λ whole. whole && only (may_have shape.Alias) rest) (sym known),
  (p.1.0 ∙ q.0, p.1.1 ∙ q.1, p.1.2 ∙ q.2, p.1.3 ∙ q.3, p.1.4 ∙ q.4),
)
