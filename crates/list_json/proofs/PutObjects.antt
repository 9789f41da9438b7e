-- Members that are put where they say something.
use Rattle.std.proofs.Common.{◌≡◌, ℕ, List, [], ◌∷◌, length, map, refl, ◌∙◌, Result, Ok, Err, OnOk, String, Global}
use Rattle.serde_json.specs.Data.{array, object, Members, put}
use Rattle.serde_json.specs.View.{view, items_view, members_view}
use Rattle.serde_json.specs.declared.value.Value.{Value}
use Rattle.list_json.specs.Putting.{put_items, put_object}

pub put_object_of : (name : List ℕ) (entries : List (String Global × Value)) (ms : Members) → (length entries ≡ 0 → ⊥) → put name (object (members_view entries)) ms ≡ put_object name (members_view entries) ms
put_object_of name [] ms some = absurd (some refl)
put_object_of name (entry ∷ entries) ms some = refl

pub put_items_of : (name : List ℕ) (items : List Value) (ms : Members) → (length items ≡ 0 → ⊥) → put name (array (items_view items)) ms ≡ put_items name (map view items) ms
put_items_of name [] ms some = absurd (some refl)
put_items_of name (value ∷ values) ms some = refl

-- what was put, said in another way
pub also_put : {E : Type 0} (r : Result (Unit {0}) E) (new said other : Members) → said ≡ other → OnOk r (new ≡ said) → OnOk r (new ≡ other)
also_put (Ok u) new said other e put = put ∙ e
also_put (Err fault) new said other e put = tt
