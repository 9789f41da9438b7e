use Rattle.std.proofs.Common.{◌≡◌, ◌==◌, length, arith, sym, ap, ◌∙◌, map, true≢false}
use Rattle.std.specs.Vec.{vec_len}
use Rattle.serde_json.specs.Data.{put}
use Rattle.serde_json.specs.View.{view, members_view}
use Rattle.serde_json.specs.declared.value.Value.{Array}
use Rattle.serde_json.proofs.Views.{view-Array}
use Rattle.list_json.specs.Putting.{put_items}
use Rattle.list_json.proofs.PutObjects.{put_items_of, also_put}
use Rattle.list_json.proofs.writing.put_items.Goals as goal

pub returns : goal.returns
returns c =
    let old = members_view c.args.members.now.entries in
    let name = c.args.name.now in
    let items = c.args.items.items in
    let some : (length items ≡ 0 → ⊥) = λ empty. let none : vec_len c.args.items ≡ 0 = omega (arith, empty) in true≢false (sym (sym c.if-is_empty.false ∙ c.is_empty.ensures ∙ ap (λ n. n == 0) none)) in
    also_put c.put_member.result (members_view c.put_member.new.members.entries) (put name (view (Array c.args.items)) old) (put_items name (map view items) old)
    (ap (λ d. put name d old) (view-Array c.args.items) ∙ put_items_of name items old some)
    c.put_member.ensures
