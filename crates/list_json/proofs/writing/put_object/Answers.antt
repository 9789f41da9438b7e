use Rattle.std.proofs.Common.{sym, ap, ◌∙◌, true≢false}
use Rattle.serde_json.specs.Data.{put}
use Rattle.serde_json.specs.View.{view, members_view}
use Rattle.serde_json.specs.declared.value.Value.{Object}
use Rattle.serde_json.proofs.Views.{view-Object}
use Rattle.list_json.specs.Putting.{put_object}
use Rattle.list_json.proofs.PutObjects.{put_object_of, also_put}
use Rattle.list_json.proofs.writing.put_object.Goals as goal

pub returns : goal.returns
returns c =
    let old = members_view c.args.members.now.entries in
    let name = c.args.name.now in
    let inner = members_view c.args.object.entries in
    also_put c.put_member.result (members_view c.put_member.new.members.entries) (put name (view (Object c.args.object)) old) (put_object name inner old)
    (ap (λ d. put name d old) (view-Object c.args.object) ∙ put_object_of name c.args.object.entries old (λ empty. true≢false (sym (c.is_empty.ensures.1 empty) ∙ c.if-is_empty.false)))
    c.put_member.ensures
