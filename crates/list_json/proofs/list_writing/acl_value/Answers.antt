use Rattle.std.proofs.Common.{ap, ◌∙◌}
use Rattle.serde_json.specs.Data.{object}
use Rattle.serde_json.specs.View.{members_view}
use Rattle.serde_json.proofs.Views.{view-Object}
use Rattle.list_json.specs.Putting.{put_list}
use Rattle.list_json.proofs.list_writing.acl_value.Goals as goal

pub returns : goal.returns
returns c =
    let acl = c.args.acl.now in
    view-Object c.put_list.new.members ∙ ap object (c.in_ok-put_list.ensures ∙ ap (λ es. put_list acl (members_view es)) c.new-members.ensures.empty)
