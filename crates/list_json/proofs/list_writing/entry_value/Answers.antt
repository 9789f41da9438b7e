use Rattle.std.proofs.Common.{◌≡◌, refl, ap, ◌∙◌}
use Rattle.std.specs.Prelude.{codes}
use Rattle.serde_json.specs.Data.{string, object, no_members, put}
use Rattle.serde_json.specs.View.{members_view}
use Rattle.serde_json.proofs.Views.{view-Object}
use Rattle.list_json.specs.ListPrinting.{actions_data, matches_members}
use Rattle.list_json.specs.Putting.{put_object}
use Rattle.list_json.proofs.OrderedLists.{entry_put}
use Rattle.list_json.proofs.list_writing.entry_value.Goals as goal

pub returns : goal.returns
returns c =
    let entry = c.args.entry.now in
    let family = c.args.family in
    let one = members_view c.put_name.new.members.entries in
    let two = members_view c.put_object.new.members.entries in
    let three = members_view c.put_member.new.members.entries in
    let p : one ≡ put (codes "name") (string entry.name) no_members =
    c.in_ok-put_name.ensures ∙ ap (λ es. put (codes "name") (string entry.name) (members_view es)) c.new-members.ensures.empty in
    let q : two ≡ put_object (codes "matches") (matches_members family entry) one =
    c.in_ok-put_object.ensures ∙ rw c.in_ok-matches.ensures refl in
    let r : three ≡ put (codes "actions") (actions_data entry.accept) two =
    c.in_ok-put_member.ensures ∙ rw c.in_ok-actions.ensures refl in
    view-Object c.put_member.new.members ∙ ap object (entry_put (actions_data entry.accept) (matches_members family entry) (string entry.name) one two three p q r)
