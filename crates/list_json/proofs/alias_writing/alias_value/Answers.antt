use Rattle.std.proofs.Common.{ap, ◌∙◌}
use Rattle.std.specs.Prelude.{codes}
use Rattle.serde_json.specs.Data.{string, object, put}
use Rattle.serde_json.specs.View.{members_view}
use Rattle.serde_json.proofs.Views.{view-Object}
use Rattle.list_json.specs.Putting.{put_asked}
use Rattle.list_json.proofs.Ordered.{alias_put}
use Rattle.list_json.proofs.alias_writing.alias_value.Goals as goal

pub returns : goal.returns
returns c =
    let alias = c.args.alias.now in
    view-Object c.put_alias.new.members
    ∙ ap object (c.in_ok-put_alias.ensures ∙ ap (λ es. put (codes "name") (string alias.name) (put_asked alias.asked (members_view es))) c.new-members.ensures.empty ∙ alias_put alias)
