use Rattle.std.proofs.Common.{◌≡◌, refl, ◌∙◌}
use Rattle.serde_json.specs.Data.{no_members}
use Rattle.serde_json.specs.View.{members_view}
use Rattle.list_json.specs.ListPrinting.{transport_name, entry_header, entry_transport}
use Rattle.list_json.specs.Lists.{header_name}
use Rattle.list_json.specs.Putting.{put_object}
use Rattle.list_json.proofs.OrderedLists.{matches_put}
use Rattle.list_json.proofs.list_writing.matches_map.Goals as goal

pub returns : goal.returns
returns c =
    let entry = c.args.entry.now in
    let family = c.args.family in
    let one = members_view c.put_object.new.members.entries in
    let both = members_view c.put_object-2.new.members.entries in
    let p : one ≡ put_object (transport_name entry.protocol) (entry_transport entry) no_members =
    c.in_ok-put_object.ensures ∙ rw (c.in_ok-transport.ensures, c.transport_name.ensures, c.new-members.ensures.empty) refl in
    let q : both ≡ put_object (header_name family) (entry_header family entry) one =
    c.in_ok-put_object-2.ensures ∙ rw (c.in_ok-header.ensures, c.header_name.ensures) refl in
    matches_put family entry one both p q
