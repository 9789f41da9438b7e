use Rattle.std.proofs.Common.{◌≡◌, refl, ◌∙◌}
use Rattle.std.specs.Prelude.{codes}
use Rattle.serde_json.specs.Data.{no_members}
use Rattle.serde_json.specs.View.{members_view}
use Rattle.list_json.specs.AliasPrinting.{number_data, prefix_data}
use Rattle.list_json.specs.ListPrinting.{option_data, test_data, untested}
use Rattle.list_json.specs.Lists.{source_name, destination_name}
use Rattle.list_json.specs.Putting.{put_value}
use Rattle.list_json.proofs.OrderedLists.{header_put}
use Rattle.list_json.proofs.list_writing.header_map.Goals as goal

pub returns : goal.returns
returns c =
    let entry = c.args.entry.now in
    let family = c.args.family in
    let source = option_data prefix_data entry.source in
    let destination = option_data prefix_data entry.destination in
    let protocol = option_data number_data (untested (test_data entry.source_port) (test_data entry.destination_port) entry.protocol) in
    let one = members_view c.put_value.new.members.entries in
    let two = members_view c.put_value-2.new.members.entries in
    let three = members_view c.put_value-3.new.members.entries in
    let p : one ≡ put_value (source_name family) source no_members =
    c.in_ok-put_value.ensures ∙ rw (c.in_ok-source.ensures, c.source_name.ensures, c.new-members.ensures.empty) refl in
    let q : two ≡ put_value (codes "protocol") protocol one =
    c.in_ok-put_value-2.ensures ∙ rw (c.protocol_value.ensures, c.untested.ensures) refl in
    let r : three ≡ put_value (destination_name family) destination two =
    c.in_ok-put_value-3.ensures ∙ rw (c.in_ok-destination.ensures, c.destination_name.ensures) refl in
    header_put family source destination protocol one two three p q r
