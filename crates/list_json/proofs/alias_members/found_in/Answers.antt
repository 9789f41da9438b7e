use Rattle.std.proofs.Common.{◌≡◌, rules}
use Rattle.serde_json.specs.Data.{member}
use Rattle.serde_json.specs.View.{view, members_view}
use Rattle.list_json.proofs.Onwards.{onwards, Reached}
use Rattle.list_json.proofs.alias_members.found_in.Goals as goal

pub loop-name-preserved : goal.loop-name-preserved
loop-name-preserved c =
    let all = members_view c.args.members.now.entries in
    let rest = members_view c.next.new.self in
    let name = c.as_str.result.now in
    let d = view c.in-Some.value.now in
    let came : members_view c.loop-name.name-iterator ≡ member name d rest = search rules in
    let before : Reached all c.loop-name.found (member name d rest) = rw came at c.loop-name.invariant in
    onwards all rest name d c.loop-name.found c.with-found.result before c.with-found.ensures.known (c.with-found.ensures.found rest)
