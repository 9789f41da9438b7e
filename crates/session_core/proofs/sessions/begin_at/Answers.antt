use Rattle.session_core.specs.Contacts.{row_begun}
use Rattle.session_core.proofs.Placing.{there_is, set_place}
use Rattle.session_core.proofs.sessions.begin_at.Goals as goal

pub returns : goal.returns
returns c =
    let rows = c.args.rows.now.items in
    let row = c.index_mut.result.now in
    set_place (row_begun c.args.now) rows c.args.at row c.begin.new.self (there_is rows c.args.at row c.requires c.index_mut.ensures.value) c.begin.ensures
