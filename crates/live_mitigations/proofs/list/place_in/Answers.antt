use Rattle.std.proofs.Common.{sym, ◌∙◌}
use Rattle.live_mitigations.proofs.LiveRows.{place_there, none_there}
use Rattle.live_mitigations.proofs.list.place_in.Goals as goal

pub returns-in-Some : goal.returns-in-Some
returns-in-Some c = place_there c.args.slot c.args.rows.now c.in-Some.place (sym c.place_of.ensures ∙ c.in-Some.is)

pub returns-in-None : goal.returns-in-None
returns-in-None c = none_there c.args.slot c.args.rows.now (sym c.place_of.ensures ∙ c.in-None.is)
