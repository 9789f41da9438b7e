use Rattle.std.proofs.Common.{Some, None, ap, sym, ◌∙◌}
use Rattle.std.specs.Prelude.{option_copied}
use Rattle.live_mitigations.specs.Rows.{LiveTable}
use Rattle.live_mitigations.specs.Slots.{put_in}
use Rattle.live_mitigations.specs.LiveRows.{mitigations_in, slots_in}
use Rattle.live_mitigations.proofs.LiveRows.{found_there}
use Rattle.live_mitigations.proofs.list.LiveList.put_in.Goals as goal

pub returns-in-Some : goal.returns-in-Some
returns-in-Some c =
    found_there c.args.slot c.as_slice.result.now (Some c.in-Some.row.now) (sym (ap option_copied c.in-Some.is) ∙ c.row_in.ensures)
    ∙ ap (λ rows. put_in c.args.slot (mitigations_in rows) (slots_in rows)) c.as_slice.ensures.value
    ∙ ap (λ (t : LiveTable). put_in c.args.slot t.rows t.slots) c.self.view_is

pub returns-in-None : goal.returns-in-None
returns-in-None c =
    found_there c.args.slot c.as_slice.result.now None (sym (ap option_copied c.in-None.is) ∙ c.row_in.ensures)
    ∙ ap (λ rows. put_in c.args.slot (mitigations_in rows) (slots_in rows)) c.as_slice.ensures.value
    ∙ ap (λ (t : LiveTable). put_in c.args.slot t.rows t.slots) c.self.view_is
