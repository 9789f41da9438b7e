use Rattle.std.proofs.Common.{refl, sym, ap, ◌∙◌}
use Rattle.dots_settings.specs.Admitting.{form_value, draft_value}
use Rattle.dots_settings.proofs.OneForm.{says_named}
use Rattle.dots_settings.proofs.Takes.{says_read, skips_line, takes_row, packet_unhashed, row_hashed}
use Rattle.dots_settings.proofs.reading.Taken.take.Goals as goal

pub returns-then-is_skipped-clause-ok : goal.returns-then-is_skipped-clause-ok
returns-then-is_skipped-clause-ok c = skips_line c.args.self.now c.args.line.now (sym c.is_skipped.ensures ∙ c.if-is_skipped.true)

pub returns-then-is_packet-clause-ok : goal.returns-then-is_packet-clause-ok
returns-then-is_packet-clause-ok c =
    takes_row _ _ c.args.line.now (form_value c.in-Ok.form) (sym c.is_skipped.ensures ∙ c.if-is_skipped.false) (says_read c.args.line.now _ _ (form_value c.in-Ok.form) c.as_slice.ensures.value c.in_ok-fields.ensures c.in-Ok.ensures) (sym c.fault_of.ensures ∙ c.in_default-fault_of.is)
    c.in_ok-admit.ensures refl (packet_unhashed c.args.self.now.hasher c.args.self.now.number c.args.line.now (form_value c.in-Ok.form) (sym c.is_packet.ensures ∙ c.if-is_packet.true))

pub returns-clause-ok : goal.returns-clause-ok
returns-clause-ok c =
    takes_row c.args.self.now c.hash.new.self c.args.line.now (form_value c.in-Ok.form) (sym c.is_skipped.ensures ∙ c.if-is_skipped.false) (says_read c.args.line.now _ _ (form_value c.in-Ok.form) c.as_slice.ensures.value c.in_ok-fields.ensures c.in-Ok.ensures) (sym c.fault_of.ensures ∙ c.in_default-fault_of.is)
    (ap draft_value c.hash.ensures.draft ∙ c.in_ok-admit.ensures) c.hash.ensures.number
    (row_hashed c.args.self.now.hasher c.hash.new.self.hasher c.args.self.now.number c.args.line.now (form_value c.in-Ok.form) (sym c.is_packet.ensures ∙ c.if-is_packet.false) c.hash.ensures.hashed)

pub admit-requires : goal.admit-requires
admit-requires c = says_named c.args.line.now (form_value c.in-Ok.form) (says_read c.args.line.now _ _ (form_value c.in-Ok.form) c.as_slice.ensures.value c.in_ok-fields.ensures c.in-Ok.ensures)
