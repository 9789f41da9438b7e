use Rattle.std.proofs.Common.{◌∙◌, sym, subst, arith}
use Rattle.std.proofs.lemmas.Result.{err_from_is_err_and}
use Rattle.slot_journal.specs.RecordReading.{Stops}
use Rattle.slot_journal.proofs.Writings.{bytes_are}
use Rattle.slot_journal.proofs.Seals.{fewer_left, closing_is, whole_stop, closing_stop, whole_is}
use Rattle.slot_journal.proofs.reader.Reader.whole.Goals as goal

pub returns-in_err-entry-clause-value : goal.returns-in_err-entry-clause-value
returns-in_err-entry-clause-value c =
    let p = err_from_is_err_and c.from_residual.result c.from_residual.ensures.1 in
    rw (p.1, p.2) (whole_stop c.args.format c.in_err-entry.field-0.0 c.args.self.now.end c.args.self.now.rest.now c.in_err-entry.ensures.value)

pub slice_bounds-fields-count : goal.slice_bounds-fields-count
slice_bounds-fields-count c =
    fewer_left c.args.format c.args.self.now.end c.args.self.now.rest.now c.args.bytes.now c.entry.new.self.rest.now c.in_ok-entry.entry (bytes_are c.args.bytes.now (λ i. omega (arith, c.type_inv.bytes i))) c.requires
    c.in_ok-entry.ensures.value

pub returns-in_err-closing-clause-value : goal.returns-in_err-closing-clause-value
returns-in_err-closing-clause-value c =
    let p = err_from_is_err_and c.from_residual-in_err-closing.result c.from_residual-in_err-closing.ensures.1 in
    let closed = closing_is c.args.format c.args.self.now.end c.entry.new.self.end c.args.self.now.rest.now c.args.bytes.now c.entry.new.self.rest.now c.in_ok-entry.entry (bytes_are c.args.bytes.now (λ i. omega (arith, c.type_inv.bytes i)))
    c.requires c.in_ok-entry.ensures.end c.in_ok-entry.ensures.value in
    rw (p.1, p.2)
    (closing_stop c.args.format c.in_err-closing.field-0.0 c.args.self.now.end c.args.self.now.rest.now c.entry.new.self.rest.now c.in_ok-entry.entry c.in_ok-entry.ensures.value
    (subst (Stops c.in_err-closing.field-0.0) closed c.in_err-closing.ensures.value))

pub returns-clause-value : goal.returns-clause-value
returns-clause-value c =
    let closed = closing_is c.args.format c.args.self.now.end c.entry.new.self.end c.args.self.now.rest.now c.args.bytes.now c.entry.new.self.rest.now c.in_ok-entry.entry (bytes_are c.args.bytes.now (λ i. omega (arith, c.type_inv.bytes i)))
    c.requires c.in_ok-entry.ensures.end c.in_ok-entry.ensures.value in
    whole_is c.args.format c.args.self.now.end c.args.self.now.rest.now c.entry.new.self.rest.now c.closing.new.self.rest.now c.in_ok-entry.entry c.in_ok-closing.field-0 c.in_ok-entry.ensures.value (sym closed ∙ c.in_ok-closing.ensures.value)
