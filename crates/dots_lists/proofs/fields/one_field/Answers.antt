use Rattle.dots_lists.proofs.Splits.{not_one}
use Rattle.dots_lists.proofs.fields.one_field.Goals as goal

pub returns-in-Some : goal.returns-in-Some
returns-in-Some c = λ field. not_one c.args.line.now c.in-Some.field-0.0.now c.in-Some.field-0.1.now field c.in-Some.ensures
