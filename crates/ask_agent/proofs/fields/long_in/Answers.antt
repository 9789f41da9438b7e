use Rattle.std.proofs.Common.{sym, ap, ◌∙◌, arith, bytes_eq}
use Rattle.ask_agent.proofs.Numbers.{not_utf8, not_parsed, not_spelled, spelled}
use Rattle.ask_agent.proofs.fields.long_in.Goals as goal

pub returns-in_default : goal.returns-in_default
returns-in_default c = not_utf8 c.args.text.now c.in_default.ensures.cases.0

pub returns-in_default-parse : goal.returns-in_default-parse
returns-in_default-parse c = not_parsed c.args.text.now c.in-Ok.digits.now c.in_default-parse.field-0 c.in-Ok.ensures.cases.0 c.in_default-parse.ensures.value.0

pub returns-then-not-is_word : goal.returns-then-not-is_word
returns-then-not-is_word c =
    not_spelled c.args.text.now c.in-Ok.digits.now c.in-Ok-parse.number c.parse.result c.in-Ok-parse.is c.in-Ok.ensures.cases.0 c.parse.ensures.value.0
    (ap (bytes_eq c.args.text.now) (sym (c.as_bytes.ensures.value ∙ c.format.ensures.text)) ∙ sym c.is_word.ensures ∙ c.if-not-is_word.true)

pub returns : goal.returns
returns c =
    spelled c.args.text.now c.in-Ok-parse.number (omega arith)
    (ap (bytes_eq c.args.text.now) (sym (c.as_bytes.ensures.value ∙ c.format.ensures.text)) ∙ sym c.is_word.ensures ∙ c.if-not-is_word.false)
