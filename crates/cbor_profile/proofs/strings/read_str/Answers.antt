use Rattle.cbor_profile.proofs.Texts.{text_read, text_refused}
use Rattle.cbor_profile.proofs.strings.read_str.Goals as goal

pub returns-in-Ok-clause-value : goal.returns-in-Ok-clause-value
returns-in-Ok-clause-value c =
    text_read c.args.end c.args.at c.args.info c.in_ok-count.count c.args.bytes.now c.in_ok-count.rest.now c.in_ok-content.content.now c.in_ok-content.rest.now c.in-Ok.text.now
    c.in_ok-count.ensures.value c.in_ok-content.ensures.value c.in-Ok.ensures.cases.1 c.in-Ok.ensures.cases.0

pub returns-in-Err-clause-value : goal.returns-in-Err-clause-value
returns-in-Err-clause-value c =
    text_refused c.args.end c.args.at c.args.info c.in_ok-count.count c.args.bytes.now c.in_ok-count.rest.now c.in_ok-content.content.now c.in_ok-content.rest.now
    c.in_ok-count.ensures.value c.in_ok-content.ensures.value c.in-Err.ensures.cases.0
