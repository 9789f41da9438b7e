use Rattle.std.proofs.Common.{ap}
use Rattle.cbor_profile.specs.declared.major.Major.TheVariants as major_type
use Rattle.cbor_profile.specs.ItemReading.{string_at, as_text}
use Rattle.cbor_profile.proofs.Made.{text_made}
use Rattle.cbor_profile.proofs.Texts.{text_read, text_refused, found_text, found_none}
use Rattle.cbor_profile.proofs.strings.read_text.Goals as goal

pub returns-in-Some-clause-value : goal.returns-in-Some-clause-value
returns-in-Some-clause-value c =
    let found = found_text c.in_ok-text.field-0 c.in-Some.text c.in_ok-content.content.now c.in-Some.is c.in_ok-text.ensures.some in
    text_made (string_at c.args.end c.args.at major_type.Text c.args.info c.args.bytes.now) c.in-Some.text c.in_ok-content.rest.now (
    text_read c.args.end c.args.at c.args.info c.in_ok-count.count c.args.bytes.now c.in_ok-count.rest.now c.in_ok-content.content.now c.in_ok-content.rest.now c.in-Some.text
    c.in_ok-count.ensures.value c.in_ok-content.ensures.value found.1 found.0)

pub returns-in-None-clause-value : goal.returns-in-None-clause-value
returns-in-None-clause-value c =
    ap as_text (
    text_refused c.args.end c.args.at c.args.info c.in_ok-count.count c.args.bytes.now c.in_ok-count.rest.now c.in_ok-content.content.now c.in_ok-content.rest.now
    c.in_ok-count.ensures.value c.in_ok-content.ensures.value (found_none c.in_ok-text.field-0 c.in_ok-content.content.now c.in-None.is c.in_ok-text.ensures.none))
