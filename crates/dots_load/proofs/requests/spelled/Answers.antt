use Rattle.std.proofs.Common.{refl, ◌∙◌, [], map}
use Rattle.coap_message.specs.declared.kind.Kind.TheVariants.{Non}
use Rattle.coap_message.specs.declared.parts.Parts.{Parts}
use Rattle.coap_message.specs.CodeValues.{option_value}
use Rattle.dots_load.proofs.Options.{AreFrom, parts_valid, spelled_as, spelled_short}
use Rattle.dots_load.proofs.requests.spelled.Goals as goal

pub written-requires : goal.written-requires
written-requires c =
    let made = c.in_ok-options.ensures in
    parts_valid _ (map option_value c.args.rows.now) (record { kind = refl; token = refl; options = c.deref.ensures.value ∙ made.0; values = c.deref-2.ensures.value ∙ made.1 })
    c.requires.options c.requires.payload c.requires.code

pub returns-clause-spells : goal.returns-clause-spells
returns-clause-spells c =
    let made = c.in_ok-options.ensures in
    let parts : Parts = record { kind = Non; code = c.args.code; id = c.args.id; token = record { ref_ptr = (0, 0); now = [] }; options = c.deref.result; values = c.deref-2.result; payload = c.args.payload } in
    let from : AreFrom parts (map option_value c.args.rows.now) = record { kind = refl; token = refl; options = c.deref.ensures.value ∙ made.0; values = c.deref-2.ensures.value ∙ made.1 } in
    spelled_as c.written.result parts (map option_value c.args.rows.now) from c.written.ensures

pub returns-clause-short : goal.returns-clause-short
returns-clause-short c =
    let made = c.in_ok-options.ensures in
    let parts : Parts = record { kind = Non; code = c.args.code; id = c.args.id; token = record { ref_ptr = (0, 0); now = [] }; options = c.deref.result; values = c.deref-2.result; payload = c.args.payload } in
    let from : AreFrom parts (map option_value c.args.rows.now) = record { kind = refl; token = refl; options = c.deref.ensures.value ∙ made.0; values = c.deref-2.ensures.value ∙ made.1 } in
    spelled_short c.written.result parts (map option_value c.args.rows.now) from c.requires.options c.requires.payload c.written.ensures
