use Rattle.std.proofs.Common.{sym, ap, ◌∙◌}
use Rattle.std.specs.Prelude.{Some}
use Rattle.std.specs.Option.{option_copied}
use Rattle.dots_keys.specs.declared.path.Resource.{Resource}
use Rattle.dots_keys.specs.Paths.{mitigation}
use Rattle.dots_keys.specs.PathValues.{resource_value}
use Rattle.dots_gateway.proofs.Texts.{texts_short}
use Rattle.dots_gateway.proofs.wanted.read_resource.Goals as goal

pub returns-in_ok-refuse_operation-in-Some-Mitigation-clause-passable :
    goal.returns-in_ok-refuse_operation-in-Some-Mitigation-clause-passable
returns-in_ok-refuse_operation-in-Some-Mitigation-clause-passable c =
    let resource = sym c.in-Some-Mitigation.ensures ∙ ap (λ (r : Resource). Some (resource_value r)) c.in-Some-Mitigation.field-0-is in
    let path = (c.resource_of_a_path.ensures _ (mitigation (option_copied c.in-Some-Mitigation.field-0-0) (option_copied c.in-Some-Mitigation.cuid) (option_copied c.in-Some-Mitigation.mid))).0 resource in
    let texts = texts_short c.args.message.now.options _ _ _ c.options-options.ensures.are path in
    record { hop = c.requires.some; cuid = texts.0; mid = texts.1 }
