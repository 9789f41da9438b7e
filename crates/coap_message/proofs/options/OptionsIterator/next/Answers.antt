use Rattle.std.proofs.Common.{rules, ◌∙◌, sym}
use Rattle.coap_message.specs.CodeValues.{option_value}
use Rattle.coap_message.proofs.OptionList.{options_step}
use Rattle.coap_message.proofs.options.OptionsIterator.next.Goals as goal

pub returns-clause-steps : goal.returns-clause-steps
returns-clause-steps c = sym c.self.view_is ∙ options_step _ _ (option_value c.in-Ok.row) _ c.in-Ok.ensures.read

pub returns-clause-goes : goal.returns-clause-goes
returns-clause-goes c = let step = sym c.self.view_is ∙ options_step _ _ (option_value c.in-Ok.row) _ c.in-Ok.ensures.read in rw step (search rules)
