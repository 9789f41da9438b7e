use Rattle.std.proofs.Common.{sym, ap, ◌∙◌}
use Rattle.dots_settings.specs.Admitting.{draft_value, form_value}
use Rattle.dots_settings.specs.Faults.{is_too_much}
use Rattle.dots_settings.proofs.draft.Draft.is_too_much.Goals as goal

pub returns-in-Name : goal.returns-in-Name
returns-in-Name c = c.has_many_names.ensures ∙ sym (ap (λ form. is_too_much (draft_value c.args.self.now) (form_value form)) c.in-Name.is)
