-- The first value that isn't accepted, of those of a mitigation and then of idle times.
use Rattle.std.proofs.Common.{◌≡◌, ℕ, Option, Some, None, refl, sym, ap, ◌∙◌}
use Rattle.std.specs.Prelude.{option_map, find}
use Rattle.std.specs.Option.{option_or}
use Rattle.std.proofs.lemmas.List.Folds.{find-append}
use Rattle.dots_keys.specs.declared.request.ConfigBody.{ConfigBody}
use Rattle.session_core.specs.declared.setting.Setting.{Setting}
use Rattle.session_core.specs.Negotiating.{given_by, all_given, refuses_given, setting_of, refused_in, judged_by, answered}

either : (a b : Option (Setting × Option ℕ)) → option_map setting_of (option_or a b) ≡ option_or (option_map setting_of a) (option_map setting_of b)
either None b = refl
either (Some x) b = refl

pub refused_first : (body : ConfigBody)
    → refused_in (all_given body) ≡ option_or (refused_in (given_by body.mitigating)) (refused_in (given_by body.idle))
refused_first body =
    ap (option_map setting_of) (find-append refuses_given (given_by body.mitigating) (given_by body.idle))
    ∙ either (find refuses_given (given_by body.mitigating)) (find refuses_given (given_by body.idle))

-- the first of both, as a program looks for it
found : (body : ConfigBody) (a b r : Option Setting) → a ≡ refused_in (given_by body.mitigating) → b ≡ refused_in (given_by body.idle) → r ≡ option_or a b
    → refused_in (all_given body) ≡ r
found body a b r first second is =
    refused_first body
    ∙ ap (λ o. option_or o (refused_in (given_by body.idle))) (sym first)
    ∙ ap (option_or a) (sym second)
    ∙ sym is

pub answer : (body : ConfigBody) (older : Option ℕ) (a b r : Option Setting) → older ≡ None → a ≡ refused_in (given_by body.mitigating)
    → b ≡ refused_in (given_by body.idle) → r ≡ option_or a b → answered older body ≡ judged_by r body
answer body older a b r not_older first second is =
    ap (λ o. answered o body) not_older
    ∙ ap (λ o. judged_by o body) (found body a b r first second is)
