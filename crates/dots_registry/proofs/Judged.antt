-- The judgement of a request, by what the tables have of a history.
use Rattle.std.proofs.Common.{◌≡◌, ℕ, List, Option, Result, subst, ◌∙◌, ap}
use Rattle.acl_lists.specs.declared.alias.Alias.{Alias}
use Rattle.dots_settings.specs.Settings.{SettingsValue}
use Rattle.conflict_rules.specs.declared.live.Live.{Live}
use Rattle.conflict_rules.specs.declared.fault.PutFault.{PutFault}
use Rattle.conflict_rules.specs.declared.judging.Judged.{Judged}
use Rattle.conflict_rules.specs.Requests.{Request, ClientValue}
use Rattle.conflict_rules.specs.Judging.{judge_put}
use Rattle.conflict_rules.specs.Results.{Gives}

abbrev of_client : Option ℕ → List Alias → ClientValue
of_client registrant aliases = record { registrant = registrant; aliases = aliases }

pub judged_is : (settings : SettingsValue) (live lives : List Live) (registrant registered : Option ℕ) (aliases held : List Alias) (t now : ℕ) (request : Request)
    (result : Result Judged PutFault) → live ≡ lives → registrant ≡ registered → aliases ≡ held → t ≡ now
    → Gives result (judge_put settings live (of_client registrant aliases) t request)
    → Gives result (judge_put settings lives (of_client registered held) now request)
judged_is settings live lives registrant registered aliases held t now request result same_lives same_peer same_aliases same_time gives =
    let is : judge_put settings live (of_client registrant aliases) t request ≡ judge_put settings lives (of_client registered held) now request
    = ap (λ ls. judge_put settings ls (of_client registrant aliases) t request) same_lives
    ∙ ap (λ peer. judge_put settings lives (of_client peer aliases) t request) same_peer
    ∙ ap (λ given. judge_put settings lives (of_client registered given) t request) same_aliases
    ∙ ap (λ n. judge_put settings lives (of_client registered held) n request) same_time in
    subst (Gives result) is gives
