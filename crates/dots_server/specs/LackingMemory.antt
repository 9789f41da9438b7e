-- When memory may be wanting for what is decided on a request: where an entry is accepted, a long reply or a body is made, or targets are copied or made.
use Rattle.std.specs.Prelude.{◌≡◌, ℕ, Bool, true, false, ◌||◌, Option, Some, None, Result, Ok, Err}
use Rattle.dots_settings.specs.Settings.{SettingsValue}
use Rattle.dots_settings.specs.Lookups.{role_of, prefixes_of}
use Rattle.dots_history.specs.declared.entry.Entry.{Entry}
use Rattle.dots_history.specs.Entries.{option_any}
use Rattle.dots_keys.specs.declared.exchange.Exchange.{Exchange}
use Rattle.dots_keys.specs.declared.head_request.MitigationPath.{MitigationPath}
use Rattle.dots_keys.specs.declared.request.MitigationBody.{MitigationBody}
use Rattle.dots_keys.specs.declared.request.Request.{Request}
use Rattle.dots_keys.specs.declared.request.Request.TheVariants as request
use Rattle.conflict_rules.specs.AskableTargets.{scope_fault}
use Rattle.conflict_rules.specs.declared.target.TargetFault.{TargetFault}
use Rattle.conflict_rules.specs.declared.fault.PutFault.{PutFault}
use Rattle.conflict_rules.specs.declared.judging.Judged.{Judged}
use Rattle.conflict_rules.specs.Results as rules
use Rattle.dots_machine.specs.declared.client_request.ClientRequest.{ClientRequest}
use Rattle.dots_machine.specs.declared.mitigation_request.MitigationRequest.{MitigationRequest}
use Rattle.dots_machine.specs.Verdict.{Verdict}
use Rattle.dots_machine.specs.declared.verdict.Verdict.TheVariants as verdict
use Rattle.dots_machine.specs.Domains.{domain_for}
use Rattle.dots_machine.specs.Facts.{Facts}
use Rattle.dots_machine.specs.Mitigations.{sent_by, request_of, judged, put_answer}
use Rattle.dots_machine.specs.Deciding.{asks_for, answer_to}

-- An entry with its rows, a long reply or a body is made. A short reply takes no memory, and neither does silence.
abbrev pub is_made : Verdict → Bool
is_made verdict.Silent = false
is_made (verdict.Reply reply) = false
is_made (verdict.LongReply reply) = true
is_made (verdict.Retrieves exchange body) = true
is_made (verdict.Accept reply entry) = true

-- ---- a mitigation that is asked for

-- what is at fault, or repeated, isn't judged
abbrev pub if_judged : Option TargetFault → Option Entry → Bool → Bool
if_judged (Some fault) repeated takes = false
if_judged None (Some entry) takes = false
if_judged None None takes = takes

-- targets are copied or made, where the judgement comes to that
abbrev pub makes_targets : SettingsValue → Facts → MitigationRequest → Bool
makes_targets settings facts asked =
    if_judged (scope_fault settings (prefixes_of settings asked.from.domain) asked.body.asked) (facts.repeated (sent_by asked.from))
    (rules.takes_memory (facts.judged asked.from.domain (request_of asked)))

abbrev pub put_takes : SettingsValue → Facts → MitigationRequest → Bool
put_takes settings facts asked = is_made (put_answer settings facts asked) || makes_targets settings facts asked

abbrev pub put_in_takes : SettingsValue → Facts → ClientRequest → MitigationBody → ℕ → Bool
put_in_takes settings facts from body mid = put_takes settings facts (record { from = from; mid = mid; body = body })

-- with a mid, for a domain that there is
abbrev pub put_for_takes : SettingsValue → Facts → ℕ → Exchange → MitigationPath → MitigationBody → ℕ → Bool
put_for_takes settings facts peer exchange path body domain = option_any (put_in_takes settings facts (asks_for peer exchange path domain) body) path.mid

-- ---- any request

-- **memory is taken for what the rules say of a request**
abbrev pub takes_memory : SettingsValue → Facts → ℕ → Exchange → Request → Bool
takes_memory settings facts peer exchange (request.PutMitigation path body) =
    option_any (put_for_takes settings facts peer exchange path body) (domain_for settings (role_of settings peer) path.cdid)
takes_memory settings facts peer exchange asked = is_made (answer_to settings facts peer exchange asked)

-- ---- what a call answers that decides

-- this verdict, or that memory was wanting, where it is taken
abbrev pub Yields : {E : Type 0} → Result Verdict E → Verdict → Bool → Type 0
Yields (Ok decided) answer takes = decided ≡ answer
Yields (Err lack) answer takes = takes ≡ true

-- where nothing takes memory but what is made
abbrev pub YieldsMade : {E : Type 0} → Result Verdict E → Verdict → Type 0
YieldsMade result answer = Yields result answer (is_made answer)

-- where a request for a mitigation is judged so at this time
abbrev pub YieldsJudged : {E : Type 0} → Result Verdict E → ℕ → MitigationRequest → Result Judged PutFault → Type 0
YieldsJudged result time asked judgement = Yields result (judged time asked judgement) (is_made (judged time asked judgement) || rules.takes_memory judgement)
