-- Of what is accepted the client is told with a success, 2.01, 2.02 or 2.04; of what is refused, or can't be served, never. And each request is answered.
use Rattle.std.proofs.Common.{◌≡◌, ℕ, ◌==◌, Bool, true, false, cond, ◌||◌, List, [], ◌∷◌, Option, Some, None, Result, Ok, Err, refl, sym, subst}
use Rattle.coap_message.specs.declared.kind.Kind.{Kind}
use Rattle.coap_message.specs.declared.kind.Kind.TheVariants.{Con, Non, Ack, Rst}
use Rattle.dots_settings.specs.Settings.{SettingsValue}
use Rattle.dots_settings.specs.Lookups.{role_of, prefixes_of}
use Rattle.dots_keys.specs.declared.reject.Reject.{Reject}
use Rattle.dots_keys.specs.declared.reject.Reject.TheVariants as reject
use Rattle.dots_keys.specs.declared.head_request.Content.{Content}
use Rattle.dots_history.specs.declared.entry.Entry.{Entry}
use Rattle.dots_keys.specs.declared.head_request.MitigationPath.{MitigationPath}
use Rattle.dots_keys.specs.declared.request.Request.{Request}
use Rattle.dots_keys.specs.declared.request.Request.TheVariants as request
use Rattle.dots_keys.specs.declared.request.MitigationBody.{MitigationBody}
use Rattle.dots_keys.specs.declared.request.ConfigBody.{ConfigBody}
use Rattle.dots_history.specs.declared.config.Config.{Config}
use Rattle.session_core.specs.declared.negotiating.ConfigFault.{ConfigFault}
use Rattle.session_core.specs.declared.negotiating.ConfigFault.TheVariants.{Range, OlderSid}
use Rattle.session_core.specs.Negotiating.{negotiated}
use Rattle.conflict_rules.specs.LiveViews.{LiveView}
use Rattle.conflict_rules.specs.declared.fault.PutFault.{PutFault}
use Rattle.conflict_rules.specs.declared.fault.PutFault.TheVariants as faults
use Rattle.conflict_rules.specs.declared.judging.Judged.{Judged}
use Rattle.conflict_rules.specs.declared.target.TargetFault.{TargetFault}
use Rattle.dots_keys.specs.declared.exchange.Exchange.{Exchange}
use Rattle.dots_keys.specs.declared.dismissal.Dismissal.{Dismissal}
use Rattle.dots_keys.specs.declared.dismissal.Dismissal.TheVariants as dismissal
use Rattle.dots_machine.specs.declared.received.Received.{Received}
use Rattle.dots_machine.specs.declared.received.Received.TheVariants as received
use Rattle.dots_machine.specs.declared.client_request.ClientRequest.{ClientRequest}
use Rattle.dots_machine.specs.declared.mitigation_request.MitigationRequest.{MitigationRequest}
use Rattle.dots_machine.specs.Verdict.{Verdict}
use Rattle.dots_machine.specs.declared.verdict.Verdict.TheVariants as verdict
use Rattle.dots_machine.specs.Domains.{domain_for, config_domain}
use Rattle.conflict_rules.specs.AskableTargets.{scope_fault}
use Rattle.dots_keys.specs.Replies.{rejection}
use Rattle.dots_machine.specs.Replies.{grant_code, configuration_reply, absent}
use Rattle.dots_machine.specs.MessageRepeats.{sent_for, unless_repeated}
use Rattle.dots_machine.specs.Observing.{code_of}
use Rattle.dots_machine.specs.Mitigations.{sent_by, request_of, refusal, judged, get_reply, unless_faulty, put_answer, is_taken, delete_by, delete_answer, get_by, get_answer, client_for}
use Rattle.dots_machine.specs.Machine.{option_verdict, reject_verdict, dismissal_verdict, rules_say}
use Rattle.dots_machine.specs.Apart.{domain_of}
use Rattle.dots_machine.specs.ConfiguredPeers.{Configured, sid_of, is_held}
use Rattle.dots_machine.specs.Facts.{Facts}
use Rattle.dots_machine.specs.Deciding.{in_domain, with_mid, put_in, put_for, delete_in, delete_for, get_for, config_answer, put_config_for, clear_answer, delete_config_for, config_view, get_config_for, answer_to, asks_for}

-- 2.01, 2.02, 2.04 or 2.05
abbrev pub is_success : ℕ → Bool
is_success code = (code == 0x41) || ((code == 0x42) || ((code == 0x44) || (code == 0x45)))

abbrev pub IsAccept : Verdict → Type 0
IsAccept (verdict.Accept reply entry) = Unit {0}
IsAccept _ = ⊥

-- something is answered
abbrev pub Speaks : Verdict → Type 0
Speaks verdict.Silent = ⊥
Speaks _ = Unit {0}

-- something is answered, and where it accepts, for a domain, it tells a success
abbrev pub AcceptsWell : ℕ → Verdict → Type 0
AcceptsWell domain verdict.Silent = ⊥
AcceptsWell domain (verdict.Accept reply entry) = (is_success (code_of reply) ≡ true) × (entry.domain ≡ domain)
AcceptsWell domain _ = Unit {0}

-- nothing is accepted, nor is a success told
abbrev pub IsRefusal : Verdict → Type 0
IsRefusal verdict.Silent = Unit {0}
IsRefusal (verdict.Reply reply) = is_success (code_of reply) ≡ false
IsRefusal _ = ⊥

option_refuses : (kind : Kind) (reply : List ℕ) → is_success (code_of reply) ≡ false → IsRefusal (option_verdict kind reply)
option_refuses Con reply none = none
option_refuses Non reply none = tt
option_refuses Ack reply none = tt
option_refuses Rst reply none = tt

pub reject_refuses : (exchange : Exchange) (e : Reject) → IsRefusal (reject_verdict exchange e)
reject_refuses exchange (reject.Critical number) = option_refuses exchange.kind (rejection exchange (reject.Critical number)) refl
reject_refuses exchange reject.Path = refl
reject_refuses exchange reject.Method = refl
reject_refuses exchange reject.HopLimit = refl
reject_refuses exchange reject.Parameter = refl
reject_refuses exchange reject.Accept = refl
reject_refuses exchange reject.Format = refl
reject_refuses exchange reject.Query = refl
reject_refuses exchange (reject.Body cause) = refl
reject_refuses exchange reject.NoMemory = refl

refusal_accepts : (x : Exchange) (mid domain : ℕ) (fault : PutFault) → AcceptsWell domain (refusal x mid fault)
refusal_accepts x mid domain faults.Collision = tt
refusal_accepts x mid domain faults.Changed = tt
refusal_accepts x mid domain faults.UnknownAlias = tt
refusal_accepts x mid domain faults.TooMany = tt
refusal_accepts x mid domain (faults.Higher higher) = tt
refusal_accepts x mid domain (faults.Other prefixes) = tt
refusal_accepts x mid domain (faults.Capacity which number) = tt
refusal_accepts x mid domain faults.NoMemory = tt

grant_succeeds : (refreshed : Bool) → is_success (grant_code refreshed) ≡ true
grant_succeeds true = refl
grant_succeeds false = refl

module _ (settings : SettingsValue) (facts : Facts) where
  judged_accepts : (a : MitigationRequest) (r : Result Judged PutFault) → AcceptsWell a.from.domain (judged facts.time a r)
  judged_accepts a (Ok j) = (grant_succeeds j.refreshed, refl)
  judged_accepts a (Err fault) = refusal_accepts a.from.exchange a.mid a.from.domain fault

  -- the answer to a repeat accepts nothing
  repeat_accepts : (domain : ℕ) (entry : Option Entry) (v : Verdict) → AcceptsWell domain v → AcceptsWell domain (unless_repeated entry v)
  repeat_accepts domain (Some entry) v well = tt
  repeat_accepts domain None v well = well

  unless_accepts : (x : Exchange) (domain : ℕ) (fault : Option TargetFault) (v : Verdict) → AcceptsWell domain v → AcceptsWell domain (unless_faulty x fault v)
  unless_accepts x domain (Some fault) v well = tt
  unless_accepts x domain None v well = well

  put_accepts : (a : MitigationRequest) → AcceptsWell a.from.domain (put_answer settings facts a)
  put_accepts a =
      unless_accepts a.from.exchange a.from.domain (scope_fault settings (prefixes_of settings a.from.domain) a.body.asked) _
      (repeat_accepts a.from.domain (facts.repeated (sent_by a.from)) _
      (judged_accepts a (facts.judged a.from.domain (request_of a))))

  delete_accepts : (from : ClientRequest) (mid : ℕ) → AcceptsWell from.domain (delete_answer facts from mid)
  delete_accepts from mid = by_test (is_taken facts from) (facts.stands (client_for from) mid)
    where
      by_test : (taken stands : Bool) → AcceptsWell from.domain (delete_by facts.time from mid taken stands)
      by_test true stands = tt
      by_test false true = (refl, refl)
      by_test false false = tt

  retrieved_accepts : (x : Exchange) (domain : ℕ) (content : Content) (ms : List LiveView) → AcceptsWell domain (get_reply x content ms)
  retrieved_accepts x domain content [] = tt
  retrieved_accepts x domain content (m ∷ ms) = tt

  get_accepts : (from : ClientRequest) (mid : Option ℕ) (content : Content) → AcceptsWell from.domain (get_answer facts from mid content)
  get_accepts from mid content = by_test (is_taken facts from)
    where
      by_test : (taken : Bool) → AcceptsWell from.domain (get_by from.exchange mid content taken (facts.views (client_for from)))
      by_test true = tt
      by_test false = retrieved_accepts from.exchange from.domain content _

  with_mid_accepts : (x : Exchange) (domain : ℕ) (mid : Option ℕ) (f : ℕ → Verdict) → ((m : ℕ) → AcceptsWell domain (f m)) → AcceptsWell domain (with_mid x mid f)
  with_mid_accepts x domain None f each = tt
  with_mid_accepts x domain (Some mid) f each = each mid

  module _ (peer : ℕ) (x : Exchange) where
    pub puts_accept : (path : MitigationPath) (body : MitigationBody) (domain : ℕ) → AcceptsWell domain (put_for settings facts peer x path body domain)
    puts_accept path body domain =
        with_mid_accepts x domain path.mid (put_in settings facts (asks_for peer x path domain) body)
        (λ mid. put_accepts (record { from = asks_for peer x path domain; mid = mid; body = body }))

    pub deletes_accept : (path : MitigationPath) (domain : ℕ) → AcceptsWell domain (delete_for facts peer x path domain)
    deletes_accept path domain =
        with_mid_accepts x domain path.mid (delete_in facts (asks_for peer x path domain))
        (λ mid.
        repeat_accepts domain (facts.repeated (sent_by (asks_for peer x path domain))) _
        (delete_accepts (asks_for peer x path domain) mid))

    pub gets_accept : (path : MitigationPath) (content : Content) (domain : ℕ) → AcceptsWell domain (get_for facts peer x path content domain)
    gets_accept path content domain = get_accepts (asks_for peer x path domain) path.mid content

    config_accepts : (sid domain : ℕ) (replaced : Bool) (r : Result Config ConfigFault) → AcceptsWell domain (config_answer facts.time peer domain x sid replaced r)
    config_accepts sid domain replaced (Ok config) = (grant_succeeds replaced, refl)
    config_accepts sid domain replaced (Err (Range key)) = tt
    config_accepts sid domain replaced (Err (OlderSid kept)) = tt

    pub put_configs_accept : (sid : ℕ) (body : ConfigBody) (domain : ℕ) → AcceptsWell domain (put_config_for facts peer x sid body domain)
    put_configs_accept sid body domain =
        repeat_accepts domain (facts.repeated (sent_for peer x domain)) _
        (config_accepts sid domain (is_held sid (facts.configured domain peer)) (negotiated (sid_of (facts.configured domain peer)) sid body))

    clear_accepts : (domain : ℕ) (there : Bool) → AcceptsWell domain (clear_answer facts.time peer domain x there)
    clear_accepts domain true = (refl, refl)
    clear_accepts domain false = tt

    pub delete_configs_accept : (sid domain : ℕ) → AcceptsWell domain (delete_config_for facts peer x sid domain)
    delete_configs_accept sid domain =
        repeat_accepts domain (facts.repeated (sent_for peer x domain)) _ (clear_accepts domain (is_held sid (facts.configured domain peer)))

    view_accepts : (domain : ℕ) (sid : Option ℕ) (configured : Option Configured) → AcceptsWell domain (config_view x sid configured)
    view_accepts domain None configured = tt
    view_accepts domain (Some sid) configured = by_test (is_held sid configured)
      where
        by_test : (there : Bool) → AcceptsWell domain (cond there (verdict.LongReply (configuration_reply x configured)) (verdict.Reply (absent x)))
        by_test true = tt
        by_test false = tt

    pub get_configs_accept : (sid : Option ℕ) (domain : ℕ) → AcceptsWell domain (get_config_for facts peer x sid domain)
    get_configs_accept sid domain = view_accepts domain sid (facts.configured domain peer)

  -- on a request for a domain
  in_domain_accepts : (x : Exchange) (found : Option ℕ) (domain : ℕ) (f : ℕ → Verdict) → ((d : ℕ) → AcceptsWell d (f d)) → found ≡ Some domain → AcceptsWell domain (in_domain x found f)
  in_domain_accepts x found domain f each is = subst (λ found. AcceptsWell domain (in_domain x found f)) (sym is) (each domain)

  pub request_accepts : (peer : ℕ) (x : Exchange) (r : Request) (domain : ℕ) → domain_of settings (role_of settings peer) r ≡ Some domain
      → AcceptsWell domain (answer_to settings facts peer x r)
  request_accepts peer x (request.PutMitigation path body) domain found =
      in_domain_accepts x (domain_for settings (role_of settings peer) path.cdid) domain (put_for settings facts peer x path body) (puts_accept peer x path body) found
  request_accepts peer x (request.GetMitigation path content observe) domain found =
      in_domain_accepts x (domain_for settings (role_of settings peer) path.cdid) domain (get_for facts peer x path content) (gets_accept peer x path content) found
  request_accepts peer x (request.DeleteMitigation path) domain found =
      in_domain_accepts x (domain_for settings (role_of settings peer) path.cdid) domain (delete_for facts peer x path) (deletes_accept peer x path) found
  request_accepts peer x (request.PutConfig sid body) domain found =
      in_domain_accepts x (config_domain (role_of settings peer)) domain (put_config_for facts peer x sid body) (put_configs_accept peer x sid body) found
  request_accepts peer x (request.GetConfig sid) domain found =
      in_domain_accepts x (config_domain (role_of settings peer)) domain (get_config_for facts peer x sid) (get_configs_accept peer x sid) found
  request_accepts peer x (request.DeleteConfig sid) domain found =
      in_domain_accepts x (config_domain (role_of settings peer)) domain (delete_config_for facts peer x sid) (delete_configs_accept peer x sid) found
  request_accepts peer x (request.PutHeartbeat heard) domain found = tt

  -- where it accepts it tells a success
  abbrev pub SucceedsWell : Verdict → Type 0
  SucceedsWell (verdict.Accept reply entry) = is_success (code_of reply) ≡ true
  SucceedsWell _ = Unit {0}

  of_domain : (domain : ℕ) (v : Verdict) → AcceptsWell domain v → SucceedsWell v
  of_domain domain verdict.Silent well = absurd well
  of_domain domain (verdict.Reply reply) well = tt
  of_domain domain (verdict.LongReply reply) well = tt
  of_domain domain (verdict.Retrieves x body) well = tt
  of_domain domain (verdict.Accept reply entry) well = well.0

  in_domain_succeeds : (x : Exchange) (found : Option ℕ) (f : ℕ → Verdict) → ((d : ℕ) → AcceptsWell d (f d)) → SucceedsWell (in_domain x found f)
  in_domain_succeeds x None f each = tt
  in_domain_succeeds x (Some d) f each = of_domain d (f d) (each d)

  asked_succeeds : (peer : ℕ) (x : Exchange) (r : Request) → SucceedsWell (answer_to settings facts peer x r)
  asked_succeeds peer x (request.PutMitigation path body) = in_domain_succeeds x (domain_for settings (role_of settings peer) path.cdid) _ (puts_accept peer x path body)
  asked_succeeds peer x (request.GetMitigation path content observe) = in_domain_succeeds x (domain_for settings (role_of settings peer) path.cdid) _ (gets_accept peer x path content)
  asked_succeeds peer x (request.DeleteMitigation path) = in_domain_succeeds x (domain_for settings (role_of settings peer) path.cdid) _ (deletes_accept peer x path)
  asked_succeeds peer x (request.PutConfig sid body) = in_domain_succeeds x (config_domain (role_of settings peer)) _ (put_configs_accept peer x sid body)
  asked_succeeds peer x (request.GetConfig sid) = in_domain_succeeds x (config_domain (role_of settings peer)) _ (get_configs_accept peer x sid)
  asked_succeeds peer x (request.DeleteConfig sid) = in_domain_succeeds x (config_domain (role_of settings peer)) _ (delete_configs_accept peer x sid)
  asked_succeeds peer x (request.PutHeartbeat heard) = tt

  -- each request is answered
  speaks_for : (domain : ℕ) (v : Verdict) → AcceptsWell domain v → Speaks v
  speaks_for domain verdict.Silent well = absurd well
  speaks_for domain (verdict.Reply reply) well = tt
  speaks_for domain (verdict.LongReply reply) well = tt
  speaks_for domain (verdict.Retrieves x body) well = tt
  speaks_for domain (verdict.Accept reply entry) well = tt

  in_domain_speaks : (x : Exchange) (found : Option ℕ) (f : ℕ → Verdict) → ((d : ℕ) → AcceptsWell d (f d)) → Speaks (in_domain x found f)
  in_domain_speaks x None f each = tt
  in_domain_speaks x (Some d) f each = speaks_for d (f d) (each d)

  pub asked_speaks : (peer : ℕ) (x : Exchange) (r : Request) → Speaks (answer_to settings facts peer x r)
  asked_speaks peer x (request.PutMitigation path body) = in_domain_speaks x (domain_for settings (role_of settings peer) path.cdid) _ (puts_accept peer x path body)
  asked_speaks peer x (request.GetMitigation path content observe) = in_domain_speaks x (domain_for settings (role_of settings peer) path.cdid) _ (gets_accept peer x path content)
  asked_speaks peer x (request.DeleteMitigation path) = in_domain_speaks x (domain_for settings (role_of settings peer) path.cdid) _ (deletes_accept peer x path)
  asked_speaks peer x (request.PutConfig sid body) = in_domain_speaks x (config_domain (role_of settings peer)) _ (put_configs_accept peer x sid body)
  asked_speaks peer x (request.GetConfig sid) = in_domain_speaks x (config_domain (role_of settings peer)) _ (get_configs_accept peer x sid)
  asked_speaks peer x (request.DeleteConfig sid) = in_domain_speaks x (config_domain (role_of settings peer)) _ (delete_configs_accept peer x sid)
  asked_speaks peer x (request.PutHeartbeat heard) = tt

  refusal_succeeds : (v : Verdict) → IsRefusal v → SucceedsWell v
  refusal_succeeds verdict.Silent none = tt
  refusal_succeeds (verdict.Reply reply) none = tt
  refusal_succeeds (verdict.LongReply reply) none = absurd none
  refusal_succeeds (verdict.Retrieves x body) none = absurd none
  refusal_succeeds (verdict.Accept reply entry) none = absurd none

  dismissal_succeeds : (d : Dismissal) → SucceedsWell (dismissal_verdict d)
  dismissal_succeeds dismissal.Ignored = tt
  dismissal_succeeds (dismissal.Reset id) = tt
  dismissal_succeeds (dismissal.Rejected id) = tt

  pub succeeds : (peer : ℕ) (got : Received) → SucceedsWell (rules_say settings facts peer got)
  succeeds peer (received.Unread d) = dismissal_succeeds d
  succeeds peer (received.Dismissed d) = dismissal_succeeds d
  succeeds peer (received.Refused x e) = refusal_succeeds (reject_verdict x e) (reject_refuses x e)
  succeeds peer (received.Asked x r) = asked_succeeds peer x r
