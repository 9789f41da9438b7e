-- A mitigation that is accepted was granted by the rules.
use Rattle.std.proofs.Common.{◌≡◌, ◌⊎◌, inl, inr, ℕ, Bool, true, false, cond, List, [], ◌∷◌, Option, Some, None, Result, Ok, Err, refl, sym, subst}
use Rattle.coap_message.specs.declared.kind.Kind.{Kind}
use Rattle.coap_message.specs.declared.kind.Kind.TheVariants.{Con, Non, Ack, Rst}
use Rattle.dots_settings.specs.Settings.{SettingsValue}
use Rattle.dots_settings.specs.Lookups.{role_of, prefixes_of}
use Rattle.dots_history.specs.declared.entry.Entry.{Entry}
use Rattle.dots_history.specs.declared.put.Put.{Put}
use Rattle.dots_history.specs.declared.change.Change.TheVariants as change
use Rattle.dots_keys.specs.declared.reject.Reject.{Reject}
use Rattle.dots_keys.specs.declared.reject.Reject.TheVariants as reject
use Rattle.dots_keys.specs.declared.head_request.Content.{Content}
use Rattle.dots_keys.specs.declared.request.Request.{Request}
use Rattle.dots_keys.specs.declared.request.ConfigBody.{ConfigBody}
use Rattle.dots_history.specs.declared.config.Config.{Config}
use Rattle.session_core.specs.declared.negotiating.ConfigFault.{ConfigFault}
use Rattle.session_core.specs.declared.negotiating.ConfigFault.TheVariants.{Range, OlderSid}
use Rattle.session_core.specs.Negotiating.{negotiated}
use Rattle.dots_keys.specs.declared.request.Request.TheVariants as request
use Rattle.conflict_rules.specs.LiveViews.{LiveView}
use Rattle.conflict_rules.specs.declared.fault.PutFault.{PutFault}
use Rattle.conflict_rules.specs.declared.fault.PutFault.TheVariants as faults
use Rattle.conflict_rules.specs.declared.judging.Judged.{Judged}
use Rattle.conflict_rules.specs.Judgements.{IsJudged}
use Rattle.conflict_rules.specs.declared.target.TargetFault.{TargetFault}
use Rattle.dots_keys.specs.declared.exchange.Exchange.{Exchange}
use Rattle.dots_keys.specs.declared.dismissal.Dismissal.{Dismissal}
use Rattle.dots_keys.specs.declared.dismissal.Dismissal.TheVariants as dismissal
use Rattle.dots_machine.specs.declared.received.Received.{Received}
use Rattle.dots_machine.specs.declared.received.Received.TheVariants as received
use Rattle.dots_machine.specs.declared.client_request.ClientRequest.{ClientRequest}
use Rattle.dots_machine.specs.declared.mitigation_request.MitigationRequest.{MitigationRequest}
use Rattle.dots_machine.specs.Verdict.{Verdict}
use Rattle.dots_machine.specs.declared.verdict.Verdict.TheVariants as verdict
use Rattle.dots_machine.specs.Domains.{domain_for, config_domain}
use Rattle.conflict_rules.specs.AskableTargets.{scope_fault}
use Rattle.dots_machine.specs.MessageRepeats.{sent_for, unless_repeated}
use Rattle.dots_machine.specs.Mitigations.{entry_of, sent_by, request_of, refusal, judged, client_for, get_reply, unless_faulty, put_answer, is_taken, delete_by, delete_answer, get_by, get_answer}
use Rattle.dots_machine.specs.Machine.{State, option_verdict, reject_verdict, dismissal_verdict, Decides, by_silence, by_rules, for_want_of_memory, facts_in, rules_say}
use Rattle.dots_machine.specs.Replies.{configuration_reply, absent}
use Rattle.dots_machine.specs.ConfiguredPeers.{Configured, sid_of, is_held}
use Rattle.dots_machine.specs.Facts.{Facts}
use Rattle.dots_machine.specs.Deciding.{in_domain, with_mid, put_in, put_for, delete_in, delete_for, get_for, config_answer, put_config_for, clear_answer, delete_config_for, config_view, get_config_for, answer_to, asks_for}
use Rattle.dots_machine.proofs.Verdicts.{are_facts, valued}

module _ (settings : SettingsValue) (state : State) where
  -- a mitigation was granted by the rules, or none was asked for
  abbrev pub Granted : Entry → Type 0
  Granted entry =
      (asked : MitigationRequest) × (given : Judged) × (reply : List ℕ)
      × IsJudged settings state.time state.history (client_for asked.from) (request_of asked) (Ok given)
      × (entry ≡ entry_of state.time asked.from reply (change.Put given.put))

  abbrev pub PutsNone : Entry → Type 0
  PutsNone entry = (entry.time ≡ state.time) × ((put : Put) → entry.change ≡ change.Put put → ⊥)

  abbrev pub AcceptsAs : Verdict → Type 0
  AcceptsAs (verdict.Accept reply entry) = Granted entry ⊎ PutsNone entry
  AcceptsAs _ = Unit {0}

  of_refusal : (x : Exchange) (mid : ℕ) (fault : PutFault) → AcceptsAs (refusal x mid fault)
  of_refusal x mid faults.Collision = tt
  of_refusal x mid faults.Changed = tt
  of_refusal x mid faults.UnknownAlias = tt
  of_refusal x mid faults.TooMany = tt
  of_refusal x mid (faults.Higher higher) = tt
  of_refusal x mid (faults.Other prefixes) = tt
  of_refusal x mid (faults.Capacity which number) = tt
  of_refusal x mid faults.NoMemory = tt

  abbrev known : Facts
  known = facts_in settings state

  of_judged : (a : MitigationRequest) (r : Result Judged PutFault) → IsJudged settings state.time state.history (client_for a.from) (request_of a) r → AcceptsAs (judged state.time a r)
  of_judged a (Ok given) is = inl (a, given, _, is, refl)
  of_judged a (Err fault) is = of_refusal a.from.exchange a.mid fault

  of_repeat : (entry : Option Entry) (v : Verdict) → AcceptsAs v → AcceptsAs (unless_repeated entry v)
  of_repeat (Some entry) v otherwise = tt
  of_repeat None v otherwise = otherwise

  of_fault : (x : Exchange) (fault : Option TargetFault) (v : Verdict) → AcceptsAs v → AcceptsAs (unless_faulty x fault v)
  of_fault x (Some fault) v otherwise = tt
  of_fault x None v otherwise = otherwise

  of_put : (a : MitigationRequest) → AcceptsAs (put_answer settings known a)
  of_put a =
      of_fault a.from.exchange (scope_fault settings (prefixes_of settings a.from.domain) a.body.asked) _
      (of_repeat (known.repeated (sent_by a.from)) _
      (of_judged a (known.judged a.from.domain (request_of a)) ((are_facts settings state.time state.history).judged a.from.domain (request_of a))))

  withdraws_none : (mid : ℕ) (put : Put) → change.Withdraw mid ≡ change.Put put → ⊥
  withdraws_none mid put is = cc is

  of_delete : (from : ClientRequest) (mid : ℕ) → AcceptsAs (delete_answer known from mid)
  of_delete from mid = by_test (is_taken known from) (known.stands (client_for from) mid)
    where
      by_test : (taken stands : Bool) → AcceptsAs (delete_by state.time from mid taken stands)
      by_test true stands = tt
      by_test false true = inr (refl, withdraws_none mid)
      by_test false false = tt

  of_retrieved : (x : Exchange) (content : Content) (ms : List LiveView) → AcceptsAs (get_reply x content ms)
  of_retrieved x content [] = tt
  of_retrieved x content (m ∷ ms) = tt

  of_get : (from : ClientRequest) (mid : Option ℕ) (content : Content) → AcceptsAs (get_answer known from mid content)
  of_get from mid content = by_test (is_taken known from)
    where
      by_test : (taken : Bool) → AcceptsAs (get_by from.exchange mid content taken (known.views (client_for from)))
      by_test true = tt
      by_test false = of_retrieved from.exchange content _

  of_domain : (x : Exchange) (found : Option ℕ) (f : ℕ → Verdict) → ((d : ℕ) → AcceptsAs (f d)) → AcceptsAs (in_domain x found f)
  of_domain x None f each = tt
  of_domain x (Some d) f each = each d

  of_mid : (x : Exchange) (mid : Option ℕ) (f : ℕ → Verdict) → ((m : ℕ) → AcceptsAs (f m)) → AcceptsAs (with_mid x mid f)
  of_mid x None f each = tt
  of_mid x (Some m) f each = each m

  module _ (peer : ℕ) where
    sets_none : (sid : ℕ) (config : Config) (put : Put) → change.SetConfig sid config ≡ change.Put put → ⊥
    sets_none sid config put is = cc is

    clears_none : (put : Put) → change.ClearConfig ≡ change.Put put → ⊥
    clears_none put is = cc is

    of_config : (x : Exchange) (sid d : ℕ) (replaced : Bool) (r : Result Config ConfigFault) → AcceptsAs (config_answer state.time peer d x sid replaced r)
    of_config x sid d replaced (Ok config) = inr (refl, sets_none sid config)
    of_config x sid d replaced (Err (Range key)) = tt
    of_config x sid d replaced (Err (OlderSid kept)) = tt

    of_put_config : (x : Exchange) (sid : ℕ) (body : ConfigBody) (d : ℕ) → AcceptsAs (put_config_for known peer x sid body d)
    of_put_config x sid body d =
        of_repeat (known.repeated (sent_for peer x d)) _
        (of_config x sid d (is_held sid (known.configured d peer)) (negotiated (sid_of (known.configured d peer)) sid body))

    of_clear : (x : Exchange) (d : ℕ) (there : Bool) → AcceptsAs (clear_answer state.time peer d x there)
    of_clear x d true = inr (refl, clears_none)
    of_clear x d false = tt

    of_delete_config : (x : Exchange) (sid d : ℕ) → AcceptsAs (delete_config_for known peer x sid d)
    of_delete_config x sid d = of_repeat (known.repeated (sent_for peer x d)) _ (of_clear x d (is_held sid (known.configured d peer)))

    of_view : (x : Exchange) (sid : Option ℕ) (configured : Option Configured) → AcceptsAs (config_view x sid configured)
    of_view x None configured = tt
    of_view x (Some sid) configured = by_test (is_held sid configured)
      where
        by_test : (there : Bool) → AcceptsAs (cond there (verdict.LongReply (configuration_reply x configured)) (verdict.Reply (absent x)))
        by_test true = tt
        by_test false = tt

    of_request : (x : Exchange) (r : Request) → AcceptsAs (answer_to settings known peer x r)
    of_request x (request.PutMitigation path body) =
        of_domain x (domain_for settings (role_of settings peer) path.cdid) (put_for settings known peer x path body)
        (λ d. of_mid x path.mid (put_in settings known (asks_for peer x path d) body) (λ mid. of_put (record { from = asks_for peer x path d; mid = mid; body = body })))
    of_request x (request.GetMitigation path content observe) =
        of_domain x (domain_for settings (role_of settings peer) path.cdid) (get_for known peer x path content) (λ d. of_get (asks_for peer x path d) path.mid content)
    of_request x (request.DeleteMitigation path) =
        of_domain x (domain_for settings (role_of settings peer) path.cdid) (delete_for known peer x path)
        (λ d.
        of_mid x path.mid (delete_in known (asks_for peer x path d))
        (λ mid. of_repeat (known.repeated (sent_by (asks_for peer x path d))) (delete_answer known (asks_for peer x path d) mid) (of_delete (asks_for peer x path d) mid)))
    of_request x (request.PutConfig sid body) = of_domain x (config_domain (role_of settings peer)) (put_config_for known peer x sid body) (of_put_config x sid body)
    of_request x (request.GetConfig sid) =
        of_domain x (config_domain (role_of settings peer)) (get_config_for known peer x sid) (λ d. of_view x sid (known.configured d peer))
    of_request x (request.DeleteConfig sid) = of_domain x (config_domain (role_of settings peer)) (delete_config_for known peer x sid) (of_delete_config x sid)
    of_request x (request.PutHeartbeat heard) = tt

    of_option : (kind : Kind) (reply : List ℕ) → AcceptsAs (option_verdict kind reply)
    of_option Con reply = tt
    of_option Non reply = tt
    of_option Ack reply = tt
    of_option Rst reply = tt

    of_reject : (x : Exchange) (e : Reject) → AcceptsAs (reject_verdict x e)
    of_reject x (reject.Critical number) = of_option x.kind _
    of_reject x reject.Path = tt
    of_reject x reject.Method = tt
    of_reject x reject.HopLimit = tt
    of_reject x reject.Parameter = tt
    of_reject x reject.Accept = tt
    of_reject x reject.Format = tt
    of_reject x reject.Query = tt
    of_reject x (reject.Body cause) = tt
    of_reject x reject.NoMemory = tt

    of_dismissal : (d : Dismissal) → AcceptsAs (dismissal_verdict d)
    of_dismissal dismissal.Ignored = tt
    of_dismissal (dismissal.Reset id) = tt
    of_dismissal (dismissal.Rejected id) = tt

    of_received : (got : Received) → AcceptsAs (rules_say settings known peer got)
    of_received (received.Unread d) = of_dismissal d
    of_received (received.Dismissed d) = of_dismissal d
    of_received (received.Refused x e) = of_reject x e
    of_received (received.Asked x r) = of_request x r

    pub accepts_as : (datagram : List ℕ) (v : Verdict) → Decides settings state peer datagram v → AcceptsAs v
    accepts_as datagram v (by_silence n is) = subst AcceptsAs (sym is) tt
    accepts_as datagram v (for_want_of_memory n lacks) = subst AcceptsAs (sym lacks.answer) tt
    accepts_as datagram v (by_rules n got received rules) = subst AcceptsAs (sym (valued settings state peer got v rules)) (of_received got)
