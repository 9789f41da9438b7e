-- What is decided on a request: an entry that is accepted carries it, and a reply that tells a grant is remembered.
use Rattle.std.specs.Prelude.{if◌then◌else◌, filter}
use Rattle.std.proofs.Common.{◌≡◌, ◌⊎◌, inl, inr, ℕ, ◌<◌, ◌≤◌, ◌^◌, Bool, true, false, List, [], ◌∷◌, ◌++◌, length, codes, decimal, Option, Some, None, Result, Ok, Err, refl, sym, ap, ◌∙◌, arith}
use Rattle.cbor_profile.specs.Canon.{canon}
use Rattle.coap_message.specs.declared.codes.TheConstants.{DELETED, CHANGED, CONTENT, BAD_REQUEST, NOT_FOUND, CONFLICT, UNPROCESSABLE_ENTITY, INTERNAL_SERVER_ERROR, SERVICE_UNAVAILABLE}
use Rattle.coap_message.specs.Message.{CoapMessage, IsMessage}
use Rattle.coap_message.proofs.Whole.{one_message}
use Rattle.reply_bodies.specs.declared.conflict.ConflictCause.{ConflictCause}
use Rattle.reply_bodies.specs.declared.conflict.ConflictCause.TheVariants as cause
use Rattle.reply_bodies.specs.declared.reply.Reply.TheVariants as reply
use Rattle.reply_bodies.specs.Replies.{reply_tree}
use Rattle.dots_keys.specs.RejectText.{reject_text}
use Rattle.dots_settings.specs.Settings.{SettingsValue}
use Rattle.dots_settings.specs.Lookups.{role_of, prefixes_of}
use Rattle.dots_keys.specs.declared.reject.Reject.TheVariants as reject
use Rattle.dots_keys.specs.declared.head_request.Content.{Content}
use Rattle.dots_keys.specs.declared.head_request.MitigationPath.{MitigationPath}
use Rattle.dots_keys.specs.declared.request.Request.{Request}
use Rattle.dots_keys.specs.declared.request.Request.TheVariants as request
use Rattle.dots_keys.specs.declared.request.MitigationBody.{MitigationBody}
use Rattle.dots_keys.specs.declared.request.ConfigBody.{ConfigBody}
use Rattle.dots_history.specs.declared.entry.Entry.{Entry}
use Rattle.dots_history.specs.declared.put.Put.{Put}
use Rattle.dots_history.specs.declared.put.Target.{Target}
use Rattle.dots_history.specs.declared.config.Config.{Config}
use Rattle.dots_history.specs.Tables.{Client}
use Rattle.session_core.specs.declared.negotiating.ConfigFault.{ConfigFault}
use Rattle.session_core.specs.declared.negotiating.ConfigFault.TheVariants.{Range, OlderSid}
use Rattle.session_core.specs.Negotiating.{negotiated}
use Rattle.conflict_rules.specs.LiveViews.{LiveView}
use Rattle.conflict_rules.specs.Requests.{Request as Wish}
use Rattle.conflict_rules.specs.Judging.{granted_put}
use Rattle.conflict_rules.specs.Judgements.{IsJudged, collision, refreshes, changes, unknown, too_many, higher, other, client_full, domain_full, begins}
use Rattle.conflict_rules.specs.declared.fault.PutFault.{PutFault}
use Rattle.conflict_rules.specs.declared.fault.PutFault.TheVariants as faults
use Rattle.conflict_rules.specs.declared.judging.Judged.{Judged}
use Rattle.conflict_rules.specs.declared.target.TargetFault.{TargetFault}
use Rattle.conflict_rules.specs.AskableTargets.{scope_fault, target_text}
use Rattle.dots_keys.specs.declared.exchange.Exchange.{Exchange}
use Rattle.dots_machine.specs.declared.mitigation_request.MitigationRequest.{MitigationRequest}
use Rattle.dots_machine.specs.Verdict.{Verdict}
use Rattle.dots_machine.specs.declared.verdict.Verdict.TheVariants as verdict
use Rattle.dots_machine.specs.Domains.{domain_for, config_domain}
use Rattle.dots_keys.specs.Replies.{plain}
use Rattle.dots_machine.specs.Replies.{conflicting, configuration_reply, session_view, absent}
use Rattle.dots_machine.specs.MessageRepeats.{Repeats, sent_for, unless_repeated}
use Rattle.dots_machine.specs.Mitigations.{key_of, request_of, refusal, judged, is_wanted, get_reply, unless_faulty, put_answer, client_for, is_taken, delete_by, delete_answer, get_by}
use Rattle.dots_machine.specs.ConfiguredPeers.{Configured, sid_of, is_held}
use Rattle.dots_machine.specs.Facts.{Facts, AreFacts}
use Rattle.dots_machine.specs.Deciding.{in_domain, with_mid, put_in, put_for, delete_in, delete_for, get_for, config_answer, put_config_for, clear_answer, delete_config_for, config_view, get_config_for, answer_to, asks_for}
use Rattle.dots_machine.specs.Apart.{domain_of}
use Rattle.dots_world.specs.Adding.{Carries}
use Rattle.dots_world.specs.Granting.{WasAnswered}
use Rattle.dots_world.proofs.Telling.{IsQuiet, quiet, plain_message, body_message, slice_contains, signals_peer}

-- who asked has a Message ID and a token
pub record IsExchange (x : Exchange) : Type 0 where
  pub identifier : x.id < 2 ^ 16
  pub token : length x.token ≤ 8

-- a reply without a payload
pub empty_quiet : (x : Exchange) → IsExchange x → (code : ℕ) → code < 256 → (code ≡ 0 → ⊥) → IsQuiet (plain code x [])
empty_quiet x fit code small some says =
    let is : IsMessage (plain_message code x []) = record { code = small; identifier = fit.identifier; token = fit.token; options = tt; empty = λ none. absurd (some none) } in
    says.filled (ap (λ (m : CoapMessage). m.payload) (one_message says.message (plain_message code x []) says.is_message is (sym says.spelled)))

module _ (history : List Entry) (peer : ℕ) where
  -- the reply tells no grant, or it is remembered
  abbrev pub IsSpoken : List ℕ → Type 0
  IsSpoken reply = IsQuiet reply ⊎ WasAnswered history peer reply

  -- where a verdict accepts, this holds of the reply and the entry
  abbrev pub Meets : (List ℕ → Entry → Type 0) → Verdict → Type 0
  Meets P verdict.Silent = Unit {0}
  Meets P (verdict.Reply reply) = IsSpoken reply
  Meets P (verdict.LongReply reply) = IsSpoken reply
  Meets P (verdict.Retrieves x body) = Unit {0}
  Meets P (verdict.Accept reply entry) = P reply entry

  pub meets_weaker : (P Q : List ℕ → Entry → Type 0) → ((reply : List ℕ) (entry : Entry) → P reply entry → Q reply entry) → (v : Verdict) → Meets P v → Meets Q v
  meets_weaker P Q each verdict.Silent holds = tt
  meets_weaker P Q each (verdict.Reply reply) holds = holds
  meets_weaker P Q each (verdict.LongReply reply) holds = holds
  meets_weaker P Q each (verdict.Retrieves x body) holds = tt
  meets_weaker P Q each (verdict.Accept reply entry) holds = each reply entry holds

  module _ (P : List ℕ → Entry → Type 0) where
    unless_of : (x : Exchange) (fault : Option TargetFault) (v : Verdict) → Meets P v → Meets P (unless_faulty x fault v)
    unless_of x (Some fault) v of = inl (quiet (plain_message BAD_REQUEST x (target_text fault)) refl)
    unless_of x None v of = of

    in_domain_of : (x : Exchange) (found : Option ℕ) (f : ℕ → Verdict) → ((d : ℕ) → found ≡ Some d → Meets P (f d)) → Meets P (in_domain x found f)
    in_domain_of x None f each = inl (quiet (plain_message BAD_REQUEST x (reject_text reject.Parameter)) refl)
    in_domain_of x (Some d) f each = each d refl

    with_mid_of : (x : Exchange) (mid : Option ℕ) (f : ℕ → Verdict) → ((m : ℕ) → mid ≡ Some m → Meets P (f m)) → Meets P (with_mid x mid f)
    with_mid_of x None f each = inl (quiet (plain_message BAD_REQUEST x (reject_text reject.Parameter)) refl)
    with_mid_of x (Some m) f each = each m refl

    conflict_of : (x : Exchange) (mid : Option ℕ) (why : ConflictCause) → IsSpoken (conflicting x mid why)
    conflict_of x mid why = inl (quiet (body_message CONFLICT x (canon (reply_tree (reply.Conflict (record { mid = mid; cause = why }))))) refl)

    refusal_of : (x : Exchange) (mid : ℕ) (fault : PutFault) → Meets P (refusal x mid fault)
    refusal_of x mid faults.Collision = conflict_of x (Some mid) cause.Collision
    refusal_of x mid faults.Changed = inl (quiet (plain_message BAD_REQUEST x (codes "changed")) refl)
    refusal_of x mid faults.UnknownAlias = inl (quiet (plain_message BAD_REQUEST x (codes "unknown alias")) refl)
    refusal_of x mid faults.TooMany = inl (quiet (plain_message BAD_REQUEST x (codes "too many")) refl)
    refusal_of x mid (faults.Higher above) = conflict_of x (Some mid) (cause.Higher above)
    refusal_of x mid (faults.Other prefixes) = conflict_of x (Some mid) (cause.Other prefixes)
    refusal_of x mid (faults.Capacity which number) = inl (quiet (plain_message SERVICE_UNAVAILABLE x (codes "capacity")) refl)
    refusal_of x mid faults.NoMemory = inl (quiet (plain_message INTERNAL_SERVER_ERROR x []) refl)

    get_of : (x : Exchange) (mid : Option ℕ) (content : Content) (taken : Bool) (views : List LiveView) → Meets P (get_by x mid content taken views)
    get_of x mid content true views = conflict_of x mid cause.Collision
    get_of x mid content false views = told (filter (is_wanted mid) views)
      where
        told : (ms : List LiveView) → Meets P (get_reply x content ms)
        told [] = inl (quiet (plain_message NOT_FOUND x (codes "absent")) refl)
        told (m ∷ ms) = tt

    configured_of : (x : Exchange) (configured : Option Configured) → IsSpoken (configuration_reply x configured)
    configured_of x configured = inl (quiet (body_message CONTENT x (canon (reply_tree (reply.Session (session_view configured))))) refl)

    view_of : (x : Exchange) (sid : Option ℕ) (configured : Option Configured) → Meets P (config_view x sid configured)
    view_of x None configured = configured_of x configured
    view_of x (Some sid) configured = by_test (is_held sid configured)
      where
        by_test : (there : Bool) → Meets P (if there then verdict.LongReply (configuration_reply x configured) else verdict.Reply (absent x))
        by_test true = configured_of x configured
        by_test false = inl (quiet (plain_message NOT_FOUND x (codes "absent")) refl)

-- what is granted is the request's, for some targets from some start
pub record IsGrantOf (settings : SettingsValue) (wish : Wish) (granted : Judged) : Type 0 where
  pub targets : List Target
  pub start : ℕ
  pub put_is : granted.put ≡ granted_put settings wish targets start

abbrev judgement : Result Judged PutFault → Result Judged PutFault
judgement r = r

ok_same : (a b : Judged) → judgement (Ok a) ≡ Ok b → a ≡ b
ok_same a b e = cc

granted_so : (settings : SettingsValue) (t : ℕ) (entries : List Entry) (client : Client) (wish : Wish) (found : Judged)
    → IsJudged settings t entries client wish (Ok found) → IsGrantOf settings wish found
granted_so settings t entries client wish found (collision taken e) = absurd (cc e)
granted_so settings t entries client wish found (refreshes put free has would e) =
    record { targets = put.targets; start = put.start; put_is = ap (λ (j : Judged). j.put) (ok_same _ _ e) }
granted_so settings t entries client wish found (changes put free has would e) = absurd (cc e)
granted_so settings t entries client wish found (unknown free unused has e) = absurd (cc e)
granted_so settings t entries client wish found (too_many targets free unused are many e) = absurd (cc e)
granted_so settings t entries client wish found (higher targets mid is_new is_higher most e) = absurd (cc e)
granted_so settings t entries client wish found (other targets prefixes highest those some e) = absurd (cc e)
granted_so settings t entries client wish found (client_full targets own all free full e) = absurd (cc e)
granted_so settings t entries client wish found (domain_full targets own all free below full e) = absurd (cc e)
granted_so settings t entries client wish found (begins targets own all free below room e) =
    record { targets = targets; start = t; put_is = ap (λ (j : Judged). j.put) (ok_same _ _ e) }

-- ---- what is decided on a request
module _ (settings : SettingsValue) (t : ℕ) (history : List Entry) (facts : Facts) (are : AreFacts settings t history facts) (peer : ℕ) (x : Exchange) (is_exchange : IsExchange x) where
  -- an entry for this domain carries the request, with the reply to it
  pub record CarriesFor (asked : Request) (domain : ℕ) (reply : List ℕ) (entry : Entry) : Type 0 where
    pub time_is : entry.time ≡ t
    pub peer_is : entry.peer ≡ peer
    pub domain_is : entry.domain ≡ domain
    pub key_is : entry.key ≡ key_of x.kind x.id
    pub reply_is : entry.reply ≡ reply
    pub carries : Carries settings x asked entry

  abbrev pub CarriesSome : Request → List ℕ → Entry → Type 0
  CarriesSome asked reply entry = (domain : ℕ) × (domain_of settings (role_of settings peer) asked ≡ Some domain) × CarriesFor asked domain reply entry

  abbrev pub IsFine : Request → Verdict → Type 0
  IsFine asked v = Meets history peer (CarriesSome asked) v

  -- the answer to a repeat is remembered
  repeat_of : (asked : Request) (domain : ℕ) (v : Verdict) → IsFine asked v → IsFine asked (unless_repeated (facts.repeated (sent_for peer x domain)) v)
  repeat_of asked domain v of = by_found (facts.repeated (sent_for peer x domain)) (are.repeated (sent_for peer x domain))
    where
      by_found : (found : Option Entry) → Repeats settings.limits.remembered t history (sent_for peer x domain) found → IsFine asked (unless_repeated found v)
      by_found (Some entry) is = inr (record { entry = entry; kept = slice_contains history is.place entry is.there; peer_is = signals_peer peer domain entry is.of_both; reply_is = refl })
      by_found None never = of

  module _ (path : MitigationPath) (body : MitigationBody) (domain : ℕ) (found : domain_for settings (role_of settings peer) path.cdid ≡ Some domain) (mid : ℕ) (has : path.mid ≡ Some mid) where
    abbrev wanted : MitigationRequest
    wanted = record { from = asks_for peer x path domain; mid = mid; body = body }

    abbrev OfPut : Verdict → Type 0
    OfPut v = IsFine (request.PutMitigation path body) v

    judged_carries : (r : Result Judged PutFault) → IsJudged settings t history (record { domain = domain; cuid = path.cuid }) (request_of wanted) r → OfPut (judged facts.time wanted r)
    judged_carries (Ok j) is =
        let so = granted_so settings t history (record { domain = domain; cuid = path.cuid }) (request_of wanted) j is in (
          domain,
          found,
          record {
            time_is = are.time;
            peer_is = refl;
            domain_is = refl;
            key_is = refl;
            reply_is = refl;
            carries = record {
              cuid = refl;
              put = j.put;
              changes = refl;
              mid = has ∙ sym (ap (λ (put : Put). Some put.mid) so.put_is);
              asked = ap (λ (put : Put). put.asked) so.put_is;
              lasts = ap (λ (put : Put). put.granted) so.put_is;
              trigger = ap (λ (put : Put). put.trigger) so.put_is;
              refreshed = j.refreshed;
              reply = refl;
            };
          },
        )
    judged_carries (Err fault) is = refusal_of history peer (CarriesSome (request.PutMitigation path body)) x mid fault

    put_carries : OfPut (put_answer settings facts wanted)
    put_carries =
        unless_of history peer (CarriesSome (request.PutMitigation path body)) x (scope_fault settings (prefixes_of settings domain) body.asked) _
        (repeat_of (request.PutMitigation path body) domain _ (judged_carries (facts.judged domain (request_of wanted)) (are.judged domain (request_of wanted))))

  module _ (path : MitigationPath) (domain : ℕ) (found : domain_for settings (role_of settings peer) path.cdid ≡ Some domain) (mid : ℕ) (has : path.mid ≡ Some mid) where
    delete_carries : IsFine (request.DeleteMitigation path) (delete_answer facts (asks_for peer x path domain) mid)
    delete_carries = by_test (is_taken facts (asks_for peer x path domain)) (facts.stands (client_for (asks_for peer x path domain)) mid)
      where
        by_test : (taken stands : Bool) → IsFine (request.DeleteMitigation path) (delete_by facts.time (asks_for peer x path domain) mid taken stands)
        by_test true stands = conflict_of history peer (CarriesSome (request.DeleteMitigation path)) x (Some mid) cause.Collision
        by_test false true = (
          domain,
          found,
          record {
            time_is = are.time;
            peer_is = refl;
            domain_is = refl;
            key_is = refl;
            reply_is = refl;
            carries = record { cuid = refl; mid = mid; mid_is = has; changes = refl; reply = refl };
          },
        )
        by_test false false = inl (quiet (plain_message DELETED x []) refl)

  module _ (sid domain : ℕ) (found : config_domain (role_of settings peer) ≡ Some domain) where
    config_carries : (body : ConfigBody) (held : Option ℕ) (replaced : Bool) (r : Result Config ConfigFault) → negotiated held sid body ≡ r
        → IsFine (request.PutConfig sid body) (config_answer facts.time peer domain x sid replaced r)
    config_carries body held replaced (Ok config) agreed = (
      domain,
      found,
      record {
        time_is = are.time;
        peer_is = refl;
        domain_is = refl;
        key_is = refl;
        reply_is = refl;
        carries = record { cuid = refl; held = held; config = config; agreed = agreed; changes = refl; replaced = replaced; reply = refl };
      },
    )
    config_carries body held replaced (Err (Range key)) agreed = inl (quiet (plain_message UNPROCESSABLE_ENTITY x (codes "range " ++ decimal key)) refl)
    config_carries body held replaced (Err (OlderSid kept)) agreed = inl (quiet (plain_message CONFLICT x (codes "sid")) refl)

    clear_carries : (there : Bool) → IsFine (request.DeleteConfig sid) (clear_answer facts.time peer domain x there)
    clear_carries true = (
      domain,
      found,
      record {
        time_is = are.time;
        peer_is = refl;
        domain_is = refl;
        key_is = refl;
        reply_is = refl;
        carries = record { cuid = refl; changes = refl; reply = refl };
      },
    )
    clear_carries false = inl (quiet (plain_message DELETED x []) refl)

  pub answer_carries : (asked : Request) → IsFine asked (answer_to settings facts peer x asked)
  answer_carries (request.PutMitigation path body) =
      in_domain_of history peer (CarriesSome (request.PutMitigation path body)) x (domain_for settings (role_of settings peer) path.cdid) (put_for settings facts peer x path body)
      (λ domain found.
      with_mid_of history peer (CarriesSome (request.PutMitigation path body)) x path.mid (put_in settings facts (asks_for peer x path domain) body)
      (λ mid has. put_carries path body domain found mid has))
  answer_carries (request.GetMitigation path content observe) =
      in_domain_of history peer (CarriesSome (request.GetMitigation path content observe)) x (domain_for settings (role_of settings peer) path.cdid) (get_for facts peer x path content)
      (λ domain found.
      get_of history peer (CarriesSome (request.GetMitigation path content observe)) x path.mid content (is_taken facts (asks_for peer x path domain))
      (facts.views (client_for (asks_for peer x path domain))))
  answer_carries (request.DeleteMitigation path) =
      in_domain_of history peer (CarriesSome (request.DeleteMitigation path)) x (domain_for settings (role_of settings peer) path.cdid) (delete_for facts peer x path)
      (λ domain found.
      with_mid_of history peer (CarriesSome (request.DeleteMitigation path)) x path.mid (delete_in facts (asks_for peer x path domain))
      (λ mid has. repeat_of (request.DeleteMitigation path) domain _ (delete_carries path domain found mid has)))
  answer_carries (request.PutConfig sid body) =
      in_domain_of history peer (CarriesSome (request.PutConfig sid body)) x (config_domain (role_of settings peer)) (put_config_for facts peer x sid body)
      (λ domain found.
      repeat_of (request.PutConfig sid body) domain _
      (config_carries sid domain found body (sid_of (facts.configured domain peer)) (is_held sid (facts.configured domain peer)) (negotiated (sid_of (facts.configured domain peer)) sid body) refl))
  answer_carries (request.GetConfig sid) =
      in_domain_of history peer (CarriesSome (request.GetConfig sid)) x (config_domain (role_of settings peer)) (get_config_for facts peer x sid)
      (λ domain found. view_of history peer (CarriesSome (request.GetConfig sid)) x sid (facts.configured domain peer))
  answer_carries (request.DeleteConfig sid) =
      in_domain_of history peer (CarriesSome (request.DeleteConfig sid)) x (config_domain (role_of settings peer)) (delete_config_for facts peer x sid)
      (λ domain found. repeat_of (request.DeleteConfig sid) domain _ (clear_carries sid domain found (is_held sid (facts.configured domain peer))))
  answer_carries (request.PutHeartbeat heard) = inl (empty_quiet x is_exchange CHANGED (omega arith) (λ none. absurd (cc none)))
