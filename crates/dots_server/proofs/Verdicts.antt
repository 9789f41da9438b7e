-- What is decided on a request.
use Rattle.std.proofs.Common.{◌≡◌, ◌≢◌, ℕ, ◌≤◌, Bool, Option, true, false, cond, ◌&&◌, List, [], ◌∷◌, length, Some, None, refl, sym, ap, ◌∙◌, subst}
use Rattle.std.specs.Prelude.{not, nat_le, option_map, Result, Ok, Err, IfOk, OnOk}
use Rattle.std.specs.List.{list_all}
use Rattle.std.specs.Option.{is_some}
use Rattle.std.proofs.lemmas.Bool.{false≢true, and_parts, leb-true}
use Rattle.std.proofs.lemmas.Option.{none-some, same_Some}
use Rattle.dots_history.specs.declared.entry.Entry.{Entry}
use Rattle.dots_history.specs.Entries.{signals, may_repeat}
use Rattle.dots_history.specs.Histories.{is_recent, or_else, remembered}
use Rattle.dots_history.specs.Bounds.{change_within, within_bounds}
use Rattle.dots_settings.specs.declared.limits.Limits.{Limits}
use Rattle.dots_settings.specs.Settings.{SettingsValue}
use Rattle.dots_settings.specs.Lookups.{role_of, prefixes_of}
use Rattle.conflict_rules.specs.declared.fault.PutFault.{PutFault}
use Rattle.conflict_rules.specs.declared.fault.PutFault.TheVariants as faults
use Rattle.conflict_rules.specs.declared.judging.Judged.{Judged}
use Rattle.conflict_rules.specs.Results.{Fails}
use Rattle.dots_registry.specs.RegistryValues.{time_of, number_remembered}
use Rattle.dots_registry.specs.RegistryValues as registry
use Rattle.conflict_rules.specs.ByHistory.{judge_request}
use Rattle.conflict_rules.specs.declared.target.TargetFault.{TargetFault}
use Rattle.dots_keys.specs.declared.exchange.Exchange.{Exchange}
use Rattle.dots_machine.specs.declared.mitigation_request.MitigationRequest.{MitigationRequest}
use Rattle.dots_machine.specs.Verdict.{Verdict}
use Rattle.dots_machine.specs.declared.verdict.Verdict.TheVariants as verdict
use Rattle.dots_machine.specs.Domains.{is_gateway, config_domain, is_stranger}
use Rattle.conflict_rules.specs.AskableTargets.{scope_fault}
use Rattle.dots_machine.specs.Replies.{bad_target}
use Rattle.dots_machine.specs.MessageRepeats.{Sent, unless_repeated}
use Rattle.dots_machine.specs.Mitigations.{sent_by, request_of, judged, unless_faulty, put_answer}
use Rattle.dots_machine.specs.Machine.{State, facts_in}
use Rattle.dots_machine.specs.Deciding.{in_domain}
use Rattle.dots_server.specs.Asking.{role_with}
use Rattle.dots_server.specs.ServerValues.{ServerValue, Represents, IsServing}

pub if_ok : {A E : Type 0} (r : Result A E) (P Q : A → Type 0) → ((x : A) → P x → Q x) → IfOk r P → IfOk r Q
if_ok (Ok x) P Q f p = f x p
if_ok (Err e) P Q f p = tt

pub if_both : {A E : Type 0} (r : Result A E) (P Q : A → Type 0) (X Y : Type 0) → ((x : A) → P x → X → Y → Q x) → IfOk r P → OnOk r X → OnOk r Y → IfOk r Q
if_both (Ok x) P Q X Y f p s t = f x p s t
if_both (Err e) P Q X Y f p s t = tt

pub if_one : {A E : Type 0} (r : Result A E) (P Q : A → Type 0) (X : Type 0) → ((x : A) → P x → X → Q x) → IfOk r P → OnOk r X → IfOk r Q
if_one (Ok x) P Q X f p s = f x p s
if_one (Err e) P Q X f p s = tt

-- a fault that isn't want of memory is the judgement's
pub fails_known : (fault : PutFault) (judged : Result Judged PutFault) → fault ≢ faults.NoMemory → Fails fault judged → judged ≡ Err fault
fails_known faults.Collision judged known is = is
fails_known faults.Changed judged known is = is
fails_known faults.UnknownAlias judged known is = is
fails_known faults.TooMany judged known is = is
fails_known (faults.Higher mid) judged known is = is
fails_known (faults.Other prefixes) judged known is = is
fails_known (faults.Capacity which number) judged known is = is
fails_known faults.NoMemory judged known is = absurd (known refl)

-- who has a domain of its own, or is a gateway, is no stranger
pub known_is : (own : Option ℕ) → is_stranger (role_with own) ≡ false
known_is None = refl
known_is (Some domain) = refl

pub gateway_is : (own : Option ℕ) (none : Bool) → is_some own ≡ not none → none ≡ is_gateway (role_with own)
gateway_is None true is = refl
gateway_is None false is = absurd (false≢true is)
gateway_is (Some domain) true is = absurd (false≢true (sym is))
gateway_is (Some domain) false is = refl

-- ---- on a message that may be a repeat
abbrev pub reply_in : Option Entry → Option (List ℕ)
reply_in entry = option_map (λ (e : Entry). e.reply) entry

pub repeat_found : (entry : Option Entry) (otherwise : Verdict) (reply : List ℕ) → Some reply ≡ reply_in entry → verdict.Reply reply ≡ unless_repeated entry otherwise
repeat_found (Some e) otherwise reply is = ap verdict.Reply (same_Some reply e.reply is)
repeat_found None otherwise reply is = absurd (none-some reply (sym is))

pub repeat_none : (entry : Option Entry) (otherwise : Verdict) → None ≡ reply_in entry → otherwise ≡ unless_repeated entry otherwise
repeat_none (Some e) otherwise is = absurd (none-some e.reply is)
repeat_none None otherwise is = refl

-- the registry remembers by the settings, at the state's time
pub remembered_here : (server : ServerValue) (settings : SettingsValue) (state : State) (sent : Sent) → Represents server settings state
    → remembered (number_remembered server.registry) (time_of server.registry) sent.peer sent.domain sent.id state.history ≡ (facts_in settings state).repeated sent
remembered_here server settings state sent represents =
    ap (λ (l : Limits). remembered l.remembered (time_of server.registry) sent.peer sent.domain sent.id state.history) represents.is_of.limits
    ∙ ap (λ t. remembered settings.limits.remembered t sent.peer sent.domain sent.id state.history) represents.time_is

reply_within : (e : Entry) → within_bounds e ≡ true → length e.reply ≤ 64
reply_within e is =
    let front = and_parts _ (change_within e.change) is in
    let short = and_parts _ (nat_le (length e.reply) 64) front.0 in
    leb-true (length e.reply) 64 short.1

remembered_within : (n t peer domain id : ℕ) (entries : List Entry) (e : Entry) → list_all within_bounds entries ≡ true → remembered n t peer domain id entries ≡ Some e → length e.reply ≤ 64
remembered_within n t peer domain id [] e all is = absurd (none-some e is)
remembered_within n t peer domain id (x ∷ later) e all is =
    let both = and_parts (within_bounds x) (list_all within_bounds later) all in
    by_rest (remembered_within n t peer domain id later e both.1) (remembered n t peer domain id later) refl is (reply_within x both.0)
  where
    by_rest : (remembered n t peer domain id later ≡ Some e → length e.reply ≤ 64) → (o : Option Entry) → remembered n t peer domain id later ≡ o
        → or_else o (cond (signals peer domain x && (is_recent n x later && may_repeat t id x.time x.key)) (Some x) None) ≡ Some e → length x.reply ≤ 64 → length e.reply ≤ 64
    by_rest deeper (Some y) at same short = deeper (at ∙ same)
    by_rest deeper None at same short = by_test (signals peer domain x && (is_recent n x later && may_repeat t id x.time x.key)) same
      where
        by_test : (b : Bool) → cond b (Some x) None ≡ Some e → length e.reply ≤ 64
        by_test true here = subst (λ (y : Entry). length y.reply ≤ 64) (same_Some x e here) short
        by_test false here = absurd (none-some e here)

-- what a registry remembers fits a short message
pub reply_is_short : (server : ServerValue) (peer domain id : ℕ) (reply : List ℕ) → IsServing server
    → ((entries : List Entry) → registry.Represents server.registry entries
    → Some reply ≡ reply_in (remembered (number_remembered server.registry) (time_of server.registry) peer domain id entries))
    → length reply ≤ 64
reply_is_short server peer domain id reply serving is = by_found found refl (is serving.state.history serving.represents.represents.registry)
  where
    found : Option Entry
    found = remembered (number_remembered server.registry) (time_of server.registry) peer domain id serving.state.history

    by_found : (o : Option Entry) → found ≡ o → Some reply ≡ reply_in o → length reply ≤ 64
    by_found None at same = absurd (none-some reply (sym same))
    by_found (Some e) at same =
        subst (λ reply. length reply ≤ 64) (sym (same_Some reply e.reply same))
        (remembered_within (number_remembered server.registry) (time_of server.registry) peer domain id serving.state.history e serving.represents.represents.bounded at)

-- ---- on a request for a mitigation
module _ (server : ServerValue) (settings : SettingsValue) (state : State) (a : MitigationRequest) (represents : Represents server settings state) where
  abbrev fault : SettingsValue → Option TargetFault
  fault s = scope_fault s (prefixes_of s a.from.domain) a.body.asked

  abbrev known : Option Entry
  known = (facts_in settings state).repeated (sent_by a.from)

  abbrev by_rules : Verdict
  by_rules = judged state.time a (judge_request settings state.time state.history a.from.domain (request_of a))

  -- by the faults that the server finds
  decided_by : (f : Option TargetFault) → fault server.settings ≡ f → unless_faulty a.from.exchange f (unless_repeated known by_rules) ≡ put_answer settings (facts_in settings state) a
  decided_by f is = ap (λ f. unless_faulty a.from.exchange f (unless_repeated known by_rules)) (sym is ∙ ap fault represents.settings_are)

  pub server_finds_fault : (f : TargetFault) → fault server.settings ≡ Some f → verdict.Reply (bad_target a.from.exchange f) ≡ put_answer settings (facts_in settings state) a
  server_finds_fault f is = decided_by (Some f) is

  pub server_repeats : (reply : List ℕ) → fault server.settings ≡ None → Some reply ≡ reply_in known → verdict.Reply reply ≡ put_answer settings (facts_in settings state) a
  server_repeats reply none is = repeat_found known by_rules reply is ∙ decided_by None none

  pub server_goes_by_rules : fault server.settings ≡ None → None ≡ reply_in known → by_rules ≡ put_answer settings (facts_in settings state) a
  server_goes_by_rules none new = repeat_none known by_rules new ∙ decided_by None none

  -- the same at the state's time and by its settings
  pub judged_here : (r : Result Judged PutFault) → judge_request server.settings (time_of server.registry) state.history a.from.domain (request_of a) ≡ r
      → judge_request settings state.time state.history a.from.domain (request_of a) ≡ r
  judged_here r is =
      sym (ap (λ s. judge_request s (time_of server.registry) state.history a.from.domain (request_of a)) represents.settings_are
      ∙ ap (λ t. judge_request settings t state.history a.from.domain (request_of a)) represents.time_is)
      ∙ is

  pub server_judges : (r : Result Judged PutFault) → judge_request server.settings (time_of server.registry) state.history a.from.domain (request_of a) ≡ r
      → judged (time_of server.registry) a r ≡ by_rules
  server_judges r is = ap (λ t. judged t a r) represents.time_is ∙ ap (judged state.time a) (sym (judged_here r is))

-- ---- on a request for the configuration of a session
module _ (settings : SettingsValue) (peer : ℕ) (x : Exchange) (own : Option ℕ) (own_is : role_of settings peer ≡ role_with own) (domain : ℕ)
    (there : config_domain (role_with own) ≡ Some domain) (decide : ℕ → Verdict) where
  -- it is decided in the domain of the session
  pub in_session : decide domain ≡ in_domain x (config_domain (role_of settings peer)) decide
  in_session = sym (ap (λ d. in_domain x d decide) (ap config_domain own_is ∙ there))
