-- What is kept of an accepted message lets its repeats be known.
use Rattle.std.proofs.Common.{◌≡◌, ℕ, zero, suc, ◌+◌, ◌<◌, ◌≤◌, Bool, true, false, cond, ◌&&◌, ◌||◌, List, [], ◌∷◌, ◌++◌, length, drop, Option, Some, None, Result, Ok, Err, refl, sym, ap, ◌∙◌, subst, arith}
use Rattle.std.specs.Prelude.{slice_get}
use Rattle.std.specs.List.{list_any}
use Rattle.std.proofs.lemmas.Bool.{and_from, eq-eqb, le-leb}
use Rattle.std.proofs.lemmas.Option.{none-some, same_Some}
use Rattle.coap_message.specs.declared.kind.Kind.{Kind}
use Rattle.coap_message.specs.declared.kind.Kind.TheVariants.{Con, Non, Ack, Rst}
use Rattle.dots_settings.specs.Settings.{SettingsValue}
use Rattle.dots_settings.specs.Lookups.{role_of, prefixes_of}
use Rattle.dots_history.specs.declared.entry.Entry.{Entry}
use Rattle.dots_history.specs.declared.change.Change.{Change}
use Rattle.dots_history.specs.declared.change.Change.TheVariants as change
use Rattle.dots_history.specs.declared.put.Put.{Put}
use Rattle.dots_history.specs.Entries.{is_signal, signals, may_repeat}
use Rattle.dots_history.specs.Histories.{tally}
use Rattle.dots_keys.specs.declared.head_request.Content.{Content}
use Rattle.dots_keys.specs.declared.head_request.MitigationPath.{MitigationPath}
use Rattle.dots_keys.specs.declared.request.Request.{Request}
use Rattle.dots_keys.specs.declared.request.Request.TheVariants as request
use Rattle.dots_keys.specs.declared.request.MitigationBody.{MitigationBody}
use Rattle.conflict_rules.specs.LiveViews.{LiveView}
use Rattle.conflict_rules.specs.declared.fault.PutFault.{PutFault}
use Rattle.conflict_rules.specs.declared.fault.PutFault.TheVariants as faults
use Rattle.conflict_rules.specs.declared.judging.Judged.{Judged}
use Rattle.conflict_rules.specs.declared.target.TargetFault.{TargetFault}
use Rattle.dots_keys.specs.declared.exchange.Exchange.{Exchange}
use Rattle.dots_machine.specs.declared.client_request.ClientRequest.{ClientRequest}
use Rattle.dots_machine.specs.Verdict.{Verdict}
use Rattle.dots_machine.specs.declared.verdict.Verdict.TheVariants as verdict
use Rattle.dots_machine.specs.Domains.{domain_for, config_domain}
use Rattle.conflict_rules.specs.AskableTargets.{scope_fault}
use Rattle.dots_machine.specs.MessageRepeats.{sent_for, IsRepeatOf, unless_repeated}
use Rattle.dots_machine.specs.RepeatRule.{remembered_for}
use Rattle.dots_machine.specs.Mitigations.{key_of, entry_of, sent_by, request_of, refusal, judged, get_reply, unless_faulty, is_taken, delete_by, get_by, client_for}
use Rattle.dots_machine.specs.Machine.{State, DecidesRequest, facts_in}
use Rattle.dots_machine.specs.Apart.{domain_of}
use Rattle.dots_history.specs.declared.config.Config.{Config}
use Rattle.dots_keys.specs.declared.request.ConfigBody.{ConfigBody}
use Rattle.session_core.specs.declared.negotiating.ConfigFault.{ConfigFault}
use Rattle.session_core.specs.declared.negotiating.ConfigFault.TheVariants.{Range, OlderSid}
use Rattle.session_core.specs.Negotiating.{negotiated}
use Rattle.dots_machine.specs.Replies.{configuration_reply, absent}
use Rattle.dots_machine.specs.ConfiguredPeers.{Configured, sid_of, is_held}
use Rattle.dots_machine.specs.Facts.{Facts}
use Rattle.dots_machine.specs.Deciding.{in_domain, with_mid, put_in, put_for, delete_in, delete_for, get_for, config_entry, config_answer, put_config_for, clear_answer, delete_config_for, config_view, answer_to, asks_for}
use Rattle.dots_machine.proofs.Verdicts.{request_valued}

-- ---- an entry whose message may be repeated
pub record Keeps (time peer : ℕ) (x : Exchange) (domain : ℕ) (reply : List ℕ) (entry : Entry) : Type 0 where
  pub time_is : entry.time ≡ time
  pub of_both : signals peer domain entry ≡ true
  pub key_is : entry.key ≡ key_of x.kind x.id
  pub reply_is : entry.reply ≡ reply

signal_of : (peer domain : ℕ) (e : Entry) → is_signal e.change ≡ true → e.peer ≡ peer → e.domain ≡ domain → signals peer domain e ≡ true
unfolding signals
signal_of peer domain e is whose there = and_from _ _ is (and_from _ _ (eq-eqb e.peer peer whose) (eq-eqb e.domain domain there))

put_is_signal : (put : Put) → is_signal (change.Put put) ≡ true
unfolding is_signal
put_is_signal put = refl

configuration_is_signal : (sid : ℕ) (config : Config) → is_signal (change.SetConfig sid config) ≡ true
unfolding is_signal
configuration_is_signal sid config = refl

clearing_is_signal : is_signal change.ClearConfig ≡ true
unfolding is_signal
clearing_is_signal = refl

withdrawal_is_signal : (mid : ℕ) → is_signal (change.Withdraw mid) ≡ true
unfolding is_signal
withdrawal_is_signal mid = refl

-- it may be repeated for so long
may_still : (t id at : ℕ) (kind : Kind) → t ≤ at + remembered_for kind → may_repeat t id at (key_of kind id) ≡ true
unfolding may_repeat
may_still t id at Con early = and_from _ _ (eq-eqb id id refl) (le-leb t (at + 247) early)
may_still t id at Non early = and_from _ _ (eq-eqb id id refl) (le-leb t (at + 145) early)
may_still t id at Ack early = and_from _ _ (eq-eqb id id refl) (le-leb t (at + 145) early)
may_still t id at Rst early = and_from _ _ (eq-eqb id id refl) (le-leb t (at + 145) early)

neither : (a b : Bool) → (a || b) ≡ false → (a ≡ false) × (b ≡ false)
neither true b is = absurd (cc is)
neither false b is = (refl, is)

not_both : (a b : Bool) → (a && b) ≡ false → a ≡ true → b ≡ false
not_both true b out is = out
not_both false b out is = absurd (cc is)

get_there : (xs : List Entry) (e : Entry) (ys : List Entry) → slice_get (xs ++ e ∷ ys) (length xs) ≡ Some e
get_there [] e ys = refl
get_there (x ∷ xs) e ys = get_there xs e ys

drop_there : (xs : List Entry) (e : Entry) (ys : List Entry) → drop (suc (length xs)) (xs ++ e ∷ ys) ≡ ys
drop_there [] e ys = refl
drop_there (x ∷ xs) e ys = drop_there xs e ys

none_of : (test : Entry → Bool) (ys : List Entry) (j : ℕ) (y : Entry) → list_any test ys ≡ false → slice_get ys j ≡ Some y → test y ≡ false
none_of test [] j y none found = absurd (none-some y found)
none_of test (x ∷ ys) zero y none found = ap test (sym (same_Some x y found)) ∙ (neither (test x) (list_any test ys) none).0
none_of test (x ∷ ys) (suc j) y none found = none_of test ys j y (neither (test x) (list_any test ys) none).1 found

none_behind : (test : Entry → Bool) (xs : List Entry) (e : Entry) (ys : List Entry) (j : ℕ) (y : Entry) → list_any test ys ≡ false → length xs < j → slice_get (xs ++ e ∷ ys) j ≡ Some y
    → test y ≡ false
none_behind test [] e ys zero y none less found = absurd (omega (arith, less))
none_behind test [] e ys (suc j) y none less found = none_of test ys j y none found
none_behind test (x ∷ xs) e ys zero y none less found = absurd (omega (arith, less))
none_behind test (x ∷ xs) e ys (suc j) y none less found = none_behind test xs e ys j y none (omega (arith, less)) found

pub entry_is_repeated : (n t time peer : ℕ) (x : Exchange) (domain : ℕ) (reply : List ℕ) (before : List Entry) (entry : Entry) (later : List Entry)
    → Keeps time peer x domain reply entry → t ≤ time + remembered_for x.kind → tally (signals peer domain) later < n
    → list_any (λ (e : Entry). signals peer domain e && may_repeat t x.id e.time e.key) later ≡ false
    → IsRepeatOf n t (before ++ entry ∷ later) (sent_for peer x domain) entry
entry_is_repeated n t time peer x domain reply before entry later keeps early few none = record {
  place = length before;
  there = get_there before entry later;
  of_both = keeps.of_both;
  recent = subst (λ es. tally (signals peer domain) es < n) (sym (drop_there before entry later)) few;
  may = ap (λ at. may_repeat t x.id at entry.key) keeps.time_is ∙ ap (may_repeat t x.id time) keeps.key_is ∙ may_still t x.id time x.kind early;
  last = λ j y less found own.
      not_both (signals peer domain y) (may_repeat t x.id y.time y.key)
      (none_behind (λ (e : Entry). signals peer domain e && may_repeat t x.id e.time e.key) before entry later j y none less found) own;
}

-- ---- what is accepted is kept so
module _ (settings : SettingsValue) (facts : Facts) (peer : ℕ) (x : Exchange) where
  abbrev KeepsFor : ℕ → Verdict → Type 0
  KeepsFor domain (verdict.Accept reply entry) = Keeps facts.time peer x domain reply entry
  KeepsFor domain _ = Unit {0}

  refusal_keeps : (domain mid : ℕ) (fault : PutFault) → KeepsFor domain (refusal x mid fault)
  refusal_keeps domain mid faults.Collision = tt
  refusal_keeps domain mid faults.Changed = tt
  refusal_keeps domain mid faults.UnknownAlias = tt
  refusal_keeps domain mid faults.TooMany = tt
  refusal_keeps domain mid (faults.Higher higher) = tt
  refusal_keeps domain mid (faults.Other prefixes) = tt
  refusal_keeps domain mid (faults.Capacity which number) = tt
  refusal_keeps domain mid faults.NoMemory = tt

  repeat_keeps : (domain : ℕ) (entry : Option Entry) (v : Verdict) → KeepsFor domain v → KeepsFor domain (unless_repeated entry v)
  repeat_keeps domain (Some entry) v kept = tt
  repeat_keeps domain None v kept = kept

  unless_keeps : (domain : ℕ) (fault : Option TargetFault) (v : Verdict) → KeepsFor domain v → KeepsFor domain (unless_faulty x fault v)
  unless_keeps domain (Some fault) v kept = tt
  unless_keeps domain None v kept = kept

  with_mid_keeps : (domain : ℕ) (mid : Option ℕ) (f : ℕ → Verdict) → ((m : ℕ) → KeepsFor domain (f m)) → KeepsFor domain (with_mid x mid f)
  with_mid_keeps domain None f each = tt
  with_mid_keeps domain (Some mid) f each = each mid

  retrieved_keeps : (domain : ℕ) (content : Content) (ms : List LiveView) → KeepsFor domain (get_reply x content ms)
  retrieved_keeps domain content [] = tt
  retrieved_keeps domain content (m ∷ ms) = tt

  module _ (path : MitigationPath) (domain : ℕ) where
    abbrev from : ClientRequest
    from = asks_for peer x path domain

    entry_keeps : (reply : List ℕ) (made : Change) → is_signal made ≡ true → Keeps facts.time peer x domain reply (entry_of facts.time from reply made)
    entry_keeps reply made is = record { time_is = refl; of_both = signal_of peer domain (entry_of facts.time from reply made) is refl refl; key_is = refl; reply_is = refl }

    judged_keeps : (body : MitigationBody) (mid : ℕ) (r : Result Judged PutFault) → KeepsFor domain (judged facts.time (record { from = from; mid = mid; body = body }) r)
    judged_keeps body mid (Ok j) = entry_keeps _ (change.Put j.put) (put_is_signal j.put)
    judged_keeps body mid (Err fault) = refusal_keeps domain mid fault

    put_keeps : (body : MitigationBody) → KeepsFor domain (put_for settings facts peer x path body domain)
    put_keeps body =
        with_mid_keeps domain path.mid (put_in settings facts from body)
        (λ mid.
        unless_keeps domain (scope_fault settings (prefixes_of settings domain) body.asked) _
        (repeat_keeps domain (facts.repeated (sent_by from)) _
        (judged_keeps body mid (facts.judged domain (request_of (record { from = from; mid = mid; body = body }))))))

    delete_keeps : KeepsFor domain (delete_for facts peer x path domain)
    delete_keeps =
        with_mid_keeps domain path.mid (delete_in facts from)
        (λ mid.
        repeat_keeps domain (facts.repeated (sent_by from)) _
        (by_test mid (is_taken facts from) (facts.stands (client_for from) mid)))
      where
        by_test : (mid : ℕ) (taken stands : Bool) → KeepsFor domain (delete_by facts.time from mid taken stands)
        by_test mid true stands = tt
        by_test mid false true = entry_keeps _ (change.Withdraw mid) (withdrawal_is_signal mid)
        by_test mid false false = tt

    get_keeps : (content : Content) → KeepsFor domain (get_for facts peer x path content domain)
    get_keeps content = by_test (is_taken facts from)
      where
        by_test : (taken : Bool) → KeepsFor domain (get_by x path.mid content taken (facts.views (client_for from)))
        by_test true = tt
        by_test false = retrieved_keeps domain content _

  config_entry_keeps : (domain : ℕ) (reply : List ℕ) (made : Change) → is_signal made ≡ true → Keeps facts.time peer x domain reply (config_entry facts.time peer domain x reply made)
  config_entry_keeps domain reply made is =
      record { time_is = refl; of_both = signal_of peer domain (config_entry facts.time peer domain x reply made) is refl refl; key_is = refl; reply_is = refl }

  config_keeps : (sid domain : ℕ) (replaced : Bool) (r : Result Config ConfigFault) → KeepsFor domain (config_answer facts.time peer domain x sid replaced r)
  config_keeps sid domain replaced (Ok config) = config_entry_keeps domain _ (change.SetConfig sid config) (configuration_is_signal sid config)
  config_keeps sid domain replaced (Err (Range key)) = tt
  config_keeps sid domain replaced (Err (OlderSid kept)) = tt

  put_config_keeps : (sid : ℕ) (body : ConfigBody) (domain : ℕ) → KeepsFor domain (put_config_for facts peer x sid body domain)
  put_config_keeps sid body domain =
      repeat_keeps domain (facts.repeated (sent_for peer x domain)) _
      (config_keeps sid domain (is_held sid (facts.configured domain peer)) (negotiated (sid_of (facts.configured domain peer)) sid body))

  clear_keeps : (domain : ℕ) (there : Bool) → KeepsFor domain (clear_answer facts.time peer domain x there)
  clear_keeps domain true = config_entry_keeps domain _ change.ClearConfig clearing_is_signal
  clear_keeps domain false = tt

  delete_config_keeps : (sid domain : ℕ) → KeepsFor domain (delete_config_for facts peer x sid domain)
  delete_config_keeps sid domain =
      repeat_keeps domain (facts.repeated (sent_for peer x domain)) _ (clear_keeps domain (is_held sid (facts.configured domain peer)))

  view_keeps : (domain : ℕ) (sid : Option ℕ) (configured : Option Configured) → KeepsFor domain (config_view x sid configured)
  view_keeps domain None configured = tt
  view_keeps domain (Some sid) configured = by_test (is_held sid configured)
    where
      by_test : (there : Bool) → KeepsFor domain (cond there (verdict.LongReply (configuration_reply x configured)) (verdict.Reply (absent x)))
      by_test true = tt
      by_test false = tt

  -- for the domain of the request
  abbrev KeepsFound : Option ℕ → Verdict → Type 0
  KeepsFound found (verdict.Accept reply entry) = (domain : ℕ) × (found ≡ Some domain) × Keeps facts.time peer x domain reply entry
  KeepsFound found _ = Unit {0}

  of_domain : (domain : ℕ) (v : Verdict) → KeepsFor domain v → KeepsFound (Some domain) v
  of_domain domain verdict.Silent kept = tt
  of_domain domain (verdict.Reply reply) kept = tt
  of_domain domain (verdict.LongReply reply) kept = tt
  of_domain domain (verdict.Retrieves y body) kept = tt
  of_domain domain (verdict.Accept reply entry) kept = (domain, refl, kept)

  in_domain_keeps : (found : Option ℕ) (f : ℕ → Verdict) → ((d : ℕ) → KeepsFor d (f d)) → KeepsFound found (in_domain x found f)
  in_domain_keeps None f each = tt
  in_domain_keeps (Some d) f each = of_domain d (f d) (each d)

  asked_keeps : (r : Request) → KeepsFound (domain_of settings (role_of settings peer) r) (answer_to settings facts peer x r)
  asked_keeps (request.PutMitigation path body) = in_domain_keeps (domain_for settings (role_of settings peer) path.cdid) _ (λ d. put_keeps path d body)
  asked_keeps (request.GetMitigation path content observe) = in_domain_keeps (domain_for settings (role_of settings peer) path.cdid) _ (λ d. get_keeps path d content)
  asked_keeps (request.DeleteMitigation path) = in_domain_keeps (domain_for settings (role_of settings peer) path.cdid) _ (λ d. delete_keeps path d)
  asked_keeps (request.PutConfig sid body) = in_domain_keeps (config_domain (role_of settings peer)) _ (put_config_keeps sid body)
  asked_keeps (request.GetConfig sid) = in_domain_keeps (config_domain (role_of settings peer)) _ (λ d. view_keeps d sid (facts.configured d peer))
  asked_keeps (request.DeleteConfig sid) = in_domain_keeps (config_domain (role_of settings peer)) _ (delete_config_keeps sid)
  asked_keeps (request.PutHeartbeat heard) = tt

pub accepted_keeps : (settings : SettingsValue) (state : State) (peer : ℕ) (x : Exchange) (r : Request) (reply : List ℕ) (entry : Entry)
    → DecidesRequest settings state peer x r (verdict.Accept reply entry)
    → (domain : ℕ) × (domain_of settings (role_of settings peer) r ≡ Some domain) × Keeps state.time peer x domain reply entry
accepted_keeps settings state peer x r reply entry decides =
    subst
    (KeepsFound settings (facts_in settings state) peer x (domain_of settings (role_of settings peer) r))
    (sym (request_valued settings state peer x r (verdict.Accept reply entry) decides))
    (asked_keeps settings (facts_in settings state) peer x r)

-- the entry of an accepted message is the one that its repeats are answered by
pub accepted_is_repeated : (settings : SettingsValue) (state : State) (peer : ℕ) (x : Exchange) (r : Request) (reply : List ℕ) (entry : Entry)
    → DecidesRequest settings state peer x r (verdict.Accept reply entry)
    → (domain : ℕ) × (domain_of settings (role_of settings peer) r ≡ Some domain) × (entry.reply ≡ reply)
    × ((t : ℕ) (later : List Entry) → t ≤ state.time + remembered_for x.kind → tally (signals peer domain) later < settings.limits.remembered
    → list_any (λ (e : Entry). signals peer domain e && may_repeat t x.id e.time e.key) later ≡ false
    → IsRepeatOf settings.limits.remembered t (state.history ++ entry ∷ later) (sent_for peer x domain) entry)
accepted_is_repeated settings state peer x r reply entry decides =
    let kept = accepted_keeps settings state peer x r reply entry decides in (
      kept.0,
      kept.1,
      kept.2.reply_is,
      λ t later early few none. entry_is_repeated settings.limits.remembered t state.time peer x kept.0 reply state.history entry later kept.2 early few none,
    )
