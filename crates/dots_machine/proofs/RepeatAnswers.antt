-- A repeat of an accepted message is answered as the message was, and adds nothing.
use Rattle.std.proofs.Common.{refl, ◌≡◌, ◌⊎◌, inl, inr, ℕ, false, List, ◌++◌, Option, Some, None, sym, ap, ◌∙◌, subst}
use Rattle.std.proofs.lemmas.Bool.{both_ways}
use Rattle.dots_host.specs.declared.event.Event.TheVariants as event
use Rattle.dots_host.specs.declared.out.OwnedOut.{OwnedOut}
use Rattle.dots_host.specs.Acts.{Timed}
use Rattle.dots_host.specs.Runs.{resting, outs_of, Trace}
use Rattle.dots_host.proofs.RunLemmas.{outs_back}
use Rattle.dots_settings.specs.Settings.{SettingsValue}
use Rattle.dots_settings.specs.Lookups.{role_of}
use Rattle.dots_history.specs.declared.entry.Entry.{Entry}
use Rattle.dots_keys.specs.declared.request.Request.{Request}
use Rattle.dots_keys.specs.declared.request.Request.TheVariants as request
use Rattle.dots_keys.specs.declared.exchange.Exchange.{Exchange}
use Rattle.dots_machine.specs.declared.received.Received.TheVariants as received
use Rattle.dots_machine.specs.declared.client_request.ClientRequest.{ClientRequest}
use Rattle.dots_machine.specs.declared.mitigation_request.MitigationRequest.{MitigationRequest}
use Rattle.dots_machine.specs.Verdict.{Verdict}
use Rattle.dots_machine.specs.declared.verdict.Verdict.TheVariants as verdict
use Rattle.dots_machine.specs.Domains.{is_gateway, is_stranger}
use Rattle.dots_machine.specs.Requests.{IsReceived}
use Rattle.dots_machine.specs.MessageRepeats.{Repeats, unless_repeated, sent_for, IsRepeatOf}
use Rattle.dots_machine.specs.Mitigations.{request_of, judged, unless_faulty, delete_answer}
use Rattle.dots_machine.specs.Machine.{State, later, hearing, DecidesRequest, Rules, Decides, by_silence, by_rules, for_want_of_memory, sends_of, after, watched, Notified, Answers, Step}
use Rattle.dots_machine.specs.Observing.{watching_of, number_of}
use Rattle.dots_machine.specs.declared.watching.Watching.TheVariants as watching
use Rattle.dots_machine.proofs.Observing.{asks_once}
use Rattle.dots_machine.specs.Answering.{AreBytes, SaysUnavailable, IsUnavailable}
use Rattle.dots_machine.specs.RepeatRule.{AsksToChange}
use Rattle.dots_machine.specs.Handlings.{Handling, IsHandling, EachHandling, handlings_of}
use Rattle.dots_machine.specs.RepeatAnswers.{IsRepeated, AnswersRepeats}
use Rattle.session_core.specs.Negotiating.{negotiated}
use Rattle.dots_machine.specs.ConfiguredPeers.{Configured, sid_of, is_held}
use Rattle.dots_machine.specs.Facts.{Facts, AreFacts}
use Rattle.dots_machine.specs.Deciding.{in_domain, with_mid, put_in, put_for, delete_in, delete_for, config_answer, put_config_for, clear_answer, delete_config_for, answer_to, asks_for}
use Rattle.dots_machine.proofs.MessageRepeats.{one_repeated}
use Rattle.dots_machine.proofs.Hearing.{asked_is_heard}
use Rattle.dots_machine.proofs.Returning.{back_repeats}
use Rattle.dots_machine.proofs.OneAnswer.{one_thing, says}
use Rattle.dots_machine.proofs.Handlings.{by_handlings, each_weaker}

module _ (settings : SettingsValue) (state : State) (peer : ℕ) (x : Exchange) (domain : ℕ) (entry : Entry)
    (is : IsRepeatOf settings.limits.remembered state.time state.history (sent_for peer x domain) entry) (v : Verdict) where
  abbrev Repeated : Type 0
  Repeated = v ≡ verdict.Reply entry.reply

  module _ (facts : Facts) (are : AreFacts settings state.time state.history facts) where
    repeat_is : (otherwise : Verdict) → unless_repeated (facts.repeated (sent_for peer x domain)) otherwise ≡ verdict.Reply entry.reply
    repeat_is otherwise = by_found (facts.repeated (sent_for peer x domain)) (are.repeated (sent_for peer x domain))
      where
        by_found : (o : Option Entry) → Repeats settings.limits.remembered state.time state.history (sent_for peer x domain) o → unless_repeated o otherwise ≡ verdict.Reply entry.reply
        by_found (Some other) also =
            ap (λ (e : Entry). verdict.Reply e.reply) (one_repeated settings.limits.remembered state.time (sent_for peer x domain) state.history other entry also is)
        by_found None never = absurd (never entry is)

    abbrev configured : Option Configured
    configured = facts.configured domain peer

    answer_repeated : (r : Request) → AsksToChange settings (role_of settings peer) domain r → answer_to settings facts peer x r ≡ verdict.Reply entry.reply
    answer_repeated (request.PutMitigation path body) (found, (mid, has), clear) =
        let from : ClientRequest = asks_for peer x path domain in
        let asked : MitigationRequest = record { from = from; mid = mid; body = body } in
        let decided : Verdict = judged facts.time asked (facts.judged domain (request_of asked)) in
        ap (λ o. in_domain x o (put_for settings facts peer x path body)) found
        ∙ ap (λ o. with_mid x o (put_in settings facts from body)) has
        ∙ ap (λ fault. unless_faulty x fault (unless_repeated (facts.repeated (sent_for peer x domain)) decided)) clear
        ∙ repeat_is decided
    answer_repeated (request.DeleteMitigation path) (found, (mid, has)) =
        let from : ClientRequest = asks_for peer x path domain in
        ap (λ o. in_domain x o (delete_for facts peer x path)) found ∙ ap (λ o. with_mid x o (delete_in facts from)) has ∙ repeat_is (delete_answer facts from mid)
    answer_repeated (request.PutConfig sid body) found =
        ap (λ o. in_domain x o (put_config_for facts peer x sid body)) found
        ∙ repeat_is (config_answer facts.time peer domain x sid (is_held sid configured) (negotiated (sid_of configured) sid body))
    answer_repeated (request.DeleteConfig sid) found =
        ap (λ o. in_domain x o (delete_config_for facts peer x sid)) found ∙ repeat_is (clear_answer facts.time peer domain x (is_held sid configured))
    answer_repeated (request.GetMitigation path content observe) none = absurd none
    answer_repeated (request.GetConfig sid) none = absurd none
    answer_repeated (request.PutHeartbeat heard) none = absurd none

  pub request_repeated : (r : Request) → AsksToChange settings (role_of settings peer) domain r → DecidesRequest settings state peer x r v → Repeated
  request_repeated r asks decides = decides.2 ∙ answer_repeated decides.0 decides.1 r asks

module _ (settings : SettingsValue) (old : State) (peer : ℕ) (datagram : List ℕ) (at : ℕ) (owed : List (State × OwnedOut)) (new : State) where
  abbrev Says : List ℕ → Type 0
  Says reply = IsRepeated settings old peer reply at (outs_of owed) new

  change_asks : (x : Exchange) (r : Request) (domain : ℕ) → AsksToChange settings (role_of settings peer) domain r → watching_of settings peer (received.Asked x r) ≡ watching.Nothing
  change_asks x (request.PutMitigation path body) domain asks = refl
  change_asks x (request.DeleteMitigation path) domain asks = refl
  change_asks x (request.PutConfig sid body) domain asks = refl
  change_asks x (request.DeleteConfig sid) domain asks = refl
  change_asks x (request.GetMitigation path content said) domain asks = absurd asks
  change_asks x (request.GetConfig sid) domain asks = absurd asks
  change_asks x (request.PutHeartbeat heard) domain asks = absurd asks

  pub step_repeated : (x : Exchange) (r : Request) (domain : ℕ) (entry : Entry) → AreBytes datagram → is_stranger (role_of settings peer) ≡ false
      → IsReceived datagram (is_gateway (role_of settings peer)) (received.Asked x r) → AsksToChange settings (role_of settings peer) domain r
      → IsRepeatOf settings.limits.remembered (later old at).time old.history (sent_for peer x domain) entry
      → Step settings old (event.Datagram peer datagram) at owed new → Says entry.reply ⊎ IsUnavailable (event.Datagram peer datagram) owed
  step_repeated x r domain entry are known got asks is step = by_decision a.decides
    where
      a : Answers settings (later old at) peer datagram step.0 new
      a = step.2

      sent : outs_of owed ≡ step.0
      sent = ap outs_of step.1 ∙ outs_back new step.0

      asked_is : a.asked ≡ watching.Nothing
      asked_is = asks_once settings peer datagram (received.Asked x r) a.asked known got a.watches ∙ change_asks x r domain asks

      met_is : a.met ≡ hearing settings peer (later old at)
      met_is = asked_is_heard settings peer datagram (is_gateway (role_of settings peer)) x r (later old at) a.met known got a.hears

      -- it is a repeat where its peer was heard, too
      is_there : IsRepeatOf settings.limits.remembered a.met.time a.met.history (sent_for peer x domain) entry
      is_there =
          subst (λ (met : State). IsRepeatOf settings.limits.remembered met.time met.history (sent_for peer x domain) entry) (sym met_is)
          (back_repeats settings (later old at) peer x domain entry is)

      told : a.decided ≡ verdict.Reply entry.reply → Says entry.reply
      told same = (
        a.notices,
        sent ∙ a.sends_are ∙ ap (λ replies. replies ++ a.notices) (a.replies_are ∙ ap (λ v. sends_of (number_of settings a.asked a.met.observers) v peer) same),
        subst (λ from. Notified settings from a.notices new) (
            ap (λ asked. watched settings peer asked a.decided a.replies (after a.decided a.met)) asked_is
            ∙ ap (λ v. after v a.met) same
            ∙ met_is
            ) a.notified,
      )

      by_decision : Decides settings a.met peer datagram a.decided → Says entry.reply ⊎ IsUnavailable (event.Datagram peer datagram) owed
      by_decision (by_silence stranger silent) = absurd (both_ways (is_stranger (role_of settings peer)) known stranger)
      by_decision (for_want_of_memory n lacks) = inr (subst (SaysUnavailable peer datagram) (sym sent) (says settings (later old at) peer datagram are step.0 new a lacks))
      by_decision (by_rules n other also rules) =
          inl (told (request_repeated settings a.met peer x domain entry is_there a.decided r asks
          (subst (λ got. Rules settings a.met peer got a.decided) (one_thing settings a.met peer datagram are other (received.Asked x r) also got) rules)))

pub handling_repeats : (settings : SettingsValue) (old : State) (handling : Handling) (new : State) → IsHandling settings old handling new → AnswersRepeats settings old handling new
handling_repeats settings old handling new is = record {
  handled = is;
  repeated = λ peer datagram x r domain entry what are known got asks repeats.
      subst (λ w. IsRepeated settings old peer entry.reply handling.at handling.sends new ⊎ IsUnavailable w is.owed) (sym what)
      (subst (λ sends. IsRepeated settings old peer entry.reply handling.at sends new ⊎ IsUnavailable (event.Datagram peer datagram) is.owed) is.sent
      (step_repeated settings old peer datagram handling.at is.owed new x r domain entry are known got asks repeats (subst (λ w. Step settings old w handling.at is.owed new) what is.step)));
}

pub run_repeats : (settings : SettingsValue) (from : State) (acts : List Timed) (trace : List State) (new : State) → Trace (Step settings) (resting from) acts trace (resting new)
    → EachHandling (AnswersRepeats settings) from (handlings_of acts) new
run_repeats settings from acts trace new run =
    each_weaker (IsHandling settings) (AnswersRepeats settings) (handling_repeats settings) from (handlings_of acts) new (by_handlings settings (resting from) acts trace new run)
