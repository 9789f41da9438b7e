-- A datagram that finds its entry remembered adds nothing.
use Rattle.std.proofs.Common.{◌≡◌, inl, inr, ℕ, List, Option, Some, None, refl, ap, ◌∙◌, subst, sym}
use Rattle.dots_host.specs.declared.event.Event.TheVariants as event
use Rattle.dots_host.specs.declared.out.OwnedOut.{OwnedOut}
use Rattle.dots_settings.specs.Settings.{SettingsValue}
use Rattle.dots_settings.specs.Lookups.{role_of, prefixes_of}
use Rattle.dots_keys.specs.declared.request.Request.{Request}
use Rattle.dots_keys.specs.declared.request.Request.TheVariants as request
use Rattle.dots_history.specs.declared.entry.Entry.{Entry}
use Rattle.conflict_rules.specs.declared.target.TargetFault.{TargetFault}
use Rattle.conflict_rules.specs.AskableTargets.{scope_fault}
use Rattle.dots_keys.specs.declared.exchange.Exchange.{Exchange}
use Rattle.dots_machine.specs.declared.received.Received.TheVariants as received
use Rattle.dots_machine.specs.Verdict.{Verdict}
use Rattle.dots_machine.specs.declared.verdict.Verdict.TheVariants as verdict
use Rattle.dots_machine.specs.Answering.{AreBytes}
use Rattle.dots_machine.specs.Apart.{domain_of}
use Rattle.dots_machine.specs.MessageRepeats.{sent_for, IsRepeatOf, unless_repeated}
use Rattle.dots_machine.specs.Mitigations.{unless_faulty, request_of, judged}
use Rattle.dots_machine.specs.Deciding.{in_domain, with_mid, put_in, put_for, asks_for}
use Rattle.dots_machine.specs.Machine.{State, later, DecidesRequest, Rules, Decides, by_silence, by_rules, for_want_of_memory, after, Step, Answers}
use Rattle.dots_machine.proofs.Hearing.{answer_history, hears_adds, hears_time}
use Rattle.dots_machine.proofs.OneAnswer.{one_thing}
use Rattle.dots_machine.proofs.RepeatAnswers.{request_repeated}
use Rattle.dots_world.specs.Adding.{Carries, CarriesRequest, AddsWhatIsAsked}
use Rattle.dots_world.proofs.Adding.{step_adds}
use Rattle.dots_world.specs.Once.{Finds}
use Rattle.dots_world.proofs.AtOnce.{AtOnce, nothing_back}
use Rattle.dots_machine.specs.Requests.{IsReceived}
use Rattle.dots_machine.specs.Domains.{is_gateway}

module _ (settings : SettingsValue) (state : State) (peer : ℕ) (v : Verdict) where
  abbrev Keeps : Verdict → Type 0
  Keeps w = (after w state).history ≡ state.history

  replied : (reply : List ℕ) → v ≡ verdict.Reply reply → Keeps v
  replied reply is = ap (λ w. (after w state).history) is

  -- a request by which an entry was added is one that repeats, or names what may not be asked for
  request_keeps : (x : Exchange) (r : Request) (domain : ℕ) (entry e : Entry) → Carries settings x r e → domain_of settings (role_of settings peer) r ≡ Some domain
      → IsRepeatOf settings.limits.remembered state.time state.history (sent_for peer x domain) entry → DecidesRequest settings state peer x r v → Keeps v
  request_keeps x (request.PutMitigation path body) domain entry e c found is decides = by (scope_fault settings (prefixes_of settings domain) body.asked) refl
    where
      by : (fault : Option TargetFault) → scope_fault settings (prefixes_of settings domain) body.asked ≡ fault → Keeps v
      by None clear = replied entry.reply (request_repeated settings state peer x domain entry is v (request.PutMitigation path body) (found, (c.put.mid, c.mid), clear) decides)
      by (Some fault) faulty =
          ap (λ w. (after w state).history)
          (decides.2
          ∙ ap (λ o. in_domain x o (put_for settings decides.0 peer x path body)) found
          ∙ ap (λ o. with_mid x o (put_in settings decides.0 (asks_for peer x path domain) body)) c.mid
          ∙ ap (λ f. unless_faulty x f (unless_repeated (decides.0.repeated (sent_for peer x domain))
          (judged decides.0.time (record { from = asks_for peer x path domain; mid = c.put.mid; body = body }) (decides.0.judged domain (request_of (record { from = asks_for peer x path domain; mid = c.put.mid; body = body })))))) faulty)
  request_keeps x (request.DeleteMitigation path) domain entry e c found is decides =
      replied entry.reply (request_repeated settings state peer x domain entry is v (request.DeleteMitigation path) (found, (c.mid, c.mid_is)) decides)
  request_keeps x (request.PutConfig sid body) domain entry e c found is decides =
      replied entry.reply (request_repeated settings state peer x domain entry is v (request.PutConfig sid body) found decides)
  request_keeps x (request.DeleteConfig sid) domain entry e c found is decides =
      replied entry.reply (request_repeated settings state peer x domain entry is v (request.DeleteConfig sid) found decides)
  request_keeps x (request.GetMitigation path content observe) domain entry e c found is decides = absurd c
  request_keeps x (request.GetConfig sid) domain entry e c found is decides = absurd c
  request_keeps x (request.PutHeartbeat heard) domain entry e c found is decides = absurd c

pub found_keeps : (settings : SettingsValue) (old : State) (at peer : ℕ) (bytes : List ℕ) (entry : Entry) (owed : List (State × OwnedOut)) (new : State) → AtOnce old.history → AreBytes bytes
    → Finds settings old at peer bytes entry → Step settings old (event.Datagram peer bytes) at owed new → new.history ≡ old.history
found_keeps settings old at peer bytes entry owed new now are finds st = by (step_adds settings old peer bytes at owed new st)
  where
    a : Answers settings (later old at) peer bytes st.0 new
    a = st.2

    met_is : a.met.history ≡ old.history
    met_is = nothing_back settings (later old at).time peer old.history a.met.history now (hears_adds settings peer bytes (later old at) a.met a.hears)

    -- it finds the entry where its peer was heard, too
    finds_there : (x : Exchange) (asked : Request) (domain : ℕ) → IsReceived bytes (is_gateway (role_of settings peer)) (received.Asked x asked) → domain_of settings (role_of settings peer) asked ≡ Some domain
        → IsRepeatOf settings.limits.remembered a.met.time a.met.history (sent_for peer x domain) entry
    finds_there x asked domain got is =
        subst (λ t. IsRepeatOf settings.limits.remembered t a.met.history (sent_for peer x domain) entry) (sym (hears_time settings peer bytes (later old at) a.met a.hears))
        (subst (λ es. IsRepeatOf settings.limits.remembered (later old at).time es (sent_for peer x domain) entry) (sym met_is) (finds x asked domain got is))

    by_decision : (e : Entry) (c : CarriesRequest settings (later old at).time peer bytes e) (v : Verdict) → Decides settings a.met peer bytes v → (after v a.met).history ≡ a.met.history
    by_decision e c v (by_silence stranger is) = ap (λ w. (after w a.met).history) is
    by_decision e c v (for_want_of_memory known lacks) = ap (λ w. (after w a.met).history) lacks.answer
    by_decision e c v (by_rules known got also rules) =
        request_keeps settings a.met peer v c.exchange c.asked e.domain entry e c.carries c.domain_is (finds_there c.exchange c.asked e.domain c.received c.domain_is)
        (subst (λ g. Rules settings a.met peer g v) (one_thing settings a.met peer bytes are got (received.Asked c.exchange c.asked) also c.received) rules)

    by : AddsWhatIsAsked settings (later old at).time peer bytes old.history new.history → new.history ≡ old.history
    by (met, back, inl same) = same ∙ nothing_back settings (later old at).time peer old.history met now back
    by (met, back, inr (e, is, c)) = answer_history settings (later old at) peer bytes st.0 new a ∙ by_decision e c a.decided a.decides ∙ met_is
