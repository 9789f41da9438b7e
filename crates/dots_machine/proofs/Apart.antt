-- What becomes of a domain depends on its own entries alone.
use Rattle.std.proofs.Common.{◌≡◌, ◌≢◌, ◌⊎◌, ◌==◌, ℕ, Bool, true, false, cond, List, [], ◌∷◌, ◌++◌, max, Option, Some, None, inl, inr, refl, sym, ap, ◌∙◌, subst, arith, append-nil, map, filter}
use Rattle.std.proofs.lemmas.Bool.{both_ways}
use Rattle.std.proofs.lemmas.Bool.Decides.{nat_tests}
use Rattle.std.proofs.lemmas.Option.{none-some, same_Some}
use Rattle.std.specs.List.{list_any}
use Rattle.std.proofs.lemmas.List.Elements.{filter-append}
use Rattle.dots_host.specs.declared.event.Event.{Event}
use Rattle.dots_host.specs.declared.event.Event.TheVariants as event
use Rattle.dots_host.specs.declared.out.OwnedOut.{OwnedOut}
use Rattle.dots_host.specs.Runs.{outs_of, Turn, Chain}
use Rattle.dots_host.proofs.RunLemmas.{outs_back}
use Rattle.dots_settings.specs.Settings.{SettingsValue}
use Rattle.dots_settings.specs.Lookups.{role_of, prefixes_of}
use Rattle.dots_history.specs.Histories.{alone, held}
use Rattle.dots_history.proofs.Alone.{replies_alone}
use Rattle.dots_keys.specs.declared.head_request.Content.{Content}
use Rattle.dots_keys.specs.declared.request.Request.{Request}
use Rattle.dots_keys.specs.declared.request.Request.TheVariants as request
use Rattle.dots_keys.specs.declared.request.MitigationBody.{MitigationBody}
use Rattle.conflict_rules.specs.Statuses.{views_in}
use Rattle.conflict_rules.proofs.Alone.{judged_apart, collides_apart, views_apart}
use Rattle.dots_keys.specs.declared.exchange.Exchange.{Exchange}
use Rattle.dots_machine.specs.declared.received.Received.TheVariants as received
use Rattle.dots_machine.specs.declared.client_request.ClientRequest.{ClientRequest}
use Rattle.dots_machine.specs.declared.mitigation_request.MitigationRequest.{MitigationRequest}
use Rattle.dots_machine.specs.Verdict.{Verdict}
use Rattle.dots_machine.specs.declared.verdict.Verdict.TheVariants as verdict
use Rattle.dots_machine.specs.Domains.{domain_for, config_domain}
use Rattle.conflict_rules.specs.AskableTargets.{scope_fault}
use Rattle.dots_machine.specs.MessageRepeats.{Sent, sent_for, unless_repeated}
use Rattle.dots_machine.specs.Mitigations.{sent_by, request_of, judged, unless_faulty, put_answer, is_taken, delete_by, delete_answer, get_by, get_answer, client_for}
use Rattle.dots_machine.specs.Observing.{number_of}
use Rattle.rest_answers.specs.declared.caller.Caller.{Caller}
use Rattle.rest_answers.specs.Turns.{caller_of}
use Rattle.dots_machine.specs.Machine.{State, later, DecidesRequest, Rules, Decides, by_silence, by_rules, for_want_of_memory, after, Answers, receiving, Takes, Step, facts_in, hearing, lapsed, watched, Hears, by_message, unreadable, by_stranger, AnswersFront}
use Rattle.dots_machine.specs.Apart.{SameFor, domain_of, AsksFor, by_datagram, AsksOn, AsksElsewhere, connected_as, StaysApart, elsewhere, decided_alike, piece_elsewhere, answered_alike, without_request, HaveOnePart, lapsed_alike}
use Rattle.dots_history.specs.Held.{config_of}
use Rattle.dots_keys.specs.declared.request.ConfigBody.{ConfigBody}
use Rattle.session_core.specs.Negotiating.{negotiated}
use Rattle.dots_machine.specs.ConfiguredPeers.{sid_of, is_held}
use Rattle.dots_machine.specs.Facts.{Facts, stands_as, facts_of}
use Rattle.dots_machine.specs.Deciding.{in_domain, with_mid, put_in, put_for, delete_in, delete_for, get_for, config_answer, put_config_for, clear_answer, delete_config_for, config_view, get_config_for, answer_to, asks_for}
use Rattle.dots_machine.proofs.Verdicts.{request_valued, request_there, ruled}
use Rattle.dots_machine.proofs.Hearing.{answer_history, answer_time, tick_history, tick_time}
use Rattle.dots_machine.proofs.Connections.{opens_history}
use Rattle.dots_machine.proofs.Observing.{notified_history, notified_time}
use Rattle.dots_machine.proofs.Fronts.{takes_outs}
use Rattle.dots_machine.proofs.FrontsApart.{on_received, elsewhere_received, fronts_elsewhere, fronts_alike}
use Rattle.dots_machine.proofs.Outcomes.{AcceptsWell, puts_accept, deletes_accept, gets_accept, put_configs_accept, delete_configs_accept, get_configs_accept}
use Rattle.dots_machine.specs.Parts.{Part, is_domain, is_client_in, heard_in, part_of, part_heard, part_lapsed}
use Rattle.dots_settings.specs.declared.peer.Role.{Role}
use Rattle.dots_settings.specs.declared.peer.Role.TheVariants as role
use Rattle.dots_machine.specs.Signals.{domain_of_client, own_domain, last_heard}
use Rattle.dots_machine.proofs.Parting.{own_or_not, is_own_domain, part_is, hearing_own, hearing_other, lapsed_part, notified_part, tick_part}

-- whatever is carried out on both leaves the domain the same
same_after : (domain : ℕ) (one other : State) → SameFor domain one other → (v : Verdict) → SameFor domain (after v one) (after v other)
same_after domain one other same verdict.Silent = same
same_after domain one other same (verdict.Reply reply) = same
same_after domain one other same (verdict.LongReply reply) = same
same_after domain one other same (verdict.Retrieves y body) = same
same_after domain one other same (verdict.Accept reply entry) = record {
  time = same.time;
  entries = filter-append (λ e. e.domain == domain) one.history (entry ∷ []) ∙ ap (λ entries. entries ++ alone domain (entry ∷ [])) same.entries
      ∙ sym (filter-append (λ e. e.domain == domain) other.history (entry ∷ []));
}

module _ (settings : SettingsValue) where
  module _ (domain : ℕ) (one other : State) (same : SameFor domain one other) where
    -- the verdict leaves the entries of the domain as they were
    abbrev pub Untouched : Verdict → Type 0
    Untouched v = alone domain (after v one).history ≡ alone domain one.history

    pub untouched : (another : ℕ) (v : Verdict) → another ≢ domain → AcceptsWell another v → Untouched v
    untouched another verdict.Silent there well = absurd well
    untouched another (verdict.Reply reply) there well = refl
    untouched another (verdict.LongReply reply) there well = refl
    untouched another (verdict.Retrieves y body) there well = refl
    untouched another (verdict.Accept reply entry) there well =
        filter-append (λ e. e.domain == domain) one.history (entry ∷ []) ∙ by_test (entry.domain == domain) refl
      where
        by_test : (own : Bool) → (entry.domain == domain) ≡ own → alone domain one.history ++ cond own (entry ∷ []) [] ≡ alone domain one.history
        by_test true is = absurd (there (sym well.1 ∙ grind (arith, nat_tests, is)))
        by_test false is = append-nil (alone domain one.history)

    -- ---- of two requests for the domain

    with_mid_same : (x : Exchange) (mid : Option ℕ) (f g : ℕ → Verdict) → ((m : ℕ) → f m ≡ g m) → with_mid x mid f ≡ with_mid x mid g
    with_mid_same x None f g each = refl
    with_mid_same x (Some mid) f g each = each mid

    abbrev known : State → Facts
    known state = facts_in settings state

    -- the entry that is remembered is one of the domain
    repeated_there : (sent : Sent) → sent.domain ≡ domain
        → (facts_of settings other.time one.history).repeated sent ≡ (facts_of settings other.time other.history).repeated sent
    repeated_there sent here =
        sym (replies_alone settings.limits.remembered other.time sent.peer sent.domain sent.id one.history)
        ∙ ap (λ es. (facts_of settings other.time es).repeated sent) (subst (λ d. alone d one.history ≡ alone d other.history) (sym here) same.entries)
        ∙ replies_alone settings.limits.remembered other.time sent.peer sent.domain sent.id other.history

    repeated_same : (sent : Sent) → sent.domain ≡ domain → (known one).repeated sent ≡ (known other).repeated sent
    repeated_same sent here = ap (λ t. (facts_of settings t one.history).repeated sent) same.time ∙ repeated_there sent here

    configured_same : (peer : ℕ) → (known one).configured domain peer ≡ (known other).configured domain peer
    configured_same peer = ap (λ es. config_of peer (held es)) same.entries

    put_config_same : (peer : ℕ) (x : Exchange) (sid : ℕ) (body : ConfigBody)
        → put_config_for (facts_in settings one) peer x sid body domain ≡ put_config_for (facts_in settings other) peer x sid body domain
    put_config_same peer x sid body =
        let mine = (known one).configured domain peer in
        ap (λ o. unless_repeated o (config_answer one.time peer domain x sid (is_held sid mine) (negotiated (sid_of mine) sid body))) (repeated_same (sent_for peer x domain) refl)
        ∙ ap (λ t. unless_repeated ((known other).repeated (sent_for peer x domain)) (config_answer t peer domain x sid (is_held sid mine) (negotiated (sid_of mine) sid body))) same.time
        ∙ ap (λ c. unless_repeated ((known other).repeated (sent_for peer x domain)) (config_answer other.time peer domain x sid (is_held sid c) (negotiated (sid_of c) sid body)))
        (configured_same peer)

    delete_config_same : (peer : ℕ) (x : Exchange) (sid : ℕ) → delete_config_for (facts_in settings one) peer x sid domain ≡ delete_config_for (facts_in settings other) peer x sid domain
    delete_config_same peer x sid =
        let mine = (known one).configured domain peer in
        ap (λ o. unless_repeated o (clear_answer one.time peer domain x (is_held sid mine))) (repeated_same (sent_for peer x domain) refl)
        ∙ ap (λ t. unless_repeated ((known other).repeated (sent_for peer x domain)) (clear_answer t peer domain x (is_held sid mine))) same.time
        ∙ ap (λ c. unless_repeated ((known other).repeated (sent_for peer x domain)) (clear_answer other.time peer domain x (is_held sid c))) (configured_same peer)

    module _ (from : ClientRequest) (here : from.domain ≡ domain) where
      own : alone from.domain one.history ≡ alone from.domain other.history
      own = subst (λ d. alone d one.history ≡ alone d other.history) (sym here) same.entries

      put_same : (mid : ℕ) (body : MitigationBody) → put_in settings (facts_in settings one) from body mid ≡ put_in settings (facts_in settings other) from body mid
      put_same mid body =
          let a : MitigationRequest = record { from = from; mid = mid; body = body } in
          let fault = scope_fault settings (prefixes_of settings from.domain) body.asked in
          ap (λ t. put_answer settings (facts_of settings t one.history) a) same.time
          ∙ ap (λ o. unless_faulty from.exchange fault (unless_repeated o (judged other.time a ((facts_of settings other.time one.history).judged from.domain (request_of a)))))
          (repeated_there (sent_by from) here)
          ∙ ap (λ r. unless_faulty from.exchange fault (unless_repeated ((known other).repeated (sent_by from)) (judged other.time a r)))
          (judged_apart settings other.time one.history other.history from.domain (request_of a) own)

      taken_same : is_taken (known one) from ≡ is_taken (known other) from
      taken_same =
          ap (λ t. is_taken (facts_of settings t one.history) from) same.time
          ∙ collides_apart other.time one.history other.history from.peer (record { domain = from.domain; cuid = from.cuid }) own

      shown_same : (known one).views (client_for from) ≡ (known other).views (client_for from)
      shown_same =
          ap (λ t. views_in from.domain from.cuid t one.history) same.time ∙ views_apart other.time one.history other.history from.domain from.cuid own

      delete_same : (mid : ℕ) → delete_answer (known one) from mid ≡ delete_answer (known other) from mid
      delete_same mid =
          ap (λ b. delete_by one.time from mid b (list_any (stands_as mid) ((known one).views (client_for from)))) taken_same
          ∙ ap (λ ms. delete_by one.time from mid (is_taken (known other) from) (list_any (stands_as mid) ms)) shown_same
          ∙ ap (λ t. delete_by t from mid (is_taken (known other) from) (list_any (stands_as mid) ((known other).views (client_for from)))) same.time

      delete_in_same : (mid : ℕ) → delete_in (known one) from mid ≡ delete_in (known other) from mid
      delete_in_same mid =
          ap (λ o. unless_repeated o (delete_answer (known one) from mid)) (repeated_same (sent_by from) here)
          ∙ ap (unless_repeated ((known other).repeated (sent_by from))) (delete_same mid)

      get_same : (mid : Option ℕ) (content : Content) → get_answer (known one) from mid content ≡ get_answer (known other) from mid content
      get_same mid content =
          ap (λ b. get_by from.exchange mid content b ((known one).views (client_for from))) taken_same
          ∙ ap (get_by from.exchange mid content (is_taken (known other) from)) shown_same

    -- ---- of two requests

    abbrev pub Elsewhere : Request → ℕ → Verdict → Type 0
    Elsewhere r peer v =
        (another : ℕ) × (another ≢ domain) × (domain_of settings (role_of settings peer) r ≡ Some another) × Untouched v

    -- for another domain, which leaves this one; or decided alike
    in_domain_apart : (peer : ℕ) (x : Exchange) (r : Request) (found : Option ℕ) (f g : ℕ → Verdict)
        → domain_of settings (role_of settings peer) r ≡ found → ((d : ℕ) → AcceptsWell d (f d)) → f domain ≡ g domain
        → Elsewhere r peer (in_domain x found f) ⊎ (in_domain x found f ≡ in_domain x found g)
    in_domain_apart peer x r None f g is well alike = inr refl
    in_domain_apart peer x r (Some d) f g is well alike = by_test (d == domain) refl
      where
        by_test : (here : Bool) → (d == domain) ≡ here → Elsewhere r peer (f d) ⊎ (f d ≡ g d)
        by_test true here = inr (subst (λ n. f n ≡ g n) (grind (arith, nat_tests, here)) alike)
        by_test false there =
            let apart : d ≢ domain = grind (arith, nat_tests, there) in
            inl (d, apart, is, untouched d (f d) apart (well d))

    pub asked_apart : (peer : ℕ) (x : Exchange) (r : Request) → Elsewhere r peer (answer_to settings (facts_in settings one) peer x r) ⊎ (answer_to settings (facts_in settings one) peer x r ≡ answer_to settings (facts_in settings other) peer x r)
    asked_apart peer x (request.PutMitigation path body) =
        in_domain_apart peer x (request.PutMitigation path body) (domain_for settings (role_of settings peer) path.cdid)
        (put_for settings (facts_in settings one) peer x path body) (put_for settings (facts_in settings other) peer x path body) refl (puts_accept settings (facts_in settings one) peer x path body)
        (with_mid_same x path.mid _ _ (λ mid. put_same (asks_for peer x path domain) refl mid body))
    asked_apart peer x (request.GetMitigation path content observe) =
        in_domain_apart peer x (request.GetMitigation path content observe) (domain_for settings (role_of settings peer) path.cdid)
        (get_for (facts_in settings one) peer x path content) (get_for (facts_in settings other) peer x path content) refl (gets_accept settings (facts_in settings one) peer x path content)
        (get_same (asks_for peer x path domain) refl path.mid content)
    asked_apart peer x (request.DeleteMitigation path) =
        in_domain_apart peer x (request.DeleteMitigation path) (domain_for settings (role_of settings peer) path.cdid)
        (delete_for (facts_in settings one) peer x path) (delete_for (facts_in settings other) peer x path) refl (deletes_accept settings (facts_in settings one) peer x path)
        (with_mid_same x path.mid _ _ (λ mid. delete_in_same (asks_for peer x path domain) refl mid))
    asked_apart peer x (request.PutConfig sid body) =
        in_domain_apart peer x (request.PutConfig sid body) (config_domain (role_of settings peer))
        (put_config_for (facts_in settings one) peer x sid body) (put_config_for (facts_in settings other) peer x sid body) refl
        (put_configs_accept settings (facts_in settings one) peer x sid body) (put_config_same peer x sid body)
    asked_apart peer x (request.GetConfig sid) =
        in_domain_apart peer x (request.GetConfig sid) (config_domain (role_of settings peer))
        (get_config_for (facts_in settings one) peer x sid) (get_config_for (facts_in settings other) peer x sid) refl
        (get_configs_accept settings (facts_in settings one) peer x sid) (ap (config_view x sid) (configured_same peer))
    asked_apart peer x (request.DeleteConfig sid) =
        in_domain_apart peer x (request.DeleteConfig sid) (config_domain (role_of settings peer))
        (delete_config_for (facts_in settings one) peer x sid) (delete_config_for (facts_in settings other) peer x sid) refl
        (delete_configs_accept settings (facts_in settings one) peer x sid) (delete_config_same peer x sid)
    asked_apart peer x (request.PutHeartbeat heard) = inr refl

    module _ (peer : ℕ) (datagram : List ℕ) (decided : Verdict) where
      abbrev pub ForAnother : Type 0
      ForAnother = (another : ℕ) × (another ≢ domain) × AsksFor settings another (event.Datagram peer datagram) × (alone domain (after decided one).history ≡ alone domain one.history)

      -- the datagram is for another domain, or it is decided on alike there
      pub decided_apart : Decides settings one peer datagram decided → ForAnother ⊎ Decides settings other peer datagram decided
      decided_apart (by_silence n is) = inr (by_silence n is)
      decided_apart (for_want_of_memory n lacks) = inr (for_want_of_memory n lacks)
      decided_apart (by_rules n (received.Unread d) got is) = inr (by_rules n (received.Unread d) got (ruled settings other peer (received.Unread d) decided is.2))
      decided_apart (by_rules n (received.Dismissed d) got is) = inr (by_rules n (received.Dismissed d) got (ruled settings other peer (received.Dismissed d) decided is.2))
      decided_apart (by_rules n (received.Refused x e) got is) = inr (by_rules n (received.Refused x e) got (ruled settings other peer (received.Refused x e) decided is.2))
      decided_apart (by_rules n (received.Asked x r) got is) = joined (asked_apart peer x r)
        where
          there : answer_to settings (facts_in settings one) peer x r ≡ answer_to settings (facts_in settings other) peer x r → Rules settings other peer (received.Asked x r) decided
          there alike = subst (DecidesRequest settings other peer x r) (sym (request_valued settings one peer x r decided is ∙ alike)) (request_there settings other peer x r)

          joined : Elsewhere r peer (answer_to settings (facts_in settings one) peer x r) ⊎ (answer_to settings (facts_in settings one) peer x r ≡ answer_to settings (facts_in settings other) peer x r)
              → ForAnother ⊎ Decides settings other peer datagram decided
          joined (inl (another, there, found, none)) =
              inl (another, there, by_datagram peer datagram x r refl got found, ap (λ v. alone domain (after v one).history) (request_valued settings one peer x r decided is) ∙ none)
          joined (inr alike) = inr (by_rules n (received.Asked x r) got (there alike))

  -- ---- who is heard

  module _ (domain : ℕ) where
    one_part_of : (one other : State) → one.time ≡ other.time → part_of settings domain one ≡ part_of settings domain other → HaveOnePart settings domain one other
    one_part_of one other time same = record {
      same = record { time = time; entries = ap (λ (part : Part). part.entries) same };
      heard = ap (λ (part : Part). part.heard) same;
    }

    parts_of : (one other : State) → HaveOnePart settings domain one other → part_of settings domain one ≡ part_of settings domain other
    parts_of one other same = part_is settings domain _ _ _ _ same.same.entries same.heard

    -- a client of the domain asks for it alone
    asks_elsewhere : (who : Role) (r : Request) (another : ℕ) → domain_of settings who r ≡ Some another → another ≢ domain → domain_of_client who ≢ Some domain
    asks_elsewhere (role.Client d) (request.PutHeartbeat heard) another asks out own = absurd (none-some another asks)
    asks_elsewhere (role.Client d) (request.PutMitigation path body) another asks out own = out (same_Some another domain (sym asks ∙ own))
    asks_elsewhere (role.Client d) (request.GetMitigation path content observe) another asks out own = out (same_Some another domain (sym asks ∙ own))
    asks_elsewhere (role.Client d) (request.DeleteMitigation path) another asks out own = out (same_Some another domain (sym asks ∙ own))
    asks_elsewhere (role.Client d) (request.PutConfig sid body) another asks out own = out (same_Some another domain (sym asks ∙ own))
    asks_elsewhere (role.Client d) (request.GetConfig sid) another asks out own = out (same_Some another domain (sym asks ∙ own))
    asks_elsewhere (role.Client d) (request.DeleteConfig sid) another asks out own = out (same_Some another domain (sym asks ∙ own))
    asks_elsewhere role.Gateway r another asks out own = none-some domain own
    asks_elsewhere role.Stranger r another asks out own = none-some domain own

    module _ (peer : ℕ) (datagram : List ℕ) where
      -- who is no client of the domain leaves it
      pub heard_elsewhere : (state met : State) → own_domain settings peer ≢ Some domain → Hears settings state peer datagram met → part_of settings domain met ≡ part_of settings domain state
      heard_elsewhere state met out (by_message known m is spelled e) = ap (part_of settings domain) e ∙ hearing_other settings domain state peer out
      heard_elsewhere state met out (unreadable fault breaks e) = ap (part_of settings domain) e
      heard_elsewhere state met out (by_stranger unknown e) = ap (part_of settings domain) e

      hearing_same : (state other : State) → HaveOnePart settings domain state other → HaveOnePart settings domain (hearing settings peer state) (hearing settings peer other)
      hearing_same state other same = by_own (own_domain settings peer) refl
        where
          by_parts : (own : Bool) → is_domain domain (own_domain settings peer) ≡ own → part_of settings domain (hearing settings peer state) ≡ part_of settings domain (hearing settings peer other)
          by_parts true is =
              let own = own_or_not domain (own_domain settings peer) is in
              hearing_own settings domain state peer own
              ∙ ap (λ t. part_heard settings t peer (part_of settings domain state)) same.same.time
              ∙ ap (part_heard settings other.time peer) (parts_of state other same)
              ∙ sym (hearing_own settings domain other peer own)
          by_parts false never =
              let out : own_domain settings peer ≢ Some domain = λ own. both_ways (is_domain domain (own_domain settings peer)) never (is_own_domain domain (own_domain settings peer) own) in
              hearing_other settings domain state peer out ∙ parts_of state other same ∙ sym (hearing_other settings domain other peer out)

          by_own : (own : Option ℕ) → own_domain settings peer ≡ own → HaveOnePart settings domain (hearing settings peer state) (hearing settings peer other)
          by_own own is = one_part_of (hearing settings peer state) (hearing settings peer other) same.same.time (by_parts (is_domain domain (own_domain settings peer)) refl)

      -- it is heard in the same way elsewhere
      heard_alike : (state other met : State) → HaveOnePart settings domain state other → Hears settings state peer datagram met
          → (last : State) × Hears settings other peer datagram last × HaveOnePart settings domain met last
      heard_alike state other met same (by_message known m is spelled e) = (
        hearing settings peer other,
        by_message known m is spelled refl,
        subst (λ s. HaveOnePart settings domain s (hearing settings peer other)) (sym e) (hearing_same state other same),
      )
      heard_alike state other met same (unreadable fault breaks e) = (other, unreadable fault breaks refl, subst (λ s. HaveOnePart settings domain s other) (sym e) same)
      heard_alike state other met same (by_stranger unknown e) = (other, by_stranger unknown refl, subst (λ s. HaveOnePart settings domain s other) (sym e) same)

  pub fronts_contacts : (conn : ℕ) (state : State) (turns : List (Turn State)) (new : State) → Chain (AnswersFront settings conn) state turns new → new.contacts ≡ state.contacts
  fronts_contacts conn state [] new x = ap (λ (s : State). s.contacts) x
  fronts_contacts conn state (turn ∷ turns) new x = fronts_contacts conn turn.left turns new x.1 ∙ ap (λ (s : State). s.contacts) x.0.3

  pub after_contacts : (v : Verdict) (state : State) → (after v state).contacts ≡ state.contacts
  after_contacts verdict.Silent state = refl
  after_contacts (verdict.Reply reply) state = refl
  after_contacts (verdict.LongReply reply) state = refl
  after_contacts (verdict.Retrieves y body) state = refl
  after_contacts (verdict.Accept reply entry) state = refl

  pub heard_of : (domain : ℕ) (one other : State) → one.contacts ≡ other.contacts → heard_in settings domain one ≡ heard_in settings domain other
  heard_of domain one other same = ap (λ rows. filter (is_client_in settings domain) (map last_heard rows)) same

  module _ (domain : ℕ) (old other : State) (same : HaveOnePart settings domain old other) (at : ℕ) (new : State) where
    moved : HaveOnePart settings domain (later old at) (later other at)
    moved = record { same = record { time = ap (λ time. max at time) same.same.time; entries = same.same.entries }; heard = same.heard }

    pub step_apart : (event : Event) (owed : List (State × OwnedOut)) → Step settings old event at owed new → StaysApart settings domain old other event at (outs_of owed) new
    step_apart (event.Datagram peer datagram) owed step = joined (decided_apart domain a.met left alike.2.same peer datagram a.decided a.decides)
      where
        a : Answers settings (later old at) peer datagram step.0 new
        a = step.2

        alike : (last : State) × Hears settings (later other at) peer datagram last × HaveOnePart settings domain a.met last
        alike = heard_alike domain peer datagram (later old at) (later other at) a.met moved a.hears

        left : State
        left = alike.0

        history_is : new.history ≡ (after a.decided a.met).history
        history_is = answer_history settings (later old at) peer datagram step.0 new a

        left_same : SameFor domain (after a.decided a.met) (after a.decided left)
        left_same = same_after domain a.met left alike.2.same a.decided

        time_is : new.time ≡ (after a.decided a.met).time
        time_is = notified_time settings (watched settings peer a.asked a.decided a.replies (after a.decided a.met)) new a.notices a.notified

        heard_is : heard_in settings domain new ≡ heard_in settings domain (after a.decided left)
        heard_is =
            ap (λ (part : Part). part.heard) (notified_part settings domain (watched settings peer a.asked a.decided a.replies (after a.decided a.met)) new a.notices a.notified)
            ∙ heard_of domain (after a.decided a.met) a.met (after_contacts a.decided a.met) ∙ alike.2.heard
            ∙ sym (heard_of domain (after a.decided left) left (after_contacts a.decided left))

        asked_elsewhere : (another : ℕ) → another ≢ domain → AsksFor settings another (event.Datagram peer datagram) → own_domain settings peer ≢ Some domain
        asked_elsewhere another there (by_datagram p bytes x r is got found) =
            let same_peer : peer ≡ p = cc is in
            subst (λ p. own_domain settings p ≢ Some domain) (sym same_peer) (asks_elsewhere domain (role_of settings p) r another found there)

        joined : ForAnother domain a.met left alike.2.same peer datagram a.decided ⊎ Decides settings left peer datagram a.decided
            → StaysApart settings domain old other (event.Datagram peer datagram) at (outs_of owed) new
        joined (inl (another, there, asks, none)) =
            elsewhere another there asks
            (ap (alone domain) history_is ∙ none ∙ ap (λ (part : Part). part.entries) (heard_elsewhere domain peer datagram (later old at) a.met (asked_elsewhere another there asks) a.hears))
        joined (inr also) =
            decided_alike peer datagram a.met left a.decided (number_of settings a.asked a.met.observers) a.notices refl a.hears alike.1 a.decides also
            (ap outs_of step.1 ∙ outs_back new step.0 ∙ a.sends_are ∙ ap (λ replies. replies ++ a.notices) a.replies_are)
            (record { same = record { time = time_is ∙ left_same.time; entries = ap (alone domain) history_is ∙ left_same.entries }; heard = heard_is })
    step_apart event.End owed step = without_request tt (ap (λ (state : State). alone domain state.history) step.1)
    step_apart event.Failed owed step = without_request tt (ap (λ (state : State). alone domain state.history) step.1)
    step_apart (event.Opened c p) owed step = without_request tt (ap (alone domain) (opens_history (later old at) p c step.0 new step.2))
    step_apart (event.Piece conn piece) owed step = by_caller (caller_of settings conn old.lines) refl
      where
        state : State
        state = receiving conn piece (later old at)

        x : Takes settings conn state step.0 new
        x = step.2

        history_is : new.history ≡ x.rested.history
        history_is = notified_history settings x.rested new x.notices x.notified

        Apartly : Type 0
        Apartly = StaysApart settings domain old other (event.Piece conn piece) at (outs_of owed) new

        away : AsksElsewhere settings domain conn old → Apartly
        away asks =
            piece_elsewhere conn piece refl asks
            (ap (alone domain) history_is ∙ fronts_elsewhere settings conn domain state x.answered x.rested x.fronts (elsewhere_received settings conn domain piece (later old at) asks))

        here : AsksOn settings domain conn old → Apartly
        here asks =
            let a = fronts_alike settings conn domain state (receiving conn piece (later (connected_as old other) at)) x.answered x.rested x.fronts (on_received settings conn domain piece (later old at) asks) refl
            (record { time = moved.same.time; entries = moved.same.entries }) in
            answered_alike conn piece x.answered a.0 x.rested a.1 x.notices refl asks x.fronts a.2 a.3 (ap outs_of step.1 ∙ takes_outs settings conn state step.0 new x)
            (record {
              same = record { time = notified_time settings x.rested new x.notices x.notified ∙ a.4.time; entries = ap (alone domain) history_is ∙ a.4.entries };
              heard = ap (λ (part : Part). part.heard) (notified_part settings domain x.rested new x.notices x.notified)
                  ∙ heard_of domain x.rested (later old at) (fronts_contacts conn state x.answered x.rested x.fronts) ∙ moved.heard
                  ∙ sym (heard_of domain a.1 (later other at) (fronts_contacts conn (receiving conn piece (later (connected_as old other) at)) a.0 a.1 a.2));
            })

        by_caller : (found : Option Caller) → caller_of settings conn old.lines ≡ found → Apartly
        by_caller None is = away (λ caller there. absurd (none-some caller (sym is ∙ there)))
        by_caller (Some caller) is = by_test (caller.domain == domain) refl
          where
            one : (c : Caller) → caller_of settings conn old.lines ≡ Some c → caller ≡ c
            one c there = same_Some caller c (sym is ∙ there)

            by_test : (own : Bool) → (caller.domain == domain) ≡ own → Apartly
            by_test true own = here (λ c there. ap (λ (c : Caller). c.domain) (sym (one c there)) ∙ grind (arith, nat_tests, own))
            by_test false out = away (λ c there same. both_ways (caller.domain == domain) out (let is : caller.domain ≡ domain = ap (λ (c : Caller). c.domain) (one c there) ∙ same in grind (arith, nat_tests, is)))
    step_apart (event.Closed c) owed step = without_request tt (ap (λ (state : State). alone domain state.history) step.1)
    step_apart event.Tick owed step =
        lapsed_alike refl
        (one_part_of domain new (lapsed settings (later other at)) (tick_time settings (later old at) step.0 new step.2 ∙ moved.same.time)
        (tick_part settings domain (later old at) step.0 new step.2
        ∙ ap (λ t. part_lapsed settings t (part_of settings domain (later old at))) moved.same.time
        ∙ ap (part_lapsed settings (later other at).time) (parts_of domain (later old at) (later other at) moved)
        ∙ sym (lapsed_part settings domain (later other at))))
    step_apart event.Restart owed step = without_request tt (ap (λ (state : State). alone domain state.history) step.1)
